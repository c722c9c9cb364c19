-- A diamond of ports, the plan of it, and the packages that come of it.
use Rattle.std.specs.Prelude.{ℕ, Bool, false, List, [], ◌∷◌, ◌++◌, codes, None}
use Rattle.bulk_base.specs.declared.file.Switch.{Switch}
use Rattle.bulk_model.specs.declared.depend.Depend.{Depend}
use Rattle.bulk_model.specs.declared.depend.DepKind.{DepKind}
use Rattle.bulk_model.specs.declared.depend.DepKind.TheVariants.{Build, Lib}
use Rattle.bulk_model.specs.declared.plan.Edge.{Edge}
use Rattle.bulk_model.specs.Bake.{package_of}
use Rattle.bulk_model.specs.PlanView.{PlanView}
use Rattle.bulk_model.specs.Views.{JobView, PackageView}

-- ---- the ports: `left` and `right` are built with `bot`, and `top` is linked with both

abbrev pub name_of : List ℕ → List ℕ
name_of port = port ++ codes "-1"

abbrev pub origin_of : List ℕ → List ℕ
origin_of port = codes "a/" ++ port

abbrev pub need : DepKind → List ℕ → Depend
need kind port = record { kind = kind; node = origin_of port; name = name_of port }

-- a port without files and commands
abbrev pub port : List ℕ → List Switch → List Depend → JobView
port name options depends = record {
  name = name_of name;
  origin = origin_of name;
  flavor = None;
  options = options;
  depends = depends;
  steps = record { extract = []; patch = []; configure = []; build = []; stage = [] };
  files = [];
}

abbrev pub bot : JobView
bot = port (codes "bot") [] []

abbrev pub left : JobView
left = port (codes "left") [] (need Build (codes "bot") ∷ [])

-- with its option on or off
abbrev pub right : Bool → JobView
right on =
    port (codes "right") (record { name = codes "DOCS"; on = on } ∷ [])
    (need Build (codes "bot") ∷ [])

abbrev pub top : JobView
top = port (codes "top") [] (need Lib (codes "left") ∷ need Lib (codes "right") ∷ [])

abbrev pub tree : Bool → List JobView
tree on = bot ∷ left ∷ right on ∷ top ∷ []

abbrev pub to : DepKind → ℕ → Edge
to kind n = record { kind = kind; to = n }

abbrev pub diamond : Bool → PlanView
diamond on = record {
  jobs = tree on;
  edges = [] ∷ (to Build 0 ∷ []) ∷ (to Build 0 ∷ []) ∷ (to Lib 1 ∷ to Lib 2 ∷ []) ∷ [];
  ignored = None ∷ None ∷ None ∷ None ∷ [];
  wanted = 3 ∷ [];
  base = [];
  boosted = false ∷ false ∷ false ∷ false ∷ [];
}

-- ---- their packages, which have no files

abbrev pub bot_package : PackageView
bot_package = package_of [] bot [] []

abbrev pub left_package : PackageView
left_package = package_of [] left (bot_package ∷ []) []

abbrev pub right_package : Bool → PackageView
right_package on = package_of [] (right on) (bot_package ∷ []) []

abbrev pub top_package : PackageView
top_package = package_of [] top (left_package ∷ right_package false ∷ []) []
