-- The first package that was built for each node.
use Rattle.std.specs.Prelude.{◌≡◌, ℕ, List, bytes_eq, if◌then◌else◌}
use Rattle.std.specs.declared.option.Option.TheVariants.{None, Some}
use Rattle.std.specs.Option.{option_or}
use Rattle.std.specs.List.{find}
use Rattle.std.specs.Ordering.{nat_cmp}
use Rattle.std.specs.Cmp.Lexicographic.{slice_cmp}
use Rattle.std.specs.FinMap.{FinMap, get}
use Rattle.bulk_model.specs.Views.{PackageView, node_of_package}

-- a finite map from the names of nodes to packages
abbrev pub Firsts : Type 0
Firsts = FinMap (slice_cmp nat_cmp) PackageView

-- a map gives each node the first of some packages that was built for it
abbrev pub AreFirst : List PackageView → Firsts → Type 0
AreFirst packages firsts =
    (node : List ℕ) → get firsts node ≡ find (λ p. bytes_eq node (node_of_package p)) packages

-- a node that has no package gets one; the others stay as they are
abbrev pub Gains : Firsts → List ℕ → PackageView → Firsts → Type 0
Gains old node made new =
    (other : List ℕ) → get new other
    ≡ option_or (get old other) (if bytes_eq other node then Some made else None)
