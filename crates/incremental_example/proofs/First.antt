-- The first run.
use Rattle.std.proofs.Common.{◌≡◌, ℕ, zero, suc, ◌<◌, Bool, true, false, List, [], ◌∷◌, refl, ap, subst, ◌∙◌, arith, Option, Some, None, inl, inr}
use Rattle.std.specs.Prelude.{◌&&◌, ◌||◌, codes, map, filter, is_some, bytes_eq, Contains}
use Rattle.std.specs.List.{IsDistinct, filter_map, cons_option}
use Rattle.std.specs.Option.{option_and_then}
use Rattle.bulk_base.proofs.Members.{contains_cases, contains_none}
use Rattle.outside.specs.Changes.{replayed}
use Rattle.outside.specs.declared.change.Change.{Change}
use Rattle.bulk_model.specs.declared.depend.DepKind.TheVariants.{Build, Lib}
use Rattle.bulk_model.specs.declared.plan.Kept.{Kept as KeptPackages}
use Rattle.bulk_model.specs.declared.results.Status.{Status}
use Rattle.bulk_model.specs.declared.results.Status.TheVariants.{Built}
use Rattle.bulk_model.specs.declared.version.Version.TheVariants.{Two}
use Rattle.bulk_model.specs.Bake.{Runs}
use Rattle.bulk_model.specs.FileNames.{is_package_file, catalogue_file}
use Rattle.bulk_model.specs.Journal.{Passes, IsPutOf, ArePuts, ended}
use Rattle.bulk_model.specs.PlanView.{PlanView}
use Rattle.bulk_model.specs.Results.{kept_at, is_good, package_in}
use Rattle.bulk_model.specs.Sound.{IsSound}
use Rattle.bulk_model.specs.Spelling.{spelling}
use Rattle.bulk_model.specs.Views.{PackageView}
use Rattle.pkg_record.specs.Laws.{HasRecord}
use Rattle.pkg_record.specs.Stored.{record_in, package_of, packages_in}
use Rattle.stale_check.specs.Kept.{kept_by}
use Rattle.incremental_law.specs.Journals.{DeletesRest, built_records}
use Rattle.incremental_law.specs.Runs.{IsRunOver, IsDone, kept_of_run}
use Rattle.incremental_example.specs.Ports.{right, need, tree, diamond, bot_package, left_package, right_package, top_package}
use Rattle.incremental_example.specs.Diamond.{first, recipes, nothing, whole, save, own_reason, HoldsJust}
use Rattle.record_laws.proofs.Storing.{other_put}
use Rattle.incremental_example.proofs.Facts.{is_plan, is_orderly, is_tree, is_of_tree, agrees}
use Rattle.incremental_example.proofs.Packages.{bot_recorded, left_recorded, right_recorded, top_recorded, its_job}
use Rattle.incremental_example.proofs.Saving.{only_saved, all_saved}
use Rattle.incremental_example.proofs.Still.{entries-empty, built, res, built_status}

pub nothing_there : packages_in nothing ≡ []
nothing_there = ap (λ (es : List (List ℕ × List ℕ)). filter_map (λ file. option_and_then package_of (record_in nothing file)) (filter is_package_file (map (λ e. e.0) es))) entries-empty

pub begins : (runs : Runs) → IsSound runs recipes (packages_in nothing)
begins runs some within closed p c = absurd (contains_none p (subst (λ ms. Contains ms p) nothing_there (within p c)))

abbrev kept : KeptPackages
kept = kept_of_run first nothing

abbrev kept_over : List PackageView → ℕ → Option PackageView
kept_over members n = kept_at (kept_by (diamond false) (own_reason (tree false)) members) n

new_0 : kept_at kept 0 ≡ None
new_0 = ap (λ ms. kept_over ms 0) nothing_there

new_1 : kept_at kept 1 ≡ None
new_1 = ap (λ ms. kept_over ms 1) nothing_there

new_2 : kept_at kept 2 ≡ None
new_2 = ap (λ ms. kept_over ms 2) nothing_there

new_3 : kept_at kept 3 ≡ None
new_3 = ap (λ ms. kept_over ms 3) nothing_there

-- `right` is built where `bot` has its package
pub right_is : (runs : Runs) (on : Bool) (kept : KeptPackages) → kept_at kept 2 ≡ None → (s : Status) → res runs (diamond on) kept (is_plan on) 0 ≡ s
    → is_good s ≡ true → package_in s ≡ Some bot_package → res runs (diamond on) kept (is_plan on) 2 ≡ Built (right_package on)
right_is runs on kept new s is good has =
    built_status runs (diamond on) kept (is_plan on) 2 (omega arith) new refl
    (ap (λ t. is_good t && true) is ∙ ap (λ b. b && true) good)
    (bot_package ∷ []) (ap (λ t. cons_option (package_in t) []) is ∙ ap (λ (o : Option PackageView). cons_option o []) has)
    (right_package on) (built runs (codes "right") (right on).options (need Build (codes "bot") ∷ []) (bot_package ∷ []) refl)

module _ (runs : Runs) where
  abbrev plan : PlanView
  plan = diamond false

  abbrev status : ℕ → Status
  status n = res runs (diamond false) kept (is_plan false) n

  bot_is : status 0 ≡ Built bot_package
  bot_is = built_status runs (diamond false) kept (is_plan false) 0 (omega arith) new_0 refl refl [] refl bot_package (built runs (codes "bot") [] [] [] refl)

  left_is : status 1 ≡ Built left_package
  left_is =
      built_status runs (diamond false) kept (is_plan false) 1 (omega arith) new_1 refl
      (ap (λ t. is_good t && true) bot_is)
      (bot_package ∷ []) (ap (λ t. cons_option (package_in t) []) bot_is)
      left_package (built runs (codes "left") [] (need Build (codes "bot") ∷ []) (bot_package ∷ []) refl)

  off_is : status 2 ≡ Built (right_package false)
  off_is = right_is runs false kept new_2 (Built bot_package) bot_is refl refl

  top_is : status 3 ≡ Built top_package
  top_is =
      built_status runs (diamond false) kept (is_plan false) 3 (omega arith) new_3 refl
      (ap (λ t. is_good t && (is_good (status 2) && true)) left_is ∙ ap (λ t. is_good t && true) off_is)
      (left_package ∷ right_package false ∷ [])
      (ap (λ t. cons_option (package_in t) (cons_option (package_in (status 2)) [])) left_is ∙ ap (λ t. left_package ∷ cons_option (package_in t) []) off_is)
      top_package (built runs (codes "top") [] (need Lib (codes "left") ∷ need Lib (codes "right") ∷ []) (left_package ∷ right_package false ∷ []) refl)

  abbrev passes : Passes
  passes = built_records runs (diamond false) kept

  put_bot : IsPutOf (diamond false) kept passes [] 0 (save bot_package)
  put_bot = record {
    node = omega arith;
    new = ap is_some new_0;
    allowed = refl;
    behind = refl;
    bytes = spelling bot_package;
    passing = record { built = bot_package; comes = bot_is; recorded = bot_recorded; spelled = refl };
    is = refl;
  }

  put_left : IsPutOf (diamond false) kept passes (0 ∷ []) 1 (save left_package)
  put_left = record {
    node = omega arith;
    new = ap is_some new_1;
    allowed = refl;
    behind = ap (λ (o : Option PackageView). (is_some o || true) && true) new_0;
    bytes = spelling left_package;
    passing = record { built = left_package; comes = left_is; recorded = left_recorded; spelled = refl };
    is = refl;
  }

  put_right : IsPutOf (diamond false) kept passes (1 ∷ 0 ∷ []) 2 (save (right_package false))
  put_right = record {
    node = omega arith;
    new = ap is_some new_2;
    allowed = refl;
    behind = ap (λ (o : Option PackageView). (is_some o || true) && true) new_0;
    bytes = spelling (right_package false);
    passing = record { built = right_package false; comes = off_is; recorded = right_recorded false; spelled = refl };
    is = refl;
  }

  put_top : IsPutOf (diamond false) kept passes (2 ∷ 1 ∷ 0 ∷ []) 3 (save top_package)
  put_top = record {
    node = omega arith;
    new = ap is_some new_3;
    allowed = refl;
    behind = ap (λ (o : Option PackageView). (is_some o || true) && ((is_some (kept_at kept 2) || true) && true)) new_1 ∙ ap (λ (o : Option PackageView). (is_some o || true) && true) new_2;
    bytes = spelling top_package;
    passing = record { built = top_package; comes = top_is; recorded = top_recorded; spelled = refl };
    is = refl;
  }

  abbrev puts : List Change
  puts = save bot_package ∷ save left_package ∷ save (right_package false) ∷ save top_package ∷ []

  abbrev are : ArePuts (diamond false) kept passes [] puts
  are = (0, put_bot, (1, put_left, (2, put_right, (3, put_top, tt))))

  rest : DeletesRest (own_reason (tree false)) (packages_in nothing) []
  rest = record {
    files = λ file c. absurd (contains_none file c);
    spared = λ p c d. contains_none _ d;
    gone = λ p c. absurd (contains_none p (subst (λ ms. Contains ms p) nothing_there c));
  }

  pub first_is : IsRunOver runs recipes first nothing
  first_is = record {
    is_plan = is_plan false;
    orderly = is_orderly false;
    is_tree = is_tree false;
    of_tree = is_of_tree false;
    agrees = agrees false;
    current = λ p free. its_job (tree false) p free;
    rest = rest;
    journal = ended puts [] are;
  }

  all_put : (n : ℕ) → n < 4 → Contains (0 ∷ 1 ∷ 2 ∷ 3 ∷ []) n
  all_put zero l = (0, omega arith, refl)
  all_put (suc zero) l = (1, omega arith, refl)
  all_put (suc (suc zero)) l = (2, omega arith, refl)
  all_put (suc (suc (suc zero))) l = (3, omega arith, refl)
  all_put (suc (suc (suc (suc n)))) l = absurd (omega arith)

  pub first_done : IsDone runs first nothing
  first_done = record { puts = puts; are = are; all = λ n p l e. all_put n l; catalogue = []; is = refl }

-- ---- what it leaves

abbrev pub four : List PackageView
four = bot_package ∷ left_package ∷ right_package false ∷ top_package ∷ []

all_recorded : (p : PackageView) → Contains four p → HasRecord Two p
all_recorded p c =
    elim (contains_cases bot_package (left_package ∷ right_package false ∷ top_package ∷ []) p c) [
      | inl e ↦ subst (HasRecord Two) e bot_recorded
      | inr c ↦ elim (contains_cases left_package (right_package false ∷ top_package ∷ []) p c) [
        | inl e ↦ subst (HasRecord Two) e left_recorded
        | inr c ↦ elim (contains_cases (right_package false) (top_package ∷ []) p c) [
          | inl e ↦ subst (HasRecord Two) e (right_recorded false)
          | inr c ↦ elim (contains_cases top_package [] p c) [
            | inl e ↦ subst (HasRecord Two) e top_recorded
            | inr c ↦ absurd (contains_none p c)
          ]
        ]
      ]
    ]

names_differ : IsDistinct bytes_eq (map (λ (p : PackageView). p.name) four)
unfolding IsDistinct
names_differ = ((refl, (refl, (refl, tt))), ((refl, (refl, tt)), ((refl, tt), (tt, tt))))

pub full : HoldsJust whole four
full q = (
  λ c. elim (only_saved four nothing all_recorded q ((other_put (replayed (map save four) nothing) catalogue_file [] refl q).0 c)) [
    | inl h ↦ h
    | inr h ↦ absurd (contains_none q (subst (λ ms. Contains ms q) nothing_there h))
  ],
  λ c. (other_put (replayed (map save four) nothing) catalogue_file [] refl q).1 (all_saved four names_differ nothing all_recorded q c),
)
