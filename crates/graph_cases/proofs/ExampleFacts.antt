-- The ports and the plan of a worked example are a job and a plan.
use Rattle.std.proofs.Common.{ℕ, List, [], ◌∷◌, arith, refl}
use Rattle.std.specs.Prelude.{None, codes, bytes_eq}
use Rattle.std.specs.List.{IsDistinct}
use Rattle.std.specs.List.Sorted.{IsStrictlySortedBy}
use Rattle.std.specs.Cmp.Lexicographic.{slice_cmp}
use Rattle.std.specs.Ordering.{nat_cmp}
use Rattle.bulk_base.specs.Names.{IsOrigin, IsPackageName}
use Rattle.bulk_model.specs.Facts.{IsJob}
use Rattle.bulk_model.specs.PlanFacts.{IsPlan}
use Rattle.bulk_model.proofs.PlanTests.{targets_tested, without_tested, none_wanted}
use Rattle.graph_cases.specs.Examples.{bare, ignoring}

none_ascend : IsStrictlySortedBy (slice_cmp nat_cmp) []
unfolding IsStrictlySortedBy
none_ascend = tt

pub is_job : (name origin : List ℕ) → IsPackageName name → IsOrigin origin → IsJob (bare name origin)
is_job name origin n o =
    record {
      name = n;
      origin = o;
      flavor = tt;
      options = record { order = none_ascend; forms = refl };
      depends = record { order = refl; nodes = tt; names = tt };
      files = record { order = none_ascend; apart = refl; short = refl };
    }

pub ignored_name : IsPackageName (codes "i-1.0")
ignored_name = record { base = codes "i"; version = codes "1.0"; revision = None; epoch = None; base_form = refl; version_form = refl; revision_form = tt; epoch_form = tt; short = omega arith; spelled = refl }

pub user_name : IsPackageName (codes "u-1.0")
user_name = record { base = codes "u"; version = codes "1.0"; revision = None; epoch = None; base_form = refl; version_form = refl; revision_form = tt; epoch_form = tt; short = omega arith; spelled = refl }

pub ignored_origin : IsOrigin (codes "a/i")
ignored_origin = record { category = codes "a"; port = codes "i"; category_form = refl; port_form = refl; spelled = refl }

pub user_origin : IsOrigin (codes "a/u")
user_origin = record { category = codes "a"; port = codes "u"; category_form = refl; port_form = refl; spelled = refl }

names_differ : IsDistinct bytes_eq (codes "i-1.0" ∷ codes "u-1.0" ∷ [])
unfolding IsDistinct
names_differ = ((refl, tt), (tt, tt))

pub is_plan : IsPlan ignoring
is_plan =
    record {
      few = omega arith;
      edges = refl;
      ignored = refl;
      boosted = refl;
      targets = targets_tested ignoring refl;
      wanted = none_wanted 2;
      without = without_tested ignoring refl;
      loopless = refl;
      names = names_differ;
      base = record { form = record { order = none_ascend; apart = refl; short = refl }; free = refl };
    }
