-- Packages that a run built and saves one after another.
use Rattle.std.specs.Prelude.{◌≡◌, ℕ, ◌<◌, ◌⊎◌, List, [], ◌∷◌, ◌++◌, Some, Contains, IsTrue}
use Rattle.bulk_model.specs.declared.plan.Kept.{Kept as KeptPackages}
use Rattle.bulk_model.specs.declared.results.Status.TheVariants.{Built}
use Rattle.bulk_model.specs.Bake.{Runs}
use Rattle.bulk_model.specs.PlanView.{PlanView, count, node_at}
use Rattle.bulk_model.specs.Results.{bakes_by, package_in, status_at}
use Rattle.bulk_model.specs.Sound.{has_all}
use Rattle.bulk_model.specs.Views.{PackageView, node_of_package}

-- each member at a node of the plan is the package there
abbrev pub AreOfResults : Runs → PlanView → KeptPackages → List PackageView → Type 0
AreOfResults runs plan kept members =
    (n : ℕ) (p : PackageView) → n < count plan → Contains members p
    → node_of_package p ≡ node_at plan n
    → package_in (status_at (bakes_by runs plan) plan kept n) ≡ Some p

-- a package was built at a node, and the members have its dependencies
pub record IsSave (runs : Runs) (plan : PlanView) (kept : KeptPackages) (members : List PackageView)
    (p : PackageView) : Type 0 where
  pub node : ℕ
  pub below : node < count plan
  pub built : status_at (bakes_by runs plan) plan kept node ≡ Built p
  pub depends : IsTrue (has_all members p)

-- packages that were saved beside members, the last one first
abbrev pub AreSaves : Runs → PlanView → KeptPackages → List PackageView → List PackageView → Type 0
AreSaves runs plan kept members [] = Unit {0}
AreSaves runs plan kept members (p ∷ saved) =
    IsSave runs plan kept (saved ++ members) p × AreSaves runs plan kept members saved
