-- The packages that stay at a plan's nodes.
use Rattle.std.specs.Prelude.{Bool, List, map, bytes_eq}
use Rattle.std.specs.List.{find}
use Rattle.bulk_model.specs.declared.plan.Kept.{Kept as KeptPackages}
use Rattle.bulk_model.specs.PlanView.{PlanView}
use Rattle.bulk_model.specs.Views.{PackageView, node_of_job, node_of_package}
use Rattle.stale_check.specs.Fresh.{fresh}

-- the packages at a plan's nodes among some packages
abbrev pub kept_among : PlanView → List PackageView → KeptPackages
kept_among plan packages = record {
  packages = map (λ job. find (λ p. bytes_eq (node_of_job job) (node_of_package p)) packages) plan.jobs;
}

-- those that passes leave there
abbrev pub kept_by : PlanView → (PackageView → Bool) → List PackageView → KeptPackages
kept_by plan own members = kept_among plan (fresh own members)
