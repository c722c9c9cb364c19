-- What comes of each node of a plan, by recursion over the dependencies (poudriere-bulk(8): what depends on a port
-- that failed or is ignored is skipped).
use Rattle.std.specs.Prelude.{ℕ, zero, suc, Bool, true, false, List, length, map, slice_index_or, Option, Some, None, is_some, unwrap_or, if◌then◌else◌}
use Rattle.std.specs.List.{list_all, filter_map}
use Rattle.std.specs.Option.{option_map_or}
use Rattle.bulk_model.specs.declared.outcome.Outcome.{Outcome}
use Rattle.bulk_model.specs.declared.outcome.Outcome.TheVariants.{Built as MadePackage, Failed as FailedBuild}
use Rattle.bulk_model.specs.declared.outcome.Phase.TheVariants.{Depends as DependsPhase}
use Rattle.bulk_model.specs.declared.results.Status.{Status}
use Rattle.bulk_model.specs.declared.results.Status.TheVariants.{Kept, Built, Failed, Ignored, Skipped}
use Rattle.bulk_model.specs.declared.plan.Kept.{Kept as KeptPackages}
use Rattle.bulk_model.specs.Views.{PackageView}
use Rattle.bulk_model.specs.PlanView.{PlanView, nodes, depends, is_ignored, job_at}
use Rattle.bulk_model.specs.Installs.{installs}
use Rattle.bulk_model.specs.Bake.{Runs, bake}

-- the package that is kept at a node
abbrev pub kept_at : KeptPackages → ℕ → Option PackageView
kept_at kept n = slice_index_or kept.packages n None

abbrev pub is_kept : KeptPackages → ℕ → Bool
is_kept kept n = is_some (kept_at kept n)

-- whether a node has a package
abbrev pub is_good : Status → Bool
is_good (Kept p) = true
is_good (Built p) = true
is_good (Failed phase code) = false
is_good Ignored = false
is_good Skipped = false

abbrev pub package_in : Status → Option PackageView
package_in (Kept p) = Some p
package_in (Built p) = Some p
package_in (Failed phase code) = None
package_in Ignored = None
package_in Skipped = None

abbrev pub status_of_outcome : Outcome → Status
status_of_outcome (MadePackage p) = Built p
status_of_outcome (FailedBuild phase code) = Failed phase code

-- what comes of a node that is built, from the packages that are installed for it
abbrev pub Bakes : Type 0
Bakes = ℕ → List PackageView → Outcome

-- the status of a node that is neither kept nor ignored, from those of the nodes below it
abbrev pub status_of_build : Bakes → PlanView → (ℕ → Status) → ℕ → Status
status_of_build bakes plan below n =
    if list_all (λ d. is_good (below d)) (depends plan n)
    then status_of_outcome (bakes n (filter_map (λ d. package_in (below d)) (installs plan n)))
    else Skipped

-- the status of a node, from those of the nodes below it
abbrev pub status_from : Bakes → PlanView → KeptPackages → (ℕ → Status) → ℕ → Status
status_from bakes plan kept below n =
    option_map_or Kept (kept_at kept n)
    (if is_ignored plan n then Ignored else status_of_build bakes plan below n)

-- the same with a bound on the height; at the bound a node counts as skipped
abbrev pub status_up_to : Bakes → PlanView → KeptPackages → ℕ → ℕ → Status
status_up_to bakes plan kept zero n = Skipped
status_up_to bakes plan kept (suc height) n =
    status_from bakes plan kept (status_up_to bakes plan kept height) n

-- no chain of dependencies is longer than there are nodes
abbrev pub status_at : Bakes → PlanView → KeptPackages → ℕ → Status
status_at bakes plan kept n = status_up_to bakes plan kept (length plan.jobs) n

abbrev pub statuses_of : Bakes → PlanView → KeptPackages → List Status
statuses_of bakes plan kept = map (status_at bakes plan kept) (nodes plan)

-- where rooms tell what commands do
abbrev pub bakes_by : Runs → PlanView → Bakes
bakes_by runs plan n packages = bake runs plan.base (job_at plan n) packages

-- what came of each node where rooms tell
abbrev pub res : Runs → PlanView → KeptPackages → List Status
res runs plan kept = statuses_of (bakes_by runs plan) plan kept

-- what came of each node where these outcomes were given in place of builds
abbrev pub bakes_given : List (Option Outcome) → Bakes
bakes_given outcomes n packages =
    unwrap_or (slice_index_or outcomes n None) (FailedBuild DependsPhase 0)

abbrev pub res_given : List (Option Outcome) → PlanView → KeptPackages → List Status
res_given outcomes plan kept = statuses_of (bakes_given outcomes) plan kept
