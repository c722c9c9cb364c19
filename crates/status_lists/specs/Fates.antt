-- What the lists tell of a node (docs/FORMATS.md, "What is printed").
use Rattle.std.specs.Prelude.{◌≡◌, ◌<◌, ℕ, Bool, true, false, not, List, length, map, slice_index_or, Option, unwrap_or, if◌then◌else◌}
use Rattle.std.specs.List.{All, list_any}
use Rattle.std.specs.Option.{option_map, option_map_or}
use Rattle.bulk_base.specs.Least.{least_passing}
use Rattle.bulk_model.specs.declared.plan.Kept.{Kept as KeptPackages}
use Rattle.bulk_model.specs.declared.results.Status.{Status}
use Rattle.bulk_model.specs.declared.results.Status.TheVariants.{Kept as KeptStatus, Built as BuiltStatus, Failed as FailedStatus, Ignored as IgnoredStatus, Skipped as SkippedStatus}
use Rattle.bulk_model.specs.Cause.{cause}
use Rattle.bulk_model.specs.Fit.{status_in}
use Rattle.bulk_model.specs.PlanView.{PlanView, nodes, depends, is_ignored}
use Rattle.bulk_model.specs.Results.{is_kept}
use Rattle.status_lists.specs.declared.fate.Fate.{Fate}
use Rattle.status_lists.specs.declared.fate.Fate.TheVariants.{Kept, Built, Failed, Ignored, Skipped}

-- what is told of a node with this status
abbrev pub fate_by : PlanView → List Status → ℕ → Status → Fate
fate_by plan statuses n (KeptStatus p) = Kept
fate_by plan statuses n (BuiltStatus p) = Built
fate_by plan statuses n (FailedStatus phase code) = Failed phase code
fate_by plan statuses n IgnoredStatus = Ignored
fate_by plan statuses n SkippedStatus = Skipped (cause plan statuses n)

abbrev pub fate_at : PlanView → List Status → ℕ → Fate
fate_at plan statuses n = fate_by plan statuses n (status_in statuses n)

abbrev pub fates_of : PlanView → List Status → List Fate
fates_of plan statuses = map (fate_at plan statuses) (nodes plan)

abbrev pub fate_in : List Fate → ℕ → Fate
fate_in fates n = slice_index_or fates n Kept

abbrev pub has_package : Fate → Bool
has_package Kept = true
has_package Built = true
has_package (Failed phase code) = false
has_package Ignored = false
has_package (Skipped cause) = false

-- a run with such a node did not come to all that was asked
abbrev pub is_set_back : Fate → Bool
is_set_back Kept = false
is_set_back Built = false
is_set_back (Failed phase code) = true
is_set_back Ignored = false
is_set_back (Skipped cause) = true

-- the exit status by what is told of each node
abbrev pub exit_of : List Fate → ℕ
exit_of fates = if list_any is_set_back fates then 1 else 0

-- whom those blame who wait for a node with this fate
abbrev pub blamed_by : ℕ → Fate → ℕ
blamed_by d Kept = d
blamed_by d Built = d
blamed_by d (Failed phase code) = d
blamed_by d Ignored = d
blamed_by d (Skipped cause) = cause

-- the cause of a node by its dependencies, where one of them has no package
abbrev pub cause_by : List Fate → List ℕ → Option ℕ
cause_by fates depends =
    option_map (λ d. blamed_by d (fate_in fates d))
    (least_passing (λ d. not (has_package (fate_in fates d))) depends)

-- what is told of a node with this status, by what is told of its dependencies
abbrev pub told_by : Status → ℕ → List Fate → List ℕ → Fate
told_by (KeptStatus p) n fates depends = Kept
told_by (BuiltStatus p) n fates depends = Built
told_by (FailedStatus phase code) n fates depends = Failed phase code
told_by IgnoredStatus n fates depends = Ignored
told_by SkippedStatus n fates depends = Skipped (unwrap_or (cause_by fates depends) n)

-- what would be told of a node where each build succeeds, by what would be told of its dependencies
abbrev pub dry_fate : PlanView → KeptPackages → ℕ → List Fate → Fate
dry_fate plan kept n fates =
    if is_kept kept n then Kept
    else (if is_ignored plan n then Ignored
    else option_map_or Skipped (cause_by fates (depends plan n)) Built)

-- the cause that is told is a node
abbrev pub NamesNode : ℕ → Fate → Type 0
NamesNode count Kept = Unit {0}
NamesNode count Built = Unit {0}
NamesNode count (Failed phase code) = Unit {0}
NamesNode count Ignored = Unit {0}
NamesNode count (Skipped cause) = cause < count

-- what is told of each node of a plan, where each cause is a node
pub record AreFates (plan : PlanView) (statuses : List Status) (fates : List Fate) : Type 0 where
  pub size : length fates ≡ length plan.jobs
  pub told : fates ≡ fates_of plan statuses
  pub causes : All (NamesNode (length plan.jobs)) fates
