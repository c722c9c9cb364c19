-- Laws on the results of a plan, and on why nodes were skipped.
use Rattle.std.specs.Prelude.{◌≡◌, ℕ, true, ◌<◌, List, Option, Some, Bool, false, if◌then◌else◌}
use Rattle.std.specs.List.{filter_map}
use Rattle.bulk_model.specs.declared.outcome.Outcome.{Outcome}
use Rattle.bulk_model.specs.declared.plan.Kept.{Kept as KeptPackages}
use Rattle.bulk_model.specs.declared.results.Status.{Status}
use Rattle.bulk_model.specs.Fit.{status_in, outcome_at, FitsResults, is_skipped}
use Rattle.bulk_model.specs.Installs.{installs}
use Rattle.bulk_model.specs.Order.{is_tried}
use Rattle.bulk_model.specs.PlanFacts.{IsPlan}
use Rattle.bulk_model.specs.PlanView.{PlanView, count}
use Rattle.bulk_model.specs.Results.{Bakes, package_in, status_of_outcome, status_from, status_at, statuses_of, res_given}
use Rattle.bulk_model.specs.Views.{PackageView}
use Rattle.bulk_model.specs.declared.results.Status.TheVariants.{Kept, Built, Failed, Ignored, Skipped}
use Rattle.bulk_model.specs.Cause.{least_setback, cause}

-- the packages of all that is installed for a node, as far as statuses have them
abbrev pub packages_at : PlanView → (ℕ → Status) → ℕ → List PackageView
packages_at plan s n = filter_map (λ d. package_in (s d)) (installs plan n)

-- at each node the status is the one that follows from those of the others
abbrev pub Solves : Bakes → PlanView → KeptPackages → (ℕ → Status) → Type 0
Solves bakes plan kept s = (n : ℕ) → n < count plan → s n ≡ status_from bakes plan kept s n

-- the results solve their own recursion: no bound is met
abbrev pub ResultsUnfold : Type 0
ResultsUnfold =
    (bakes : Bakes) (plan : PlanView) (kept : KeptPackages) → IsPlan plan
    → Solves bakes plan kept (status_at bakes plan kept)

-- whatever solves the recursion is the results
abbrev pub SolutionsAreResults : Type 0
SolutionsAreResults =
    (bakes : Bakes) (plan : PlanView) (kept : KeptPackages) → IsPlan plan
    → (s : ℕ → Status) → Solves bakes plan kept s → (n : ℕ) → n < count plan
    → s n ≡ status_at bakes plan kept n

-- the results have at each node its status
abbrev pub ResultsStand : Type 0
ResultsStand =
    (bakes : Bakes) (plan : PlanView) (kept : KeptPackages) (n : ℕ) → n < count plan
    → status_in (statuses_of bakes plan kept) n ≡ status_at bakes plan kept n

-- two lists of outcomes give the same results where they agree at each node that is built or failed
-- in the results of the first
abbrev pub OutcomesDecide : Type 0
OutcomesDecide =
    (a b : List (Option Outcome)) (plan : PlanView) (kept : KeptPackages) → IsPlan plan
    → ((n : ℕ) → n < count plan → is_tried (status_in (res_given a plan kept) n) ≡ true
    → outcome_at a n ≡ outcome_at b n)
    → res_given a plan kept ≡ res_given b plan kept

-- so outcomes that are right at each node that was built give the results
abbrev pub RightOutcomesTell : Type 0
RightOutcomesTell =
    (bakes : Bakes) (plan : PlanView) (kept : KeptPackages) (outcomes : List (Option Outcome))
    → IsPlan plan
    → ((n : ℕ) → n < count plan → is_tried (status_at bakes plan kept n) ≡ true
    → (outcome : Outcome) × (outcome_at outcomes n ≡ Some outcome)
    × (status_at bakes plan kept n ≡ status_of_outcome outcome))
    → res_given outcomes plan kept ≡ statuses_of bakes plan kept

-- the results of a plan fit it, whatever the builds give
abbrev pub ResultsFit : Type 0
ResultsFit =
    (bakes : Bakes) (plan : PlanView) (kept : KeptPackages) → IsPlan plan
    → FitsResults plan (statuses_of bakes plan kept)

-- ---- causes

-- a node that has no package for a reason of its own
abbrev pub is_to_blame : Status → Bool
is_to_blame (Kept p) = false
is_to_blame (Built p) = false
is_to_blame (Failed phase code) = true
is_to_blame Ignored = true
is_to_blame Skipped = false

-- a node's least dependency without a package, and the way to the node's cause by it
pub record IsWayOn (plan : PlanView) (statuses : List Status) (n d : ℕ) : Type 0 where
  pub least : least_setback plan statuses n ≡ Some d
  pub below : d < count plan
  pub leads : cause plan statuses n
      ≡ (if is_skipped (status_in statuses d) then cause plan statuses d else d)

-- the cause of a skipped node is its least dependency without a package, or that one's cause where
-- it was skipped too
abbrev pub CausesUnfold : Type 0
CausesUnfold =
    (plan : PlanView) (statuses : List Status) → IsPlan plan → FitsResults plan statuses
    → (n : ℕ) → n < count plan → is_skipped (status_in statuses n) ≡ true
    → (d : ℕ) × IsWayOn plan statuses n d

-- the cause of a skipped node is a node that failed or is ignored
abbrev pub CausesAreToBlame : Type 0
CausesAreToBlame =
    (plan : PlanView) (statuses : List Status) → IsPlan plan → FitsResults plan statuses
    → (n : ℕ) → n < count plan → is_skipped (status_in statuses n) ≡ true
    → (cause plan statuses n < count plan)
    × (is_to_blame (status_in statuses (cause plan statuses n)) ≡ true)
