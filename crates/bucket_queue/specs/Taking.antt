-- The nodes that a queue gives, each ended as results say.
use Rattle.std.specs.Prelude.{◌≡◌, ℕ, zero, suc, ◌<◌, Bool, true, false, List, [], ◌∷◌, length, slice_index_or, if◌then◌else◌}
use Rattle.std.specs.Option.{option_map_or}
use Rattle.bulk_model.specs.declared.plan.Kept.{Kept as KeptPackages}
use Rattle.bulk_model.specs.declared.results.Status.{Status}
use Rattle.bulk_model.specs.Fit.{status_in}
use Rattle.bulk_model.specs.Order.{is_tried, order}
use Rattle.bulk_model.specs.PlanFacts.{IsPlan}
use Rattle.bulk_model.specs.PlanView.{PlanView, count}
use Rattle.bulk_model.specs.Results.{Bakes, is_good, statuses_of}
use Rattle.bucket_queue.specs.declared.mark.Mark.{Mark}
use Rattle.bucket_queue.specs.declared.mark.Mark.TheVariants.{Done, Bad}
use Rattle.bucket_queue.specs.QueueView.{QueueView, first_queue, next_of, with_mark}

-- statuses are what comes of a plan by some builds
pub record AreResults (plan : PlanView) (kept : KeptPackages) (statuses : List Status) : Type 0 where
  pub bakes : Bakes
  pub are : statuses ≡ statuses_of bakes plan kept

-- how a node ends by its status
abbrev pub end_by : List Status → ℕ → Mark
end_by statuses n = if is_good (status_in statuses n) then Done else Bad

-- so many nodes at most, each what `next` gives where the ones before have ended
abbrev pub taken_within : List Status → ℕ → QueueView → List ℕ
taken_within statuses zero queue = []
taken_within statuses (suc steps) queue =
    option_map_or
    (λ n. n ∷ taken_within statuses steps (with_mark queue n (end_by statuses n)))
    (next_of queue) []

abbrev pub taken : List Status → QueueView → List ℕ
taken statuses queue = taken_within statuses (length queue.marks) queue

-- the nodes that the queue gives are those of the model's order
abbrev pub QueueGivesOrder : Type 0
QueueGivesOrder =
    (plan : PlanView) (kept : KeptPackages) (statuses : List Status) → IsPlan plan
    → AreResults plan kept statuses
    → taken statuses (first_queue plan kept) ≡ order plan kept statuses

-- marks tell of each node that was built whether it was built well
abbrev pub TellWell : PlanView → List Status → List Bool → Type 0
TellWell plan statuses well =
    (n : ℕ) → n < count plan → is_tried (status_in statuses n) ≡ true
    → slice_index_or well n false ≡ is_good (status_in statuses n)
