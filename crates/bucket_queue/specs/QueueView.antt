-- The queue as contracts see it (docs/DEFINITIONS.md, "The queue").
use Rattle.std.specs.Prelude.{ℕ, zero, suc, Bool, true, false, not, ◌&&◌, nat_lt, List, length, map, slice_index, slice_index_or, slice_set, Option, Some, None, is_some, if◌then◌else◌}
use Rattle.std.specs.List.{list_all, list_any}
use Rattle.std.specs.Option.{option_map_or}
use Rattle.bulk_model.specs.declared.plan.Edge.{Edge}
use Rattle.bulk_model.specs.declared.plan.Kept.{Kept as KeptPackages}
use Rattle.bulk_model.specs.Order.{bucket}
use Rattle.bulk_model.specs.PlanView.{PlanView, nodes, is_ignored}
use Rattle.bulk_model.specs.Results.{is_kept}
use Rattle.dep_graph.specs.Graphs.{depends_at}
use Rattle.bucket_queue.specs.declared.mark.Mark.{Mark}
use Rattle.bucket_queue.specs.declared.mark.Mark.TheVariants.{Kept, Ignored, Free, Taken, Done, Bad}

-- for each node its dependencies, its bucket, and whether it was taken and how it ended
pub record QueueView : Type 0 where
  pub edges : List (List Edge)
  pub buckets : List ℕ
  pub marks : List Mark
  pub halted : Bool

abbrev pub is_free : Mark → Bool
is_free Kept = false
is_free Ignored = false
is_free Free = true
is_free Taken = false
is_free Done = false
is_free Bad = false

abbrev pub is_taken : Mark → Bool
is_taken Kept = false
is_taken Ignored = false
is_taken Free = false
is_taken Taken = true
is_taken Done = false
is_taken Bad = false

abbrev pub has_package : Mark → Bool
has_package Kept = true
has_package Ignored = false
has_package Free = false
has_package Taken = false
has_package Done = true
has_package Bad = false

abbrev pub mark_at : List Mark → ℕ → Mark
mark_at marks n = slice_index_or marks n Ignored

-- a queue begins with each node that is to be built, and none taken
abbrev pub first_mark : PlanView → KeptPackages → ℕ → Mark
first_mark plan kept n =
    if is_kept kept n then Kept else (if is_ignored plan n then Ignored else Free)

abbrev pub first_queue : PlanView → KeptPackages → QueueView
first_queue plan kept = record {
  edges = plan.edges;
  buckets = map (bucket plan) (nodes plan);
  marks = map (first_mark plan kept) (nodes plan);
  halted = false;
}

-- neither kept, ignored nor taken, and each dependency is kept or done
abbrev pub is_clear : List (List Edge) → List Mark → ℕ → Bool
is_clear graph marks n =
    is_free (mark_at marks n) && list_all (λ d. has_package (mark_at marks d)) (depends_at graph n)

abbrev pub is_ready : QueueView → ℕ → Bool
is_ready queue n = not queue.halted && is_clear queue.edges queue.marks n

-- a later node is better only where its bucket is higher
abbrev pub better : List ℕ → Option ℕ → ℕ → Option ℕ
better buckets best n =
    option_map_or
    (λ b. if nat_lt (slice_index buckets b) (slice_index buckets n) then Some n else Some b)
    best (Some n)

-- the least of the highest bucket, of the nodes below a number that pass a test
abbrev pub best_below : (ℕ → Bool) → List ℕ → ℕ → Option ℕ
best_below passes buckets zero = None
best_below passes buckets (suc n) =
    if passes n then better buckets (best_below passes buckets n) n
    else best_below passes buckets n

-- the least ready node of the highest bucket that has one
abbrev pub next_of : QueueView → Option ℕ
next_of queue = best_below (is_ready queue) queue.buckets (length queue.marks)

abbrev pub with_mark : QueueView → ℕ → Mark → QueueView
with_mark queue n mark = record {
  edges = queue.edges;
  buckets = queue.buckets;
  marks = slice_set queue.marks n mark;
  halted = queue.halted;
}

-- taken, and not ended
abbrev pub is_running : QueueView → ℕ → Bool
is_running queue n = is_taken (mark_at queue.marks n)

-- none is ready, and none is taken and not ended
abbrev pub is_over : QueueView → Bool
is_over queue = not (is_some (next_of queue)) && not (list_any is_taken queue.marks)
