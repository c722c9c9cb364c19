-- What the counters and the heap of a queue have to do with its marks.
use Rattle.std.specs.Prelude.{◌≡◌, ℕ, Bool, not, ◌&&◌, ◌==◌, ◌+◌, ◌<◌, ◌≤◌, nat_lt, List, length, slice_index, if◌then◌else◌}
use Rattle.std.specs.List.{count_by, All}
use Rattle.std.specs.BinaryHeap.{IsHeap}
use Rattle.std.specs.Ordering.{nat_cmp, ordering_then}
use Rattle.std.specs.declared.cmp.Ordering.{Ordering}
use Rattle.std.specs.declared.cmp.Reverse.{Reverse}
use Rattle.bulk_model.specs.declared.plan.Edge.{Edge}
use Rattle.dep_graph.specs.Graphs.{times, depends_at, IsWithin}
use Rattle.bucket_queue.specs.declared.mark.Mark.{Mark}
use Rattle.bucket_queue.specs.QueueView.{is_free, has_package, mark_at}

abbrev pub ReadyView : Type 0
ReadyView = ℕ × Reverse ℕ

abbrev pub ready_cmp : ReadyView → ReadyView → Ordering
ready_cmp x y = ordering_then (nat_cmp x.0 y.0) (nat_cmp y.1.0 x.1.0)

-- how many of the nodes have no package
abbrev pub count_missing : List Mark → List ℕ → ℕ
count_missing marks numbers = count_by (λ d. not (has_package (mark_at marks d))) numbers

abbrev pub times_ready : List ReadyView → ℕ → ℕ
times_ready ready n = count_by (λ entry. n == entry.1.0) ready

abbrev pub is_waiting_for_none : List Mark → List ℕ → ℕ → Bool
is_waiting_for_none marks missing n = is_free (mark_at marks n) && (slice_index missing n == 0)

-- each node has the count of its dependencies without a package, besides those in `rest`; the free ones whose count is 0
-- are in the heap, each once; and there is room for the others
pub record IsQueue (count : ℕ) (graph turned : List (List Edge)) (rest : List ℕ) (buckets : List ℕ) (marks : List Mark) (missing : List ℕ) (ready : List ReadyView) (room : ℕ) : Type 0 where
  pub turned_size : length turned ≡ count
  pub buckets_size : length buckets ≡ count
  pub marks_size : length marks ≡ count
  pub missing_size : length missing ≡ count
  pub rest_within : All (λ n. n < count) rest
  pub turned_within : IsWithin count turned
  pub edges : (n d : ℕ) → n < count → d < count → times (depends_at turned d) n ≡ times (depends_at graph n) d
  pub counts : (n : ℕ) → n < count → slice_index missing n ≡ count_missing marks (depends_at graph n) + times rest n
  pub heap : IsHeap ready_cmp ready
  pub entries : All (λ entry. (entry.1.0 < count) × (entry.0 ≡ slice_index buckets entry.1.0)) ready
  pub members : (n : ℕ) → n < count → times_ready ready n ≡ (if is_waiting_for_none marks missing n then 1 else 0)
  pub fits : length ready + count_by (λ left. nat_lt 0 left) missing ≤ room

-- the same of the nodes below a number
pub record IsBegun (graph : List (List Edge)) (buckets : List ℕ) (marks : List Mark) (n : ℕ) (missing : List ℕ) (ready : List ReadyView) : Type 0 where
  pub size : length missing ≡ n
  pub counts : (m : ℕ) → m < n → slice_index missing m ≡ count_missing marks (depends_at graph m)
  pub heap : IsHeap ready_cmp ready
  pub entries : All (λ entry. (entry.1.0 < n) × (entry.0 ≡ slice_index buckets entry.1.0)) ready
  pub members : (m : ℕ) → m < n → times_ready ready m ≡ (if is_waiting_for_none marks missing m then 1 else 0)
  pub later : (m : ℕ) → n ≤ m → times_ready ready m ≡ 0
  pub fits : length ready + count_by (λ left. nat_lt 0 left) missing ≤ n
