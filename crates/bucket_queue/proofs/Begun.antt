-- A queue as it is made, node by node.
use Rattle.std.proofs.Common.{◌≡◌, ◌≢◌, ℕ, ◌+◌, ◌<◌, ◌≤◌, Bool, true, false, List, [], ◌∷◌, ◌++◌, length, get_or, refl, ap, sym, ◌∙◌, arith, cond, inl, inr, ◌⊎◌}
use Rattle.std.specs.Prelude.{◌==◌, ◌&&◌, nat_lt}
use Rattle.std.specs.List.{count_by, All}
use Rattle.std.specs.List.Sorted.{IsPermutation}
use Rattle.std.specs.BinaryHeap.{IsHeap}
use Rattle.std.proofs.lemmas.Bool.{eq-eqb, ne_eqb, cases_eq, and_from}
use Rattle.std.proofs.lemmas.List.{get_or_push, get_or_append_left, length_push}
use Rattle.std.proofs.lemmas.List.Elements.{All-nil, All-cons}
use Rattle.std.proofs.lemmas.List.Sorted.{All-permutation, length_permutation, sum_by_pushed}
use Rattle.std.proofs.lemmas.List.Sums.{sum_by_push}
use Rattle.dep_graph.specs.Graphs.{depends_at, IsWithin}
use Rattle.dep_graph.specs.Turned.{IsTurned}
use Rattle.bulk_model.specs.declared.plan.Edge.{Edge}
use Rattle.bucket_queue.specs.declared.mark.Mark.{Mark}
use Rattle.bucket_queue.specs.QueueView.{is_free, mark_at}
use Rattle.bucket_queue.specs.Inner.{ReadyView, ready_cmp, count_missing, times_ready, is_waiting_for_none, IsQueue, IsBegun}
use Rattle.bucket_queue.proofs.Counting.{one_if}
use Rattle.bucket_queue.proofs.Steps.{and_true, and_false, zero_or_one, and_at_most}

All-weaker : {X : Type 0} (P Q : X → Type 0) (xs : List X) → ((x : X) → P x → Q x) → All P xs → All Q xs
All-weaker P Q xs f all k d l = f (get_or xs k d) (all k d l)

module _ (graph : List (List Edge)) (buckets : List ℕ) (marks : List Mark) (n : ℕ) (missing : List ℕ) (ready : List ReadyView) (q : IsBegun graph buckets marks n missing ready) (left : ℕ) (is : left ≡ count_missing marks (depends_at graph n)) where
  abbrev longer : List ℕ
  longer = missing ++ left ∷ []

  abbrev enters : Bool
  enters = is_free (mark_at marks n) && (left == 0)

  abbrev Fits : ReadyView → Type 0
  Fits entry = (entry.1.0 < n + 1) × (entry.0 ≡ get_or buckets entry.1.0 0)

  left_here : (m : ℕ) → m ≡ n → get_or longer m 0 ≡ left
  left_here m same = get_or_push missing left 0 m (q.size ∙ sym same)

  left_before : (m : ℕ) → m < n → get_or longer m 0 ≡ get_or missing m 0
  left_before m l = get_or_append_left missing (left ∷ []) 0 m (let s : length missing ≡ n = q.size in omega arith)

  last : (m : ℕ) → m < n + 1 → (m ≡ n) ⊎ (m ≡ n → ⊥) → (m ≡ n) ⊎ (m < n)
  last m l (inl same) = inl same
  last m l (inr apart) = inr (let ne : m ≢ n = apart in omega arith)

  count_case : (m : ℕ) → (m ≡ n) ⊎ (m < n) → get_or longer m 0 ≡ count_missing marks (depends_at graph m)
  count_case m (inl same) = left_here m same ∙ is ∙ ap (λ x. count_missing marks (depends_at graph x)) (sym same)
  count_case m (inr before) = left_before m before ∙ q.counts m before

  member_case : (now : List ReadyView) (m : ℕ) → times_ready now m ≡ one_if (enters && (m == n)) + times_ready ready m → (m ≡ n) ⊎ (m < n) → times_ready now m ≡ one_if (is_waiting_for_none marks longer m)
  member_case now m e (inl same) =
      e ∙ ap (λ b. one_if (enters && b) + times_ready ready m) (eq-eqb m n same) ∙ ap (λ b. one_if b + times_ready ready m) (and_true enters)
      ∙ ap (λ t. one_if enters + t) (q.later m (omega arith)) ∙ (let z : one_if enters + 0 ≡ one_if enters = omega arith in z)
      ∙ sym (ap (λ t. one_if (is_free (mark_at marks m) && (t == 0))) (left_here m same) ∙ ap (λ x. one_if (is_free (mark_at marks x) && (left == 0))) same)
  member_case now m e (inr before) =
      e ∙ ap (λ b. one_if (enters && b) + times_ready ready m) (ne_eqb m n (λ z. omega arith)) ∙ ap (λ b. one_if b + times_ready ready m) (and_false enters)
      ∙ (let z : 0 + times_ready ready m ≡ times_ready ready m = omega arith in z) ∙ q.members m before
      ∙ sym (ap (λ t. one_if (is_free (mark_at marks m) && (t == 0))) (left_before m before))

  begun_more : (now : List ReadyView) → IsHeap ready_cmp now → All Fits now → ((m : ℕ) → times_ready now m ≡ one_if (enters && (m == n)) + times_ready ready m) → length now ≡ one_if enters + length ready
      → IsBegun graph buckets marks (n + 1) longer now
  begun_more now heap entries more size = record {
    size = length_push missing left ∙ ap (λ t. t + 1) q.size;
    counts = λ m l. count_case m (last m l (cases_eq m n));
    heap = heap;
    entries = entries;
    members = λ m l. member_case now m (more m) (last m l (cases_eq m n));
    later = λ m l.
        more m ∙ ap (λ b. one_if (enters && b) + times_ready ready m) (ne_eqb m n (λ z. omega arith)) ∙ ap (λ b. one_if b + times_ready ready m) (and_false enters)
        ∙ ap (λ t. 0 + t) (q.later m (omega arith));
    fits = (let f : length ready + count_by (λ left. nat_lt 0 left) missing ≤ n = q.fits in
        let sums : count_by (λ left. nat_lt 0 left) longer ≡ count_by (λ left. nat_lt 0 left) missing + one_if (nat_lt 0 left) = sum_by_push (λ t. cond (nat_lt 0 t) 1 0) missing left in
        let most : one_if enters + one_if (nat_lt 0 left) ≤ 1 = and_at_most (is_free (mark_at marks n)) (left == 0) (one_if (nat_lt 0 left)) (zero_or_one left (left == 0) refl) in
        omega arith);
  }

  entries_more : All Fits ready
  entries_more = All-weaker (λ (entry : ReadyView). (entry.1.0 < n) × (entry.0 ≡ get_or buckets entry.1.0 0)) Fits ready (λ x h. ((let l : x.1.0 < n = h.0 in omega arith), h.1)) q.entries

  pub begun_out : enters ≡ false → IsBegun graph buckets marks (n + 1) longer ready
  begun_out e =
      begun_more ready q.heap entries_more
      (λ m. (let z : times_ready ready m ≡ 0 + times_ready ready m = omega arith in z) ∙ ap (λ b. one_if (b && (m == n)) + times_ready ready m) (sym e))
      ((let z : length ready ≡ 0 + length ready = omega arith in z) ∙ ap (λ b. one_if b + length ready) (sym e))

  pub begun_in : (key : ℕ) (now : List ReadyView) → is_free (mark_at marks n) ≡ true → left ≡ 0 → key ≡ get_or buckets n 0 → IsPermutation ((key, record { 0 = n }) ∷ ready) now → (IsHeap ready_cmp ready → IsHeap ready_cmp now)
      → IsBegun graph buckets marks (n + 1) longer now
  begun_in key now f z k perm heap =
      let x : ReadyView = (key, record { 0 = n }) in
      let e : enters ≡ true = and_from (is_free (mark_at marks n)) (left == 0) f (eq-eqb left 0 z) in
      begun_more now (heap q.heap) (All-permutation Fits (x ∷ ready) now perm (All-cons Fits x ready ((omega arith), k) entries_more))
      (λ m. sum_by_pushed (λ (entry : ReadyView). cond (m == entry.1.0) 1 0) x ready now perm ∙ ap (λ b. one_if (b && (m == n)) + times_ready ready m) (sym e))
      (let size : length now ≡ length (x ∷ ready) = length_permutation (x ∷ ready) now perm in
      (let w : length now ≡ 1 + length ready = (let y : length (x ∷ ready) ≡ length ready + 1 = omega arith in omega arith) in w) ∙ ap (λ b. one_if b + length ready) (sym e))

pub begun_none : (graph : List (List Edge)) (buckets : List ℕ) (marks : List Mark) → IsHeap ready_cmp [] → IsBegun graph buckets marks 0 [] []
begun_none graph buckets marks heap = record {
  size = refl;
  counts = λ m l. absurd (omega arith);
  heap = heap;
  entries = All-nil (λ (entry : ReadyView). (entry.1.0 < 0) × (entry.0 ≡ get_or buckets entry.1.0 0));
  members = λ m l. absurd (omega arith);
  later = λ m l. refl;
  fits = (let z : 0 + 0 ≤ 0 = omega arith in z);
}

pub begun_all : (graph turned : List (List Edge)) (buckets : List ℕ) (marks : List Mark) (missing : List ℕ) (ready : List ReadyView) (room : ℕ) → length turned ≡ length graph → length buckets ≡ length graph → length marks ≡ length graph
    → IsWithin (length graph) turned → IsTurned graph turned → length graph ≤ room
    → IsBegun graph buckets marks (length graph) missing ready → IsQueue (length graph) graph turned [] buckets marks missing ready room
begun_all graph turned buckets marks missing ready room t b m within edges l q = record {
  turned_size = t;
  buckets_size = b;
  marks_size = m;
  missing_size = q.size;
  rest_within = All-nil (λ n. n < length graph);
  turned_within = within;
  edges = edges;
  counts = λ n l. q.counts n l ∙ (let z : count_missing marks (depends_at graph n) ≡ count_missing marks (depends_at graph n) + 0 = omega arith in z);
  heap = q.heap;
  entries = q.entries;
  members = q.members;
  fits = (let f : length ready + count_by (λ left. nat_lt 0 left) missing ≤ length graph = q.fits in omega arith);
}
