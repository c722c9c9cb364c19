-- What the calls of a queue do to its counters and its heap.
use Rattle.std.proofs.Common.{◌≡◌, ℕ, ◌+◌, ◌-◌, ◌<◌, ◌≤◌, Bool, true, false, List, [], ◌∷◌, length, get_or, set, drop, refl, ap, sym, subst, ◌∙◌, arith, cond, Option, Some, None, inl, inr, ◌⊎◌}
use Rattle.std.specs.Prelude.{◌==◌, ◌&&◌, not, nat_lt, is_some}
use Rattle.std.specs.List.{count_by, All, AllByRecursion}
use Rattle.std.specs.List.Sorted.{IsPermutation}
use Rattle.std.specs.BinaryHeap.{IsHeap, IsUpperBound}
use Rattle.std.specs.Ordering.{nat_cmp, ordering_then, is_lt}
use Rattle.std.specs.declared.cmp.Ordering.TheVariants.{Less, Equal, Greater}
use Rattle.std.proofs.lemmas.Bool.{true≢false, eq-eqb, eqb-true, ne_eqb, cases_eq, cases_lt, cases_order, and_parts, and_left, and_right, and_from, both_ways, lt-ltb, le-ltb}
use Rattle.std.proofs.lemmas.List.{get_or-set_same, get_or-set_other, length-set, length-map, get_or-map, drop_more, drop_all, get_or_past}
use Rattle.std.proofs.lemmas.List.Elements.{All-nil, All-cons, All-head, All-tail, All-get_or, All-map}
use Rattle.std.proofs.lemmas.List.Sorted.{All-permutation, length_permutation, sum_by_popped, sum_by_pushed}
use Rattle.std.proofs.lemmas.List.Sums.{sum_by-set, get_or-le-sum_by}
use Rattle.dep_graph.specs.Graphs.{depends_at, times, edges_at, targets}
use Rattle.bulk_model.specs.declared.plan.Edge.{Edge}
use Rattle.bulk_model.specs.declared.depend.DepKind.TheVariants.{Pkg}
use Rattle.bucket_queue.specs.declared.mark.Mark.{Mark}
use Rattle.bucket_queue.specs.declared.mark.Mark.TheVariants.{Ignored, Taken, Done, Bad}
use Rattle.bucket_queue.specs.QueueView.{is_free, is_taken, has_package, mark_at, is_clear, best_below}
use Rattle.bucket_queue.specs.Inner.{ReadyView, ready_cmp, count_missing, times_ready, is_waiting_for_none, IsQueue}
use Rattle.bucket_queue.proofs.Counting.{one_if, count_by-cons, all_from_none, free_has_none, mark_here, mark_there, missing_same, missing_less}
use Rattle.bucket_queue.proofs.Best.{Leads, none_best, none_found, best_is}

-- what a read past the end of edges gives
abbrev pub no_edge : Edge
no_edge = record { kind = Pkg; to = 0 }

-- an entry of the heap for a node that it has
pub record Entry (ready : List ReadyView) (P : ReadyView → Type 0) (n : ℕ) : Type 0 where
  pub entry : ReadyView
  pub node : entry.1.0 ≡ n
  pub holds : P entry

entry_case : (P : ReadyView → Type 0) (x : ReadyView) (ready : List ReadyView) (n : ℕ) → P x → (0 < times_ready ready n → Entry ready P n) → (b : Bool) → (n == x.1.0) ≡ b → 0 < one_if b + times_ready ready n
    → Entry (x ∷ ready) P n
entry_case P x ready n p rest true e l = record { entry = x; node = sym (eqb-true n x.1.0 e); holds = p }
entry_case P x ready n p rest false e l =
    let h : Entry ready P n = rest (let z : 0 < 0 + times_ready ready n = l in omega arith) in
    record { entry = h.entry; node = h.node; holds = h.holds }

pub entry_of : (P : ReadyView → Type 0) (ready : List ReadyView) (n : ℕ) → All P ready → 0 < times_ready ready n → Entry ready P n
entry_of P [] n all l = absurd (let z : 0 < 0 = l in omega arith)
entry_of P (x ∷ ready) n all l =
    entry_case P x ready n (All-head P x ready all) (entry_of P ready n (All-tail P x ready all)) (n == x.1.0) refl (subst (λ t. 0 < t) (count_by-cons (λ entry. n == entry.1.0) x ready) l)

one_if_true : (b : Bool) → 0 < one_if b → b ≡ true
one_if_true true l = refl
one_if_true false l = absurd (let z : 0 < 0 = l in omega arith)

true_from_one : (b : Bool) (t : ℕ) → t + 1 ≡ one_if b → (b ≡ true) × (t ≡ 0)
true_from_one true t e = (refl, omega arith)
true_from_one false t e = absurd (let z : t + 1 ≡ 0 = e in omega arith)

not_one : (b : Bool) → one_if b ≡ 0 → b ≡ false
not_one true e = absurd (let z : 1 ≡ 0 = e in omega arith)
not_one false e = refl

past_case : (marks : List Mark) (n : ℕ) → is_taken (mark_at marks n) ≡ true → (n < length marks) ⊎ (length marks ≤ n) → n < length marks
past_case marks n h (inl l) = l
past_case marks n h (inr past) = absurd (true≢false (sym h ∙ ap is_taken (get_or_past marks n Ignored past)))

-- only a node is taken
pub running_within : (marks : List Mark) (n : ℕ) → is_taken (mark_at marks n) ≡ true → n < length marks
running_within marks n h = past_case marks n h (cases_lt n (length marks))

-- what `pop` says of two entries
cmp_case : (a b n m : ℕ) → is_lt (ordering_then (nat_cmp a b) (nat_cmp m n)) ≡ false → (a ≡ b) ⊎ ((a < b) ⊎ (b < a)) → (m < n) ⊎ (n ≤ m) → (b < a) ⊎ ((b ≡ a) × (n ≤ m))
cmp_case a b n m h (inl same) (inl less) = absurd (both_ways (is_lt (ordering_then (nat_cmp a b) (nat_cmp m n))) h
    (ap (λ c. is_lt (ordering_then (cond c Less (cond (a == b) Equal Greater)) (nat_cmp m n))) (le-ltb a b (omega arith))
    ∙ ap (λ c. is_lt (ordering_then (cond c Equal Greater) (nat_cmp m n))) (eq-eqb a b same)
    ∙ ap (λ c. is_lt (cond c Less (cond (m == n) Equal Greater))) (lt-ltb m n less)))
cmp_case a b n m h (inl same) (inr more) = inr (sym same, more)
cmp_case a b n m h (inr (inl less)) which = absurd (both_ways (is_lt (ordering_then (nat_cmp a b) (nat_cmp m n))) h
    (ap (λ c. is_lt (ordering_then (cond c Less (cond (a == b) Equal Greater)) (nat_cmp m n))) (lt-ltb a b less)))
cmp_case a b n m h (inr (inr more)) which = inl more

leads_from : (buckets : List ℕ) (a b n m : ℕ) → a ≡ get_or buckets n 0 → b ≡ get_or buckets m 0 → (b < a) ⊎ ((b ≡ a) × (n ≤ m)) → Leads buckets n m
leads_from buckets a b n m e f (inl less) = inl (omega arith)
leads_from buckets a b n m e f (inr same) = inr (sym f ∙ same.0 ∙ e, same.1)

first_leads : (x y : ReadyView) (buckets : List ℕ) → is_lt (ready_cmp x y) ≡ false → x.0 ≡ get_or buckets x.1.0 0 → y.0 ≡ get_or buckets y.1.0 0 → Leads buckets x.1.0 y.1.0
first_leads x y buckets h a b =
    leads_from buckets x.0 y.0 x.1.0 y.1.0 a b (cmp_case x.0 y.0 x.1.0 y.1.0 h (cases_order x.0 y.0) (cases_lt y.1.0 x.1.0))

waiting_from : (marks : List Mark) (missing : List ℕ) (n : ℕ) (mark : Mark) → mark_at marks n ≡ mark → is_free mark ≡ false → is_waiting_for_none marks missing n ≡ false
waiting_from marks missing n mark e f = and_left (is_free (mark_at marks n)) (get_or missing n 0 == 0) (ap is_free e ∙ f)

All-both : {X : Type 0} (P Q : X → Type 0) (xs : List X) → All P xs → All Q xs → All (λ x. P x × Q x) xs
All-both P Q xs a b k d l = (a k d l, b k d l)

All-from_recursion : {X : Type 0} (P : X → Type 0) (xs : List X) → AllByRecursion P xs → All P xs
All-from_recursion P [] h = All-nil P
All-from_recursion P (x ∷ xs) h = All-cons P x xs h.0 (All-from_recursion P xs h.1)

pub and_true : (b : Bool) → (b && true) ≡ b
and_true true = refl
and_true false = refl

pub and_false : (b : Bool) → (b && false) ≡ false
and_false true = refl
and_false false = refl

one_most : (b : Bool) → 0 + one_if b ≤ 1
one_most true = omega arith
one_most false = omega arith

pub and_at_most : (a b : Bool) (t : ℕ) → one_if b + t ≤ 1 → one_if (a && b) + t ≤ 1
and_at_most true b t l = l
and_at_most false true t l = let z : 1 + t ≤ 1 = l in (let y : 0 + t ≤ 1 = omega arith in y)
and_at_most false false t l = l

pub zero_or_one : (left : ℕ) (b : Bool) → (left == 0) ≡ b → one_if b + one_if (nat_lt 0 left) ≤ 1
zero_or_one left true e = subst (λ t. 1 + one_if t ≤ 1) (sym (le-ltb 0 left (let z : left ≡ 0 = eqb-true left 0 e in omega arith))) (let z : 1 + 0 ≤ 1 = omega arith in z)
zero_or_one left false e = one_most (nat_lt 0 left)

module _ (count : ℕ) (graph turned : List (List Edge)) (buckets : List ℕ) where
  -- a node waits for none exactly where it was not taken and each dependency has a package
  pub waiting_is : (marks : List Mark) (missing : List ℕ) (ready : List ReadyView) (room n : ℕ) → n < count → IsQueue count graph turned [] buckets marks missing ready room
      → is_waiting_for_none marks missing n ≡ is_clear graph marks n
  waiting_is marks missing ready room n l q =
      let none : get_or missing n 0 ≡ count_missing marks (depends_at graph n) = q.counts n l ∙ (let z : count_missing marks (depends_at graph n) + 0 ≡ count_missing marks (depends_at graph n) = omega arith in z) in
      ap (λ t. is_free (mark_at marks n) && (t == 0)) none ∙ ap (λ b. is_free (mark_at marks n) && b) (sym (all_from_none (λ d. has_package (mark_at marks d)) (depends_at graph n)))

  -- a mark of a node that was not free and is not free, and has a package no more than before
  members_case : (marks : List Mark) (missing : List ℕ) (n m : ℕ) (mark : Mark) → n < length marks → is_free (mark_at marks n) ≡ false → is_free mark ≡ false → (m ≡ n) ⊎ (m ≡ n → ⊥)
      → is_waiting_for_none (set marks n mark) missing m ≡ is_waiting_for_none marks missing m
  members_case marks missing n m mark l e f (inl same) =
      waiting_from (set marks n mark) missing m mark (ap (mark_at (set marks n mark)) same ∙ mark_here marks n mark l) f
      ∙ sym (and_left (is_free (mark_at marks m)) (get_or missing m 0 == 0) (ap (λ x. is_free (mark_at marks x)) same ∙ e))
  members_case marks missing n m mark l e f (inr apart) = ap (λ x. is_free x && (get_or missing m 0 == 0)) (mark_there marks n mark l m apart)

  pub marked_bad : (marks : List Mark) (missing : List ℕ) (ready : List ReadyView) (room n : ℕ) → n < length marks → mark_at marks n ≡ Taken → IsQueue count graph turned [] buckets marks missing ready room
      → IsQueue count graph turned [] buckets (set marks n Bad) missing ready room
  marked_bad marks missing ready room n l e q = record {
    turned_size = q.turned_size;
    buckets_size = q.buckets_size;
    marks_size = length-set marks n Bad ∙ q.marks_size;
    missing_size = q.missing_size;
    rest_within = q.rest_within;
    turned_within = q.turned_within;
    edges = q.edges;
    counts = λ m b. q.counts m b ∙ ap (λ t. t + 0) (sym (missing_same marks n Bad l (ap has_package e) (depends_at graph m)));
    heap = q.heap;
    entries = q.entries;
    members = λ m b. q.members m b ∙ ap one_if (sym (members_case marks missing n m Bad l (ap is_free e) refl (cases_eq m n)));
    fits = q.fits;
  }

  pub marked_done : (marks : List Mark) (missing : List ℕ) (ready : List ReadyView) (room n : ℕ) → n < length marks → mark_at marks n ≡ Taken → IsQueue count graph turned [] buckets marks missing ready room
      → IsQueue count graph turned (depends_at turned n) buckets (set marks n Done) missing ready room
  marked_done marks missing ready room n l e q =
      let within : n < count = (let s : length marks ≡ count = q.marks_size in omega arith) in
      record {
        turned_size = q.turned_size;
        buckets_size = q.buckets_size;
        marks_size = length-set marks n Done ∙ q.marks_size;
        missing_size = q.missing_size;
        rest_within = All-map (λ n. n < count) (λ (edge : Edge). edge.to) (edges_at turned n) (All-get_or (λ list. All (λ (edge : Edge). edge.to < count) list) turned n [] (let s : length turned ≡ count = q.turned_size in omega arith) q.turned_within);
        turned_within = q.turned_within;
        edges = q.edges;
        counts = λ m b.
            q.counts m b ∙ ap (λ t. t + 0) (missing_less marks n Done l (ap has_package e) refl (depends_at graph m))
            ∙ (let z : count_missing (set marks n Done) (depends_at graph m) + times (depends_at graph m) n + 0 ≡ count_missing (set marks n Done) (depends_at graph m) + times (depends_at graph m) n = omega arith in z)
            ∙ ap (λ t. count_missing (set marks n Done) (depends_at graph m) + t) (sym (q.edges m n b within));
        heap = q.heap;
        entries = q.entries;
        members = λ m b. q.members m b ∙ ap one_if (sym (members_case marks missing n m Done l (ap is_free e) refl (cases_eq m n)));
        fits = q.fits;
      }

  abbrev EntryFits : ReadyView → Type 0
  EntryFits entry = (entry.1.0 < count) × (entry.0 ≡ get_or buckets entry.1.0 0)

  -- the greatest entry is taken out
  module _ (marks : List Mark) (missing : List ℕ) (ready left : List ReadyView) (room : ℕ) (x : ReadyView) (perm : IsPermutation ready (x ∷ left)) (q : IsQueue count graph turned [] buckets marks missing ready room) where
    all : All EntryFits (x ∷ left)
    all = All-permutation EntryFits ready (x ∷ left) perm q.entries

    pub popped_fits : EntryFits x
    popped_fits = All-head EntryFits x left all

    popped_times : (m : ℕ) → times_ready left m + one_if (m == x.1.0) ≡ times_ready ready m
    popped_times m = sum_by_popped (λ (entry : ReadyView). cond (m == entry.1.0) 1 0) x ready left perm

    pub was_waiting : (is_waiting_for_none marks missing x.1.0 ≡ true) × (times_ready left x.1.0 ≡ 0)
    was_waiting =
        true_from_one (is_waiting_for_none marks missing x.1.0) (times_ready left x.1.0)
        (ap (λ b. times_ready left x.1.0 + one_if b) (sym (eq-eqb x.1.0 x.1.0 refl)) ∙ popped_times x.1.0 ∙ q.members x.1.0 popped_fits.0)

    pub was_free : is_free (mark_at marks x.1.0) ≡ true
    was_free = (and_parts (is_free (mark_at marks x.1.0)) (get_or missing x.1.0 0 == 0) was_waiting.0).0

    pub marked_within : x.1.0 < length marks
    marked_within = let l : x.1.0 < count = popped_fits.0 in let s : length marks ≡ count = q.marks_size in omega arith

    taken_case : (m : ℕ) → m < count → (m ≡ x.1.0) ⊎ (m ≡ x.1.0 → ⊥) → times_ready left m ≡ one_if (is_waiting_for_none (set marks x.1.0 Taken) missing m)
    taken_case m b (inl same) =
        ap (times_ready left) same ∙ was_waiting.1
        ∙ sym (ap one_if (waiting_from (set marks x.1.0 Taken) missing m Taken (ap (mark_at (set marks x.1.0 Taken)) same ∙ mark_here marks x.1.0 Taken marked_within) refl))
    taken_case m b (inr apart) =
        (let z : times_ready left m ≡ times_ready left m + 0 = omega arith in z) ∙ ap (λ c. times_ready left m + one_if c) (sym (ne_eqb m x.1.0 apart)) ∙ popped_times m ∙ q.members m b
        ∙ sym (ap (λ y. one_if (is_free y && (get_or missing m 0 == 0))) (mark_there marks x.1.0 Taken marked_within m apart))

    pub taken_out : IsHeap ready_cmp left → IsQueue count graph turned [] buckets (set marks x.1.0 Taken) missing left room
    taken_out heap = record {
      turned_size = q.turned_size;
      buckets_size = q.buckets_size;
      marks_size = length-set marks x.1.0 Taken ∙ q.marks_size;
      missing_size = q.missing_size;
      rest_within = q.rest_within;
      turned_within = q.turned_within;
      edges = q.edges;
      counts = λ m b. q.counts m b ∙ ap (λ t. t + 0) (sym (missing_same marks x.1.0 Taken marked_within (free_has_none (mark_at marks x.1.0) was_free) (depends_at graph m)));
      heap = heap;
      entries = All-tail EntryFits x left all;
      members = λ m b. taken_case m b (cases_eq m x.1.0);
      fits = (let size : length (x ∷ left) ≡ length ready = length_permutation ready (x ∷ left) perm in
          let l : length ready + count_by (λ left. nat_lt 0 left) missing ≤ room = q.fits in
          let one : length (x ∷ left) ≡ length left + 1 = omega arith in omega arith);
    }

    -- and it is the best of the nodes that are ready
    lead_case : (m : ℕ) → Entry ready (λ entry. EntryFits entry × (is_lt (ready_cmp x entry) ≡ false)) m → Leads buckets x.1.0 m
    lead_case m e = subst (Leads buckets x.1.0) e.node (first_leads x e.entry buckets e.holds.1 popped_fits.1 e.holds.0.1)

    both_all : (entries : List ReadyView) → All EntryFits entries → IsUpperBound ready_cmp x entries → All (λ entry. EntryFits entry × (is_lt (ready_cmp x entry) ≡ false)) entries
    both_all entries a b = All-both EntryFits (λ entry. is_lt (ready_cmp x entry) ≡ false) entries a (All-from_recursion (λ entry. is_lt (ready_cmp x entry) ≡ false) entries b)

    pub popped_best : IsUpperBound ready_cmp x ready → best_below (is_clear graph marks) buckets (length marks) ≡ Some x.1.0
    popped_best upper =
        best_is (is_clear graph marks) buckets (length marks) x.1.0 marked_within (sym (waiting_is marks missing ready room x.1.0 popped_fits.0 q) ∙ was_waiting.0)
        (λ m b p.
        let l : m < count = (let s : length marks ≡ count = q.marks_size in omega arith) in
        lead_case m (entry_of (λ entry. EntryFits entry × (is_lt (ready_cmp x entry) ≡ false)) ready m (both_all ready q.entries upper)
        (subst (λ t. 0 < t) (sym (q.members m l ∙ ap one_if (waiting_is marks missing ready room m l q ∙ p))) (let z : 0 < 1 = omega arith in z))))

  -- nothing is ready where the heap is empty
  pub none_popped : (marks : List Mark) (missing : List ℕ) (ready : List ReadyView) (room : ℕ) → ready ≡ [] → IsQueue count graph turned [] buckets marks missing ready room
      → best_below (is_clear graph marks) buckets (length marks) ≡ None
  none_popped marks missing ready room e q =
      none_best (is_clear graph marks) buckets (length marks) (λ m b.
      let l : m < count = (let s : length marks ≡ count = q.marks_size in omega arith) in
      sym (waiting_is marks missing ready room m l q) ∙ not_one (is_waiting_for_none marks missing m) (sym (q.members m l) ∙ ap (λ r. times_ready r m) e))

  some_case : (marks : List Mark) (missing : List ℕ) (x : ReadyView) (rest : List ReadyView) (room : ℕ) → IsQueue count graph turned [] buckets marks missing (x ∷ rest) room
      → (found : Option ℕ) → best_below (is_clear graph marks) buckets (length marks) ≡ found → is_some found ≡ true
  some_case marks missing x rest room q (Some n) e = refl
  some_case marks missing x rest room q None e =
      let fits : EntryFits x = All-head EntryFits x rest q.entries in
      let here : x.1.0 < length marks = (let l : x.1.0 < count = fits.0 in let s : length marks ≡ count = q.marks_size in omega arith) in
      let one : 0 < one_if (is_waiting_for_none marks missing x.1.0) =
      subst (λ t. 0 < t) (sym (count_by-cons (λ entry. x.1.0 == entry.1.0) x rest ∙ ap (λ b. one_if b + times_ready rest x.1.0) (eq-eqb x.1.0 x.1.0 refl)) ∙ q.members x.1.0 fits.0) (let z : 0 < 1 + times_ready rest x.1.0 = omega arith in z) in
      absurd (both_ways (is_clear graph marks x.1.0) (none_found (is_clear graph marks) buckets (length marks) e x.1.0 here)
      (sym (waiting_is marks missing (x ∷ rest) room x.1.0 fits.0 q) ∙ one_if_true (is_waiting_for_none marks missing x.1.0) one))

  -- something is ready exactly where the heap has an entry
  pub none_where_empty : (marks : List Mark) (missing : List ℕ) (ready : List ReadyView) (room : ℕ) → IsQueue count graph turned [] buckets marks missing ready room
      → not (is_some (best_below (is_clear graph marks) buckets (length marks))) ≡ (length ready == 0)
  none_where_empty marks missing [] room q = ap (λ o. not (is_some o)) (none_popped marks missing [] room refl q)
  none_where_empty marks missing (x ∷ rest) room q = ap not (some_case marks missing x rest room q (best_below (is_clear graph marks) buckets (length marks)) refl) ∙ sym (ne_eqb (length (x ∷ rest)) 0 (λ e. omega arith))

  -- a waiting node waits for one dependency less
  module _ (marks : List Mark) (missing : List ℕ) (ready : List ReadyView) (room n : ℕ) (rest : List ℕ) (q : IsQueue count graph turned (n ∷ rest) buckets marks missing ready room) where
    pub lowered_within : n < count
    lowered_within = All-head (λ n. n < count) n rest q.rest_within

    here : n < length missing
    here = let l : n < count = lowered_within in let s : length missing ≡ count = q.missing_size in omega arith

    pub waits : 0 < get_or missing n 0
    waits =
        let e : get_or missing n 0 ≡ count_missing marks (depends_at graph n) + (1 + times rest n) =
        q.counts n lowered_within ∙ ap (λ t. count_missing marks (depends_at graph n) + t) (count_by-cons (λ x. n == x) n rest ∙ ap (λ b. one_if b + times rest n) (eq-eqb n n refl)) in
        omega arith

    abbrev left : ℕ
    left = get_or missing n 0 - 1

    abbrev lowered : List ℕ
    lowered = set missing n left

    abbrev enters : Bool
    enters = is_free (mark_at marks n) && (left == 0)

    left_here : get_or lowered n 0 ≡ left
    left_here = get_or-set_same missing n left 0 here

    left_there : (m : ℕ) → (m ≡ n → ⊥) → get_or lowered m 0 ≡ get_or missing m 0
    left_there m apart = get_or-set_other missing n m left 0 apart

    count_case : (m : ℕ) → m < count → (m ≡ n) ⊎ (m ≡ n → ⊥) → get_or lowered m 0 ≡ count_missing marks (depends_at graph m) + times rest m
    count_case m l (inl same) =
        let was : get_or missing m 0 ≡ count_missing marks (depends_at graph m) + (1 + times rest m) =
        q.counts m l ∙ ap (λ t. count_missing marks (depends_at graph m) + t) (count_by-cons (λ x. m == x) n rest ∙ ap (λ b. one_if b + times rest m) (eq-eqb m n same)) in
        ap (λ x. get_or lowered x 0) same ∙ left_here ∙ ap (λ x. get_or missing x 0 - 1) (sym same) ∙ (omega arith)
    count_case m l (inr apart) =
        left_there m apart ∙ q.counts m l
        ∙ ap (λ t. count_missing marks (depends_at graph m) + t) (count_by-cons (λ x. m == x) n rest ∙ ap (λ b. one_if b + times rest m) (ne_eqb m n apart) ∙ (let z : 0 + times rest m ≡ times rest m = omega arith in z))

    was_none : times_ready ready n ≡ 0
    was_none =
        q.members n lowered_within
        ∙ ap one_if (and_right (is_free (mark_at marks n)) (get_or missing n 0 == 0) (ne_eqb (get_or missing n 0) 0 (λ e. let w : 0 < get_or missing n 0 = waits in omega arith)))

    member_case : (now : List ReadyView) (m : ℕ) → m < count → times_ready now m ≡ one_if (enters && (m == n)) + times_ready ready m → (m ≡ n) ⊎ (m ≡ n → ⊥)
        → times_ready now m ≡ one_if (is_waiting_for_none marks lowered m)
    member_case now m l e (inl same) =
        e ∙ ap (λ b. one_if (enters && b) + times_ready ready m) (eq-eqb m n same) ∙ ap (λ b. one_if b + times_ready ready m) (and_true enters)
        ∙ ap (λ t. one_if enters + t) (ap (times_ready ready) same ∙ was_none) ∙ (let z : one_if enters + 0 ≡ one_if enters = omega arith in z)
        ∙ sym (ap (λ x. one_if (is_waiting_for_none marks lowered x)) same ∙ ap (λ t. one_if (is_free (mark_at marks n) && (t == 0))) left_here)
    member_case now m l e (inr apart) =
        e ∙ ap (λ b. one_if (enters && b) + times_ready ready m) (ne_eqb m n apart) ∙ ap (λ b. one_if b + times_ready ready m) (and_false enters)
        ∙ (let z : 0 + times_ready ready m ≡ times_ready ready m = omega arith in z) ∙ q.members m l
        ∙ sym (ap (λ t. one_if (is_free (mark_at marks m) && (t == 0))) (left_there m apart))

    closed : (now : List ReadyView) (after : ℕ) → IsHeap ready_cmp now → All EntryFits now → ((m : ℕ) → times_ready now m ≡ one_if (enters && (m == n)) + times_ready ready m)
        → length now ≡ one_if enters + length ready → room ≤ after → IsQueue count graph turned rest buckets marks lowered now after
    closed now after heap entries more size l = record {
      turned_size = q.turned_size;
      buckets_size = q.buckets_size;
      marks_size = q.marks_size;
      missing_size = length-set missing n left ∙ q.missing_size;
      rest_within = All-tail (λ n. n < count) n rest q.rest_within;
      turned_within = q.turned_within;
      edges = q.edges;
      counts = λ m b. count_case m b (cases_eq m n);
      heap = heap;
      entries = entries;
      members = λ m b. member_case now m b (more m) (cases_eq m n);
      fits = (let f : length ready + count_by (λ left. nat_lt 0 left) missing ≤ room = q.fits in
          let sums : count_by (λ left. nat_lt 0 left) lowered + one_if (nat_lt 0 (get_or missing n 0)) ≡ count_by (λ left. nat_lt 0 left) missing + one_if (nat_lt 0 left) =
          sum_by-set (λ t. cond (nat_lt 0 t) 1 0) missing n left 0 here in
          let one : one_if (nat_lt 0 (get_or missing n 0)) ≡ 1 = ap one_if (lt-ltb 0 (get_or missing n 0) waits) in
          let most : one_if enters + one_if (nat_lt 0 left) ≤ 1 = and_at_most (is_free (mark_at marks n)) (left == 0) (one_if (nat_lt 0 left)) (zero_or_one left (left == 0) refl) in
          omega arith);
    }

    -- the heap has room for a node that still waits
    pub has_room : length ready < room
    has_room =
        let f : length ready + count_by (λ left. nat_lt 0 left) missing ≤ room = q.fits in
        let one : one_if (nat_lt 0 (get_or missing n 0)) ≡ 1 = ap one_if (lt-ltb 0 (get_or missing n 0) waits) in
        let some : one_if (nat_lt 0 (get_or missing n 0)) ≤ count_by (λ left. nat_lt 0 left) missing = get_or-le-sum_by (λ t. cond (nat_lt 0 t) 1 0) missing n 0 here in
        omega arith

    pub kept_out : enters ≡ false → IsQueue count graph turned rest buckets marks lowered ready room
    kept_out e =
        closed ready room q.heap q.entries
        (λ m. (let z : times_ready ready m ≡ 0 + times_ready ready m = omega arith in z) ∙ ap (λ b. one_if (b && (m == n)) + times_ready ready m) (sym e))
        ((let z : length ready ≡ 0 + length ready = omega arith in z) ∙ ap (λ b. one_if b + length ready) (sym e)) (omega arith)

    pub let_in : (x : ReadyView) (now : List ReadyView) (after : ℕ) → enters ≡ true → x.1.0 ≡ n → x.0 ≡ get_or buckets n 0 → IsPermutation (x ∷ ready) now → IsHeap ready_cmp now → room ≤ after
        → IsQueue count graph turned rest buckets marks lowered now after
    let_in x now after e node key perm heap l =
        closed now after heap
        (All-permutation EntryFits (x ∷ ready) now perm (All-cons EntryFits x ready (subst (λ t. t < count) (sym node) lowered_within, key ∙ ap (λ t. get_or buckets t 0) (sym node)) q.entries))
        (λ m. sum_by_pushed (λ (entry : ReadyView). cond (m == entry.1.0) 1 0) x ready now perm ∙ ap (λ t. one_if (m == t) + times_ready ready m) node
        ∙ ap (λ b. one_if (b && (m == n)) + times_ready ready m) (sym e))
        (let size : length now ≡ length (x ∷ ready) = length_permutation (x ∷ ready) now perm in
        (let z : length now ≡ 1 + length ready = (let y : length (x ∷ ready) ≡ length ready + 1 = omega arith in omega arith) in z) ∙ ap (λ b. one_if b + length ready) (sym e)) l

  -- the same at a place of a list of edges
  module _ (marks : List Mark) (missing : List ℕ) (ready : List ReadyView) (room : ℕ) (items : List Edge) (i : ℕ) (l : i < length items) (q : IsQueue count graph turned (drop i (targets items)) buckets marks missing ready room) where
    abbrev node : ℕ
    node = (get_or items i no_edge).to

    rest_is : drop i (targets items) ≡ node ∷ drop (i + 1) (targets items)
    rest_is =
        drop_more (targets items) i 0 (subst (λ k. i < k) (sym (length-map items (λ (edge : Edge). edge.to))) l)
        ∙ ap (λ n. n ∷ drop (i + 1) (targets items)) (get_or-map (λ (edge : Edge). edge.to) items i no_edge 0 l)

    at_node : IsQueue count graph turned (node ∷ drop (i + 1) (targets items)) buckets marks missing ready room
    at_node = subst (λ rest. IsQueue count graph turned rest buckets marks missing ready room) rest_is q

    pub next_waits : 0 < get_or missing node 0
    next_waits = waits marks missing ready room node (drop (i + 1) (targets items)) at_node

    pub next_room : length ready < room
    next_room = has_room marks missing ready room node (drop (i + 1) (targets items)) at_node

    pub next_out : (is_free (mark_at marks node) && (get_or missing node 0 - 1 == 0)) ≡ false
        → IsQueue count graph turned (drop (i + 1) (targets items)) buckets marks (set missing node (get_or missing node 0 - 1)) ready room
    next_out e = kept_out marks missing ready room node (drop (i + 1) (targets items)) at_node e

    pub next_in : (key : ℕ) (now : List ReadyView) (after : ℕ) → is_free (mark_at marks node) ≡ true → get_or missing node 0 - 1 ≡ 0 → key ≡ get_or buckets node 0
        → IsPermutation ((key, record { 0 = node }) ∷ ready) now → (IsHeap ready_cmp ready → IsHeap ready_cmp now) → room ≤ after
        → IsQueue count graph turned (drop (i + 1) (targets items)) buckets marks (set missing node (get_or missing node 0 - 1)) now after
    next_in key now after f e k perm heap more =
        let_in marks missing ready room node (drop (i + 1) (targets items)) at_node (key, record { 0 = node }) now after
        (and_from (is_free (mark_at marks node)) (get_or missing node 0 - 1 == 0) f (eq-eqb (get_or missing node 0 - 1) 0 e)) refl k perm (heap q.heap) more

pub all_past : (items : List Edge) (i : ℕ) → length items ≤ i → drop i (targets items) ≡ []
all_past items i past =
    drop_all i (targets items) (subst (λ k. k ≤ i) (sym (length-map items (λ (edge : Edge). edge.to))) past)
