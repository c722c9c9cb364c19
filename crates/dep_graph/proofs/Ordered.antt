-- Where the loop begins that orders nodes, and what is ordered where it ends.
use Rattle.std.proofs.Common.{◌≡◌, ◌≢◌, ℕ, zero, suc, ◌+◌, ◌-◌, ◌<◌, ◌≤◌, Bool, true, false, List, [], ◌∷◌, ◌++◌, length, get_or, take, refl, ap, sym, subst, ◌∙◌, arith, nat_eq, Some}
use Rattle.std.specs.Prelude.{◌==◌, ◌&&◌, not, filter, map}
use Rattle.std.specs.List.{list_all, range_with_len, All, IsDistinct, AllPairs, slice_get}
use Rattle.std.specs.Cmp.{nat_eq_equiv}
use Rattle.std.proofs.lemmas.Bool.{eq-eqb, eqb-true, ne_eqb, both_ways, and_parts, and_from, false_from_ne_true}
use Rattle.std.proofs.lemmas.List.{take_all, get_or-map, length-map, length_push, nil_from_length, length-take-le, get_or-take}
use Rattle.std.proofs.lemmas.List.Kept.{IsStrictlyIncreasing-filter, AllPairs-from_increasing}
use Rattle.std.proofs.lemmas.List.Sums.{AllPass-from_list_all, list_all-from_AllPass}
use Rattle.std.proofs.lemmas.List.Elements.{All-push, All-nil}
use Rattle.std.proofs.lemmas.Map.Keys.{IsDistinct-push, IsDistinct-from_apart}
use Rattle.std.proofs.lemmas.Map.Steps.{le-length_from_below}
use Rattle.bulk_model.specs.declared.plan.Edge.{Edge}
use Rattle.dep_graph.specs.Graphs.{has, times, edges_at, targets, depends_at, nodes_of, IsWithin}
use Rattle.dep_graph.specs.Order.{IsInOrder, IsDependencyOrder, is_away, is_free, is_loopless, IsLooplessPart}
use Rattle.dep_graph.specs.Waiting.{count_outside, IsWaiting}
use Rattle.dep_graph.proofs.Members.{Place, place_of, has_at, has-filter, has-range, below-range, all_has, all_from_has, same_bool, at_most, got}
use Rattle.dep_graph.proofs.Reaching.{target_below, increasing_range}
use Rattle.dep_graph.proofs.Waiting.{some_outside, Outside, count_outside-cons, take_up}
use Rattle.dep_graph.proofs.Turns.{is_turned}
use Rattle.dep_graph.specs.Turned.{dependents_at, dependents}
use Rattle.std.proofs.lemmas.List.FromFn.{length-range_with_len}
use Rattle.std.proofs.lemmas.List.Elements.{All-get_or}

and_true : (b : Bool) → (b && true) ≡ b
and_true true = refl
and_true false = refl

is_not : (b : Bool) → not b ≡ true → b ≡ false
is_not true e = absurd (both_ways false refl e)
is_not false e = refl

-- one of the numbers passes
pub record Staying (keeps : ℕ → Bool) (numbers : List ℕ) : Type 0 where
  pub at : ℕ
  pub member : has numbers at ≡ true
  pub does : keeps at ≡ true

-- at the beginning
all_outside : (numbers : List ℕ) → count_outside [] numbers ≡ length numbers
all_outside [] = refl
all_outside (x ∷ numbers) = count_outside-cons [] numbers x ∙ ap (λ t. 1 + t) (all_outside numbers) ∙ (let e : 1 + length numbers ≡ suc (length numbers) = omega arith in e)

pub distinct_filter : (p : ℕ → Bool) (count : ℕ) → IsDistinct nat_eq (filter p (range_with_len 0 count))
distinct_filter p count =
    let rises : AllPairs (λ x y. x < y) (filter p (range_with_len 0 count)) =
    AllPairs-from_increasing (filter p (range_with_len 0 count)) (IsStrictlyIncreasing-filter p (range_with_len 0 count) (increasing_range count)) in
    IsDistinct-from_apart nat_eq (filter p (range_with_len 0 count))
    (λ i j d b l. ne_eqb (get_or (filter p (range_with_len 0 count)) i d) (get_or (filter p (range_with_len 0 count)) j d)
    (λ e. let less : get_or (filter p (range_with_len 0 count)) i d < get_or (filter p (range_with_len 0 count)) j d = rises i j d b l in omega arith))

module _ (graph : List (List Edge)) where
  edges_counted : (left : List ℕ) (n : ℕ) → left ≡ map (λ edges. length edges) graph → n < length graph → get_or left n 0 ≡ length (depends_at graph n)
  edges_counted left n e l =
      ap (λ xs. get_or xs n 0) e ∙ get_or-map (λ (edges : List Edge). length edges) graph n [] 0 l ∙ sym (length-map (edges_at graph n) (λ (edge : Edge). edge.to))

  pub begin_waiting : (left order : List ℕ) → left ≡ map (λ edges. length edges) graph → order ≡ filter (λ n. get_or left n 0 == 0) (range_with_len 0 (length left)) → IsWaiting graph 0 [] left order
  begin_waiting left order e o =
      let size : length left ≡ length graph = ap length e ∙ length-map graph (λ (edges : List Edge). length edges) in
      let member : (n : ℕ) → has order n ≡ ((get_or left n 0 == 0) && has (range_with_len 0 (length left)) n) =
      λ n. ap (λ l. has l n) o ∙ has-filter (λ m. get_or left m 0 == 0) (range_with_len 0 (length left)) n in
      record {
        size = size;
        within = omega arith;
        counts = λ n l. edges_counted left n e l ∙ sym (all_outside (depends_at graph n)) ∙ (let z : count_outside [] (depends_at graph n) ≡ count_outside [] (depends_at graph n) + 0 = omega arith in z);
        ordered = λ n l. member n ∙ ap (λ b. (get_or left n 0 == 0) && b) (has-range (length left) n (omega arith)) ∙ and_true (get_or left n 0 == 0);
        in_order = record {
          nodes = all_from_has (λ n. n < length graph) order (λ n h.
              let below : n < length left = below-range (length left) n (and_parts (get_or left n 0 == 0) (has (range_with_len 0 (length left)) n) (sym (member n) ∙ h)).1 in omega arith);
          once = subst (IsDistinct nat_eq) (sym o) (distinct_filter (λ n. get_or left n 0 == 0) (length left));
          behind = λ place l.
              let both : ((get_or left (get_or order place 0) 0 == 0) ≡ true) × (has (range_with_len 0 (length left)) (get_or order place 0) ≡ true) =
              and_parts (get_or left (get_or order place 0) 0 == 0) (has (range_with_len 0 (length left)) (get_or order place 0)) (sym (member (get_or order place 0)) ∙ has_at order place l) in
              let below : get_or order place 0 < length graph = (let b : get_or order place 0 < length left = below-range (length left) (get_or order place 0) both.1 in omega arith) in
              let none : length (depends_at graph (get_or order place 0)) ≡ 0 = sym (edges_counted left (get_or order place 0) e below) ∙ eqb-true (get_or left (get_or order place 0) 0) 0 both.0 in
              subst (λ numbers. All (λ d. has (take place order) d ≡ true) numbers) (sym (nil_from_length (depends_at graph (get_or order place 0)) none)) (All-nil (λ d. has (take place order) d ≡ true));
        };
      }

  -- rounds that take nodes away
  away_more : (rounds n : ℕ) → is_away graph rounds n ≡ true → is_away graph (suc rounds) n ≡ true
  away_more zero n h = absurd (both_ways false refl h)
  away_more (suc rounds) n h =
      list_all-from_AllPass (is_away graph (suc rounds)) (depends_at graph n)
      (all_from_has (λ d. is_away graph (suc rounds) d ≡ true) (depends_at graph n)
      (λ d t. away_more rounds d (all_has (λ d. is_away graph rounds d ≡ true) (depends_at graph n) d (AllPass-from_list_all (is_away graph rounds) (depends_at graph n) h) t)))

  away_add : (more rounds n : ℕ) → is_away graph rounds n ≡ true → is_away graph (more + rounds) n ≡ true
  away_add zero rounds n h = let e : rounds ≡ zero + rounds = omega arith in subst (λ r. is_away graph r n ≡ true) e h
  away_add (suc more) rounds n h = let e : suc (more + rounds) ≡ suc more + rounds = omega arith in subst (λ r. is_away graph r n ≡ true) e (away_more (more + rounds) n (away_add more rounds n h))

  pub away_upto : (rounds most n : ℕ) → rounds ≤ most → is_away graph rounds n ≡ true → is_away graph most n ≡ true
  away_upto rounds most n l h = let e : most - rounds + rounds ≡ most = omega arith in subst (λ r. is_away graph r n ≡ true) e (away_add (most - rounds) rounds n h)

  -- a node of an order is away after as many rounds as its place says
  placed_below : (list : List ℕ) → IsInOrder graph list → (bound i : ℕ) → i < bound → i < length list → is_away graph (suc i) (get_or list i 0) ≡ true
  placed_below list o zero i b l = absurd (omega arith)
  placed_below list o (suc bound) i b l =
      list_all-from_AllPass (is_away graph i) (depends_at graph (get_or list i 0))
      (all_from_has (λ d. is_away graph i d ≡ true) (depends_at graph (get_or list i 0))
      (λ d h.
      let place : Place (take i list) d = place_of (take i list) d (all_has (λ d. has (take i list) d ≡ true) (depends_at graph (get_or list i 0)) d (o.behind i l) h) in
      let size : length (take i list) ≡ i = length-take-le i list (omega arith) in
      let before : place.at < i = (let w : place.at < length (take i list) = place.within in omega arith) in
      let is : get_or list place.at 0 ≡ d = sym (get_or-take i list place.at 0 before) ∙ place.is in
      subst (λ n. is_away graph i n ≡ true) is
      (away_upto (suc place.at) i (get_or list place.at 0) (omega arith) (placed_below list o bound place.at (omega arith) (omega arith)))))

  pub ordered_is_free : (list : List ℕ) → IsInOrder graph list → (n : ℕ) → has list n ≡ true → is_free graph n ≡ true
  ordered_is_free list o n h =
      let place : Place list n = place_of list n h in
      let few : length list ≤ length graph = at_most list (length graph) o.once o.nodes in
      let w : place.at < length list = place.within in
      subst (λ m. is_free graph m ≡ true) place.is
      (away_upto (suc place.at) (length graph) (get_or list place.at 0) (omega arith) (placed_below list o (suc place.at) place.at (omega arith) w))

  -- a set each of whose nodes has a dependency in it is never away
  pub stays : (keeps : ℕ → Bool) → ((n : ℕ) → keeps n ≡ true → Staying keeps (depends_at graph n)) → (rounds n : ℕ) → keeps n ≡ true → is_away graph rounds n ≡ false
  stays keeps next zero n h = refl
  stays keeps next (suc rounds) n h =
      let by : Staying keeps (depends_at graph n) = next n h in
      false_from_ne_true (list_all (is_away graph rounds) (depends_at graph n))
      (λ all. both_ways (is_away graph rounds by.at) (stays keeps next rounds by.at by.does)
      (all_has (λ d. is_away graph rounds d ≡ true) (depends_at graph n) by.at (AllPass-from_list_all (is_away graph rounds) (depends_at graph n) all) by.member))

  not_ordered : (left order : List ℕ) (at : ℕ) → IsWithin (length graph) graph → length order ≤ at → IsWaiting graph at [] left order → (n : ℕ) → (not (has order n) && has (nodes_of graph) n) ≡ true
      → Staying (λ m. not (has order m) && has (nodes_of graph) m) (depends_at graph n)
  not_ordered left order at within l w n h =
      let both : (not (has order n) ≡ true) × (has (nodes_of graph) n ≡ true) = and_parts (not (has order n)) (has (nodes_of graph) n) h in
      let below : n < length graph = below-range (length graph) n both.1 in
      let waits : get_or left n 0 ≢ 0 = λ z. both_ways (has order n) (is_not (has order n) both.0) (w.ordered n below ∙ eq-eqb (get_or left n 0) 0 z) in
      let some : 0 < count_outside order (depends_at graph n) =
      subst (λ list. 0 < count_outside list (depends_at graph n)) (take_all at order l)
      (let e : get_or left n 0 ≡ count_outside (take at order) (depends_at graph n) + 0 = w.counts n below in omega arith) in
      let by : Outside order (depends_at graph n) = some_outside order (depends_at graph n) some in
      record {
        at = by.at;
        member = by.member;
        does = and_from (not (has order by.at)) (has (nodes_of graph) by.at) (ap not by.out) (has-range (length graph) by.at (target_below (length graph) graph n by.at within by.member));
      }

  free_case : (left order : List ℕ) (at : ℕ) → IsWithin (length graph) graph → length order ≤ at → IsWaiting graph at [] left order → (n : ℕ) → n < length graph → is_free graph n ≡ true
      → (b : Bool) → has order n ≡ b → has order n ≡ true
  free_case left order at within l w n below free true e = e
  free_case left order at within l w n below free false e =
      absurd (both_ways (is_free graph n)
      (stays (λ m. not (has order m) && has (nodes_of graph) m) (not_ordered left order at within l w) (length graph) n
      (and_from (not (has order n)) (has (nodes_of graph) n) (ap not e) (has-range (length graph) n below)))
      free)

  pub part_is : (left order : List ℕ) (at : ℕ) → IsWithin (length graph) graph → length order ≤ at → IsWaiting graph at [] left order → IsLooplessPart graph order
  part_is left order at within l w = record {
    in_order = w.in_order;
    free = λ n b. same_bool (has order n) (is_free graph n) (ordered_is_free order w.in_order n)
        (λ free. free_case left order at within l w n b free (has order n) refl);
  }

  -- the next node of the order
  pub next_below : (turned : List (List Edge)) (at node : ℕ) (left order : List ℕ) → turned ≡ dependents graph → Some node ≡ slice_get order at → IsWaiting graph at [] left order → node < length turned
  next_below turned at node left order e h w =
      let here : (at < length order) × (get_or order at 0 ≡ node) = got order at node h in
      let below : node < length graph = subst (λ n. n < length graph) here.1 (All-get_or (λ n. n < length graph) order at 0 here.0 w.in_order.nodes) in
      let size : length turned ≡ length graph = ap length e ∙ length-map (nodes_of graph) (dependents_at graph) ∙ length-range_with_len 0 (length graph) in
      omega arith

  pub next_taken : (turned : List (List Edge)) (at node : ℕ) (left order : List ℕ) (edges : List Edge) → turned ≡ dependents graph → Some node ≡ slice_get order at → edges ≡ get_or turned node []
      → IsWaiting graph at [] left order → IsWaiting graph (at + 1) (targets edges) left order
  next_taken turned at node left order edges e h is w =
      let here : (at < length order) × (get_or order at 0 ≡ node) = got order at node h in
      let below : node < length graph = subst (λ n. n < length graph) here.1 (All-get_or (λ n. n < length graph) order at 0 here.0 w.in_order.nodes) in
      let same : edges ≡ edges_at (dependents graph) node = is ∙ ap (λ t. edges_at t node) e in
      take_up graph at left order (targets edges) here.0
      (λ n l. ap (λ t. times (targets t) n) same ∙ is_turned graph n node l below ∙ ap (times (depends_at graph n)) (sym here.1)) w

  pub waits_fit : (first : ℕ) (rest left order : List ℕ) → IsWaiting graph first rest left order → (n : ℕ) → n < length left → times rest n ≤ get_or left n 0
  waits_fit first rest left order w n l =
      let size : length left ≡ length graph = w.size in
      let e : get_or left n 0 ≡ count_outside (take first order) (depends_at graph n) + times rest n = w.counts n (omega arith) in omega arith

  -- the part is the whole where there is no loop
  whole_case : (part : List ℕ) → IsLooplessPart graph part → length part ≡ length graph → (n : ℕ) → n < length graph → (b : Bool) → has part n ≡ b → has part n ≡ true
  whole_case part p size n l true e = e
  whole_case part p size n l false e =
      absurd (let few : length (part ++ n ∷ []) ≤ length graph =
      at_most (part ++ n ∷ []) (length graph) (IsDistinct-push nat_eq_equiv part n p.in_order.once e) (All-push (λ m. m < length graph) part n p.in_order.nodes l) in
      omega (arith, length_push part n))

  pub whole_part : (part : List ℕ) → IsLooplessPart graph part → length part ≡ length graph → IsDependencyOrder graph part
  whole_part part p size = record {
    all = λ n l. whole_case part p size n l (has part n) refl;
    in_order = p.in_order;
  }

  pub free_all : (part : List ℕ) → IsLooplessPart graph part → is_loopless graph ≡ true → length graph ≤ length part
  free_all part p h =
      le-length_from_below part (length graph)
      (λ n l. p.free n l ∙ all_has (λ m. is_free graph m ≡ true) (nodes_of graph) n (AllPass-from_list_all (is_free graph) (nodes_of graph) h) (has-range (length graph) n l))

  pub loopless_from : (list : List ℕ) → IsDependencyOrder graph list → is_loopless graph ≡ true
  loopless_from list o =
      list_all-from_AllPass (is_free graph) (nodes_of graph)
      (all_from_has (λ n. is_free graph n ≡ true) (nodes_of graph) (λ n h. ordered_is_free list o.in_order n (o.all n (below-range (length graph) n h))))
