-- All that was found, as the nodes that are reached.
use Rattle.std.proofs.Common.{◌≡◌, ℕ, ◌+◌, ◌<◌, ◌≤◌, Bool, true, List, [], length, get_or, ap, sym, subst, ◌∙◌, arith, inl, inr, ◌⊎◌}
use Rattle.std.specs.Prelude.{◌&&◌, filter}
use Rattle.std.specs.List.{range_with_len, All}
use Rattle.std.specs.List.Sorted.{IsStrictlyIncreasing}
use Rattle.std.proofs.lemmas.Bool.{and_parts, and_from, cases_lt}
use Rattle.std.proofs.lemmas.List.{get_or_past}
use Rattle.std.proofs.lemmas.List.Elements.{All-get_or, All-map}
use Rattle.std.proofs.lemmas.List.Kept.{IsStrictlyIncreasing-filter}
use Rattle.std.proofs.lemmas.List.FromFn.{length-range_with_len, get_or-range_with_len}
use Rattle.bulk_model.specs.declared.plan.Edge.{Edge}
use Rattle.dep_graph.specs.Graphs.{has, edges_at, targets, depends_at, IsWithin}
use Rattle.dep_graph.specs.Reached.{is_reached, reach, IsClosed, IsReach}
use Rattle.dep_graph.specs.Found.{FoundView, Spreads, with_nodes}
use Rattle.dep_graph.proofs.Members.{has-range, below-range, has-filter, all_has, all_from_has, filter_agree_below}
use Rattle.dep_graph.proofs.Extending.{extended}
use Rattle.dep_graph.proofs.Rounds.{rounds_upto, stays_within}

target_case : (count : ℕ) (graph : List (List Edge)) (n d : ℕ) → IsWithin count graph → has (depends_at graph n) d ≡ true → (n < length graph) ⊎ (length graph ≤ n) → d < count
target_case count graph n d within h (inl l) =
    all_has (λ x. x < count) (depends_at graph n) d
    (All-map (λ x. x < count) (λ (e : Edge). e.to) (edges_at graph n) (All-get_or (λ edges. All (λ (e : Edge). e.to < count) edges) graph n [] l within)) h
target_case count graph n d within h (inr past) =
    absurd (let no : has (targets []) d ≡ true = ap (λ edges. has (targets edges) d) (sym (get_or_past graph n [] past)) ∙ h in cc)

pub target_below : (count : ℕ) (graph : List (List Edge)) (n d : ℕ) → IsWithin count graph → has (depends_at graph n) d ≡ true → d < count
target_below count graph n d within h = target_case count graph n d within h (cases_lt n (length graph))

pub increasing_range : (count : ℕ) → IsStrictlyIncreasing (range_with_len 0 count)
increasing_range count k l =
    let size : length (range_with_len 0 count) ≡ count = length-range_with_len 0 count in
    let below : k + 1 < count = omega arith in
    let here : get_or (range_with_len 0 count) k 0 ≡ 0 + k = get_or-range_with_len 0 count k 0 (omega arith) in
    let next : get_or (range_with_len 0 count) (k + 1) 0 ≡ 0 + (k + 1) = get_or-range_with_len 0 count (k + 1) 0 below in
    omega arith

module _ (graph : List (List Edge)) (from : List ℕ) (after : FoundView) (count : ℕ) (start : FoundView)
    (size : length graph ≡ count) (is : start ≡ (let v : FoundView = record { count = count; nodes = with_nodes [] from } in v))
    (spreads : Spreads (depends_at graph) start after) where
  begun_same : (n : ℕ) → has start.nodes n ≡ has from n
  begun_same n = ap (λ v. has v.nodes n) is ∙ (extended [] from).holds n

  found_is : (n : ℕ) → n < count → has after.nodes n ≡ is_reached (depends_at graph) count from count n
  found_is n l =
      let same : start.count ≡ count = ap (λ v. v.count) is in
      subst (λ c. has after.nodes n ≡ is_reached (depends_at graph) c from c n) same (spreads.rounds from begun_same n (subst (λ c. n < c) (sym same) l))

  pub reached_are : (reached : List ℕ) → reached ≡ filter (has after.nodes) (range_with_len 0 after.count) → reached ≡ reach graph from
  reached_are reached e =
      e ∙ ap (λ c. filter (has after.nodes) (range_with_len 0 c)) (spreads.count ∙ ap (λ v. v.count) is)
      ∙ filter_agree_below (has after.nodes) (is_reached (depends_at graph) count from count) count found_is
      ∙ ap (λ c. filter (is_reached (depends_at graph) c from c) (range_with_len 0 c)) (sym size)

  has_reached : (n : ℕ) → has (filter (has after.nodes) (range_with_len 0 count)) n ≡ (has after.nodes n && has (range_with_len 0 count) n)
  has_reached n = has-filter (has after.nodes) (range_with_len 0 count) n

  into : (n : ℕ) → n < count → has after.nodes n ≡ true → has (filter (has after.nodes) (range_with_len 0 count)) n ≡ true
  into n l h = has_reached n ∙ and_from (has after.nodes n) (has (range_with_len 0 count) n) h (has-range count n l)

  out_of : (n : ℕ) → has (filter (has after.nodes) (range_with_len 0 count)) n ≡ true → has after.nodes n ≡ true
  out_of n h = (and_parts (has after.nodes n) (has (range_with_len 0 count) n) (sym (has_reached n) ∙ h)).0

  in_range : (n : ℕ) → has (filter (has after.nodes) (range_with_len 0 count)) n ≡ true → n < count
  in_range n h = below-range count n (and_parts (has after.nodes n) (has (range_with_len 0 count) n) (sym (has_reached n) ∙ h)).1

  found_below : All (λ n. n < length graph) from → (n : ℕ) → has from n ≡ true → n < count
  found_below inside n h = let l : n < length graph = all_has (λ m. m < length graph) from n inside h in omega arith

  in_closed : (keeps : ℕ → Bool) → IsClosed (depends_at graph) (length graph) keeps → All (λ n. keeps n ≡ true) from → (n : ℕ) → n < count → has after.nodes n ≡ true → keeps n ≡ true
  in_closed keeps closed begun n l h =
      stays_within (depends_at graph) count from keeps (λ m t. all_has (λ d. keeps d ≡ true) from m begun t)
      (λ m b t. closed m (omega arith) t) count n (sym (found_is n l) ∙ h)

  reach_of_filter : All (λ n. n < length graph) from → IsWithin (length graph) graph → IsReach graph from (filter (has after.nodes) (range_with_len 0 count))
  reach_of_filter inside within = record {
    ascending = IsStrictlyIncreasing-filter (has after.nodes) (range_with_len 0 count) (increasing_range count);
    begun = all_from_has (λ n. has (filter (has after.nodes) (range_with_len 0 count)) n ≡ true) from
        (λ n h. into n (found_below inside n h) (found_is n (found_below inside n h) ∙ rounds_upto (depends_at graph) count from 0 count n (omega arith) h));
    closed = λ n l h. all_from_has (λ d. has (filter (has after.nodes) (range_with_len 0 count)) d ≡ true) (depends_at graph n)
        (λ d t. into d (let b : d < length graph = target_below (length graph) graph n d within t in omega arith)
        (all_has (λ d. has after.nodes d ≡ true) (depends_at graph n) d (spreads.closed n (out_of n h)) t));
    least = λ keeps closed begun. all_from_has (λ n. keeps n ≡ true) (filter (has after.nodes) (range_with_len 0 count))
        (λ n h. in_closed keeps closed begun n (in_range n h) (out_of n h));
  }

  pub is_reach : (reached : List ℕ) → reached ≡ filter (has after.nodes) (range_with_len 0 after.count) → All (λ n. n < length graph) from → IsWithin (length graph) graph → IsReach graph from reached
  is_reach reached e inside within =
      subst (λ l. IsReach graph from l) (sym (e ∙ ap (λ c. filter (has after.nodes) (range_with_len 0 c)) (spreads.count ∙ ap (λ v. v.count) is))) (reach_of_filter inside within)
