-- The walk among the nodes that stay.
use Rattle.std.proofs.Common.{◌≡◌, ℕ, ◌<◌, Bool, true, false, List, [], ◌∷◌, length, refl, ap, sym, ◌∙◌, arith, Some, inl, inr, ◌⊎◌}
use Rattle.std.specs.Prelude.{not, filter, min}
use Rattle.std.specs.Option.{unwrap_or}
use Rattle.std.specs.List.{fold}
use Rattle.std.proofs.lemmas.Bool.{both_ways, and_parts, and_from, false_from_ne_true}
use Rattle.std.proofs.lemmas.List.Sums.{AllPass-from_list_all}
use Rattle.bulk_model.specs.declared.plan.Edge.{Edge}
use Rattle.dep_graph.specs.Graphs.{has, depends_at, nodes_of, IsWithin}
use Rattle.dep_graph.specs.Order.{is_free}
use Rattle.dep_graph.proofs.Members.{has-filter, has-range, below-range, all_has}
use Rattle.dep_graph.proofs.Reaching.{target_below}
use Rattle.dep_graph.proofs.Ordered.{loopless_from}
use Rattle.bulk_base.specs.Least.{least}
use Rattle.loop_report.specs.Walks.{walk, before, round, loop_from}
use Rattle.loop_report.specs.Loops.{stays, next, exact_loop, HasOrder}
use Rattle.loop_report.proofs.Least.{IsLeast, least_is, has_head}
use Rattle.loop_report.proofs.Existing.{ordered, is_loopless_part, free_from}
use Rattle.loop_report.proofs.Repeating.{turned}
use Rattle.std.specs.Fn.{iterate}

not_not : (b : Bool) → not b ≡ false → b ≡ true
not_not true e = refl
not_not false e = absurd (both_ways true e refl)

-- a node of some list, where there is one
pub chosen : (numbers : List ℕ) (other : ℕ) → (unwrap_or (least numbers) other ≡ other) × (numbers ≡ []) ⊎ (has numbers (unwrap_or (least numbers) other) ≡ true)
chosen [] other = inl (refl, refl)
chosen (x ∷ xs) other = inr ((least_is (x ∷ xs) (fold min x xs) refl).one)

nil_has : (p : ℕ → Bool) (xs : List ℕ) → filter p xs ≡ [] → (n : ℕ) → has xs n ≡ true → p n ≡ false
nil_has p xs e n h =
    false_from_ne_true (p n)
    (λ t. both_ways (has (filter p xs) n) (ap (λ l. has l n) e) (has-filter p xs n ∙ and_from (p n) (has xs n) t h))

nil_from : (xs : List ℕ) → ((n : ℕ) → has xs n ≡ true → ⊥) → xs ≡ []
nil_from [] none = refl
nil_from (x ∷ xs) none = absurd (none x (has_head x xs))

module _ (graph : List (List Edge)) (within : IsWithin (length graph) graph) where
  pub record GoesOn (n : ℕ) : Type 0 where
    pub depends : has (depends_at graph n) (next graph n) ≡ true
    pub stays_too : stays graph (next graph n) ≡ true

  on_case : (n : ℕ) → n < length graph → stays graph n ≡ true
      → ((next graph n ≡ n) × (filter (stays graph) (depends_at graph n) ≡ [])) ⊎ (has (filter (stays graph) (depends_at graph n)) (next graph n) ≡ true) → GoesOn n
  on_case n l s (inl none) =
      absurd (both_ways (stays graph n) (ap not (free_from graph within n l (λ d h. not_not (is_free graph d) (nil_has (stays graph) (depends_at graph n) none.1 d h)))) s)
  on_case n l s (inr h) =
      let both : (stays graph (next graph n) ≡ true) × (has (depends_at graph n) (next graph n) ≡ true) =
      and_parts (stays graph (next graph n)) (has (depends_at graph n) (next graph n)) (sym (has-filter (stays graph) (depends_at graph n) (next graph n)) ∙ h) in
      record { depends = both.1; stays_too = both.0 }

  -- a node that stays depends on the next one, which stays too
  pub goes_on : (n : ℕ) → n < length graph → stays graph n ≡ true → GoesOn n
  goes_on n l s = on_case n l s (chosen (filter (stays graph) (depends_at graph n)) n)

  inside_case : (n : ℕ) → n < length graph
      → ((next graph n ≡ n) × (filter (stays graph) (depends_at graph n) ≡ [])) ⊎ (has (filter (stays graph) (depends_at graph n)) (next graph n) ≡ true) → next graph n < length graph
  inside_case n l (inl none) = let e : next graph n ≡ n = none.0 in omega arith
  inside_case n l (inr h) =
      target_below (length graph) graph n (next graph n) within
      (and_parts (stays graph (next graph n)) (has (depends_at graph n) (next graph n)) (sym (has-filter (stays graph) (depends_at graph n) (next graph n)) ∙ h)).1

  pub next_inside : (n : ℕ) → n < length graph → next graph n < length graph
  next_inside n l = inside_case n l (chosen (filter (stays graph) (depends_at graph n)) n)

  -- the least node that stays
  pub record IsFirst (first : ℕ) : Type 0 where
    pub below : first < length graph
    pub staying : stays graph first ≡ true

  pub first_is : (first : ℕ) → least (filter (stays graph) (nodes_of graph)) ≡ Some first → IsFirst first
  first_is first e =
      let l : IsLeast (filter (stays graph) (nodes_of graph)) first = least_is (filter (stays graph) (nodes_of graph)) first e in
      let both : (stays graph first ≡ true) × (has (nodes_of graph) first ≡ true) =
      and_parts (stays graph first) (has (nodes_of graph) first) (sym (has-filter (stays graph) (nodes_of graph) first) ∙ l.one) in
      record { below = below-range (length graph) first both.1; staying = both.0 }

  -- an order, where nothing stays
  pub order_from : filter (stays graph) (nodes_of graph) ≡ [] → HasOrder graph
  order_from none = (
    ordered graph (length graph),
    record {
      all = λ n l. (is_loopless_part graph within).free n l ∙ not_not (is_free graph n) (nil_has (stays graph) (nodes_of graph) none n (has-range (length graph) n l));
      in_order = (is_loopless_part graph within).in_order;
    },
  )

  none_stays : HasOrder graph → filter (stays graph) (nodes_of graph) ≡ []
  none_stays order =
      nil_from (filter (stays graph) (nodes_of graph))
      (λ n h.
      let both : (stays graph n ≡ true) × (has (nodes_of graph) n ≡ true) = and_parts (stays graph n) (has (nodes_of graph) n) (sym (has-filter (stays graph) (nodes_of graph) n) ∙ h) in
      let free : is_free graph n ≡ true = all_has (λ m. is_free graph m ≡ true) (nodes_of graph) n (AllPass-from_list_all (is_free graph) (nodes_of graph) (loopless_from graph order.0 order.1)) both.1 in
      both_ways (stays graph n) (ap not free) both.0)

  -- once round from far along
  abbrev pub far_least : ℕ → ℕ
  far_least first = fold min (iterate (next graph) (length graph) first) (before (iterate (next graph) (length graph) first) (walk (next graph) (length graph) (next graph (iterate (next graph) (length graph) first))))

  pub some_loop : (first : ℕ) → IsFirst first → loop_from (next graph) (length graph) (Some first) ≡ round (next graph) (length graph) (far_least first)
  some_loop first f = sym (turned (next graph) (length graph) next_inside first f.below (far_least first) refl)

  loop_case : (staying : List ℕ) → filter (stays graph) (nodes_of graph) ≡ staying → loop_from (next graph) (length graph) (least staying) ≡ [] → filter (stays graph) (nodes_of graph) ≡ []
  loop_case [] e none = e
  loop_case (x ∷ xs) e none =
      let first : ℕ = fold min x xs in
      absurd (let impossible : round (next graph) (length graph) (far_least first) ≡ [] = sym (some_loop first (first_is first (ap least e))) ∙ none in cc)

  pub order_where_no_loop : exact_loop graph ≡ [] → HasOrder graph
  order_where_no_loop none = order_from (loop_case (filter (stays graph) (nodes_of graph)) refl none)

  pub no_loop_where_order : HasOrder graph → exact_loop graph ≡ []
  no_loop_where_order order = ap (λ staying. loop_from (next graph) (length graph) (least staying)) (none_stays order)
