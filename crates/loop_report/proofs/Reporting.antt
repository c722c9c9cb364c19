-- What the report says, from what its parts answer.
use Rattle.std.proofs.Common.{◌≡◌, ℕ, zero, suc, ◌+◌, ◌<◌, ◌≤◌, Bool, true, false, List, [], ◌∷◌, length, get_or, refl, ap, sym, subst, ◌∙◌, arith, Some, None, Option}
use Rattle.std.specs.Prelude.{not, filter, map, min}
use Rattle.std.specs.Fn.{iterate}
use Rattle.std.specs.List.{All, range_with_len, fold}
use Rattle.std.specs.Option.{unwrap_or}
use Rattle.std.proofs.lemmas.Bool.{both_ways, false_from_ne_true}
use Rattle.std.proofs.lemmas.List.{length-map}
use Rattle.std.proofs.lemmas.List.FromFn.{length-range_with_len, get_or-map-range_with_len}
use Rattle.std.proofs.lemmas.List.Elements.{All-from_get_or}
use Rattle.std.proofs.lemmas.List.Sums.{AllPass-from_list_all}
use Rattle.bulk_model.specs.declared.plan.Edge.{Edge}
use Rattle.dep_graph.specs.Graphs.{has, depends_at, nodes_of, IsWithin}
use Rattle.dep_graph.specs.Order.{is_free, is_loopless, IsLooplessPart}
use Rattle.dep_graph.proofs.Members.{all_has, all_from_has, has-range, filter_agree, filter_agree_below}
use Rattle.dep_graph.proofs.Reaching.{target_below}
use Rattle.dep_graph.proofs.Ordered.{loopless_from}
use Rattle.bulk_base.specs.Least.{least}
use Rattle.loop_report.specs.Walks.{comes_back, round, loop_from}
use Rattle.loop_report.specs.Loops.{stays, next_among, next, exact_loop, IsLoop}
use Rattle.loop_report.proofs.Least.{IsLeast, least_is}
use Rattle.loop_report.proofs.WalkSteps.{iterate-inside, iterate-add}
use Rattle.loop_report.proofs.Repeating.{Leads, round_leads, round_all, far_members, far_returns, least_below}
use Rattle.loop_report.proofs.Agreeing.{loop_agree}
use Rattle.loop_report.proofs.GoingOn.{IsFirst, first_is, next_inside, goes_on, far_least, some_loop, order_from}
use Rattle.loop_report.proofs.Rounding.{round_at, each_once, behind}

zero_more : (n : ℕ) → 0 + n ≡ n
zero_more n = omega arith

nil_least : (xs : List ℕ) → None ≡ least xs → xs ≡ []
nil_least [] e = refl
nil_least (x ∷ xs) e = absurd (let n : None ≡ Some (fold min x xs) = e in cc)

module _ (graph : List (List Edge)) (within : IsWithin (length graph) graph) where
  -- where nothing stays there is no loop
  pub loopless_where_none : None ≡ least (filter (stays graph) (nodes_of graph)) → true ≡ is_loopless graph
  loopless_where_none e =
      let none : filter (stays graph) (nodes_of graph) ≡ [] = nil_least (filter (stays graph) (nodes_of graph)) e in
      sym (loopless_from graph (order_from graph within none).0 (order_from graph within none).1)

  pub loop_where_some : (first : ℕ) → IsFirst graph within first → false ≡ is_loopless graph
  loop_where_some first f =
      sym (false_from_ne_true (is_loopless graph) (λ h.
      both_ways (stays graph first)
      (ap not (all_has (λ n. is_free graph n ≡ true) (nodes_of graph) first (AllPass-from_list_all (is_free graph) (nodes_of graph) h) (has-range (length graph) first f.below)))
      f.staying))

  -- the marks of nodes that stay
  module _ (part : List ℕ) (loopless : IsLooplessPart graph part) (marks : List Bool) (size : length marks ≡ length graph)
      (are : (n : ℕ) → n < length graph → get_or marks n false ≡ not (has part n)) where
    marked : (n : ℕ) → n < length graph → get_or marks n false ≡ stays graph n
    marked n l = are n l ∙ ap not (loopless.free n l)

    pub staying_is : filter (λ n. get_or marks n false) (range_with_len 0 (length marks)) ≡ filter (stays graph) (nodes_of graph)
    staying_is =
        ap (λ count. filter (λ n. get_or marks n false) (range_with_len 0 count)) size
        ∙ filter_agree_below (λ n. get_or marks n false) (stays graph) (length graph) marked

    pub next_is : (n : ℕ) → next_among (λ d. get_or marks d false) graph n ≡ next graph n
    next_is n =
        ap (λ numbers. unwrap_or (least numbers) n)
        (filter_agree (λ d. get_or marks d false) (stays graph) (depends_at graph n)
        (all_from_has (λ d. get_or marks d false ≡ stays graph d) (depends_at graph n) (λ d h. marked d (target_below (length graph) graph n d within h))))

    module _ (steps : List ℕ) (is : steps ≡ map (next_among (λ d. get_or marks d false) graph) (nodes_of graph)) where
      pub steps_size : length steps ≡ length graph
      steps_size = ap length is ∙ length-map (nodes_of graph) (next_among (λ d. get_or marks d false) graph) ∙ length-range_with_len 0 (length graph)

      pub step_is : (n : ℕ) → n < length graph → get_or steps n 0 ≡ next graph n
      step_is n l =
          ap (λ s. get_or s n 0) is ∙ get_or-map-range_with_len (next_among (λ d. get_or marks d false) graph) 0 (length graph) n n 0 l (zero_more n) ∙ next_is n

      step_inside : (n : ℕ) → n < length graph → get_or steps n 0 < length graph
      step_inside n l = subst (λ m. m < length graph) (sym (step_is n l)) (next_inside graph within n l)

      pub steps_inside : All (λ n. n < length steps) steps
      steps_inside =
          All-from_get_or (λ n. n < length steps) steps 0
          (λ i l. subst (λ count. get_or steps i 0 < count) (sym steps_size) (step_inside i (let e : length steps ≡ length graph = steps_size in omega arith)))

      pub exact : (first : ℕ) → first < length graph → Some first ≡ least (filter (stays graph) (nodes_of graph)) → loop_from (λ n. get_or steps n 0) (length steps) (Some first) ≡ exact_loop graph
      exact first l e =
          ap (λ count. loop_from (λ n. get_or steps n 0) count (Some first)) steps_size
          ∙ loop_agree (λ n. get_or steps n 0) (next graph) (length graph) step_inside step_is first l
          ∙ ap (loop_from (next graph) (length graph)) e

  -- the walk stays among what stays
  record Stays (n : ℕ) : Type 0 where
    below : n < length graph
    does : stays graph n ≡ true

  stays_on : (k n : ℕ) → Stays n → Stays (iterate (next graph) k n)
  stays_on zero n s = s
  stays_on (suc k) n s = stays_on k (next graph n) (record { below = next_inside graph within n s.below; does = (goes_on graph within n s.below s.does).stays_too })

  -- what is reported is a loop
  pub is_loop : (first : ℕ) → IsFirst graph within first → IsLoop graph (round (next graph) (length graph) (far_least graph within first))
  is_loop first fst =
      let f : ℕ → ℕ = next graph in
      let count : ℕ = length graph in
      let inside : (n : ℕ) → n < length graph → next graph n < length graph = next_inside graph within in
      let far : ℕ = iterate (next graph) (length graph) first in
      let m : ℕ = far_least graph within first in
      let least_one : IsLeast (round (next graph) (length graph) far) m = least_is (round (next graph) (length graph) far) m refl in
      let below : m < length graph = least_below (next graph) (length graph) inside first fst.below m refl in
      let lead : Leads (next graph) far m = round_leads (next graph) (length graph) far m least_one.one in
      let returns : comes_back (next graph) (length graph) m ≡ true = far_members (next graph) (length graph) inside first fst.below m least_one.one in
      let staying : Stays m = subst Stays lead.lead (stays_on lead.steps far (stays_on (length graph) first (record { below = fst.below; does = fst.staying }))) in
      record {
        some = omega arith;
        within = all_from_has (λ n. n < length graph) (round (next graph) (length graph) m) (λ n h.
            let l : Leads (next graph) m n = round_leads (next graph) (length graph) m n h in
            subst (λ x. x < length graph) l.lead (iterate-inside (next graph) (length graph) inside l.steps m below));
        once = each_once (next graph) (length graph) m returns;
        round = λ place l.
            let at : ℕ = get_or (round (next graph) (length graph) m) place 0 in
            let here : Stays (get_or (round (next graph) (length graph) m) place 0) = subst Stays (sym (round_at (next graph) (length graph) m place l)) (stays_on place m staying) in
            subst (λ to. has (depends_at graph (get_or (round (next graph) (length graph) m) place 0)) to ≡ true) (sym (behind (next graph) (length graph) m returns place l))
            (goes_on graph within (get_or (round (next graph) (length graph) m) place 0) here.below here.does).depends;
        least = all_from_has (λ n. m ≤ n) (round (next graph) (length graph) m) (λ n h.
            let l : Leads (next graph) m n = round_leads (next graph) (length graph) m n h in
            least_one.most n (subst (λ x. has (round (next graph) (length graph) far) x ≡ true)
            (iterate-add (next graph) lead.steps l.steps far ∙ ap (iterate (next graph) l.steps) lead.lead ∙ l.lead)
            (round_all (next graph) (length graph) far (far_returns (next graph) (length graph) inside first fst.below) (l.steps + lead.steps))));
      }

  pub is_exact_loop : (first : ℕ) → Some first ≡ least (filter (stays graph) (nodes_of graph)) → IsLoop graph (exact_loop graph)
  is_exact_loop first e =
      let fst : IsFirst graph within first = first_is graph within first (sym e) in
      subst (IsLoop graph) (sym (some_loop graph within first fst) ∙ ap (loop_from (next graph) (length graph)) e) (is_loop first fst)

-- the same over the slices that the report hands on
module _ (graph edges : List (List Edge)) (part away : List ℕ) (marks slice : List Bool) (within : IsWithin (length graph) graph) (same : edges ≡ graph) (loopless : IsLooplessPart graph part)
    (away_is : away ≡ part) (slice_is : slice ≡ marks) (size : length marks ≡ length edges) (are : (n : ℕ) → n < length edges → get_or marks n false ≡ not (has away n)) where
  size_is : length marks ≡ length graph
  size_is = size ∙ ap length same

  marks_are : (n : ℕ) → n < length graph → get_or marks n false ≡ not (has part n)
  marks_are n l = are n (subst (λ g. n < length g) (sym same) l) ∙ ap (λ w. not (has w n)) away_is

  pub first_found : (found : Option ℕ) → found ≡ least (filter (λ n. get_or slice n false) (range_with_len 0 (length slice))) → found ≡ least (filter (stays graph) (nodes_of graph))
  first_found found e =
      e ∙ ap (λ m. least (filter (λ n. get_or m n false) (range_with_len 0 (length m)))) slice_is
      ∙ ap least (staying_is graph within part loopless marks size_is marks_are)

  module _ (again : List Bool) (again_is : again ≡ marks) (steps numbers : List ℕ) (numbers_are : numbers ≡ steps)
      (is : steps ≡ map (next_among (λ d. get_or again d false) edges) (nodes_of edges)) where
    steps_are : steps ≡ map (next_among (λ d. get_or marks d false) graph) (nodes_of graph)
    steps_are =
        is ∙ ap (λ m. map (next_among (λ d. get_or m d false) edges) (nodes_of edges)) again_is
        ∙ ap (λ g. map (next_among (λ d. get_or marks d false) g) (nodes_of g)) same

    pub numbers_inside : All (λ n. n < length numbers) numbers
    numbers_inside = subst (λ s. All (λ n. n < length s) s) (sym numbers_are) (steps_inside graph within part loopless marks size_is marks_are steps steps_are)

    pub numbers_size : length numbers ≡ length graph
    numbers_size = ap length numbers_are ∙ steps_size graph within part loopless marks size_is marks_are steps steps_are

    pub exact_found : (first : ℕ) → first < length graph → Some first ≡ least (filter (stays graph) (nodes_of graph))
        → loop_from (λ n. get_or numbers n 0) (length numbers) (Some first) ≡ exact_loop graph
    exact_found first l e =
        ap (λ s. loop_from (λ n. get_or s n 0) (length s) (Some first)) numbers_are
        ∙ exact graph within part loopless marks size_is marks_are steps steps_are first l e
