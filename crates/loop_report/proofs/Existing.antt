-- An order of all that no loop holds up: the nodes in the rounds in which they are taken away.
use Rattle.std.proofs.Common.{◌≡◌, ℕ, zero, suc, ◌<◌, ◌≤◌, Bool, true, false, List, [], ◌∷◌, ◌++◌, length, get_or, take, refl, ap, sym, subst, ◌∙◌, arith, nat_eq, inl, inr, ◌⊎◌, append_assoc}
use Rattle.std.specs.Prelude.{◌==◌, ◌||◌, ◌&&◌, not, filter}
use Rattle.std.specs.List.{All, IsDistinct}
use Rattle.std.specs.Cmp.{nat_eq_equiv}
use Rattle.std.proofs.lemmas.Bool.{eq-eqb, ne_eqb, both_ways, and_parts, cases_lt, or_left}
use Rattle.std.proofs.lemmas.List.{length_push, get_or_append_left, get_or_push, take-append-le, take_at, append-nil}
use Rattle.std.proofs.lemmas.List.Elements.{All-push, All-nil, All-head, All-tail, All-from_recursion}
use Rattle.std.proofs.lemmas.List.Sums.{AllPass-from_list_all}
use Rattle.std.proofs.lemmas.Map.Keys.{IsDistinct-push}
use Rattle.bulk_model.specs.declared.plan.Edge.{Edge}
use Rattle.dep_graph.specs.Graphs.{has, depends_at, nodes_of, IsWithin}
use Rattle.dep_graph.specs.Order.{IsInOrder, is_away, is_free, IsLooplessPart}
use Rattle.dep_graph.proofs.Members.{has-append, has-filter, has-range, below-range, all_has, all_from_has}
use Rattle.dep_graph.proofs.Reaching.{target_below}
use Rattle.dep_graph.proofs.Waiting.{or_none, or_one, has_pushed}
use Rattle.dep_graph.proofs.Ordered.{distinct_filter, away_upto, ordered_is_free}
use Rattle.loop_report.proofs.Least.{has_head, has_tail, member}

is_not : (b : Bool) → not b ≡ true → b ≡ false
is_not true e = absurd (both_ways false refl e)
is_not false e = refl

none_twice : IsDistinct nat_eq []
unfolding IsDistinct
none_twice = tt

module _ (graph : List (List Edge)) where
  behind_case : (list : List ℕ) (m place : ℕ) → IsInOrder graph list → All (λ d. has list d ≡ true) (depends_at graph m) → place < length (list ++ m ∷ [])
      → (place < length list) ⊎ (length list ≤ place) → All (λ d. has (take place (list ++ m ∷ [])) d ≡ true) (depends_at graph (get_or (list ++ m ∷ []) place 0))
  behind_case list m place o all l (inl before) =
      subst (λ front. All (λ d. has front d ≡ true) (depends_at graph (get_or (list ++ m ∷ []) place 0))) (sym (take-append-le place list (m ∷ []) (omega arith)))
      (subst (λ n. All (λ d. has (take place list) d ≡ true) (depends_at graph n)) (sym (get_or_append_left list (m ∷ []) 0 place before)) (o.behind place before))
  behind_case list m place o all l (inr past) =
      let here : length list ≡ place = omega (arith, length_push list m) in
      subst (λ front. All (λ d. has front d ≡ true) (depends_at graph (get_or (list ++ m ∷ []) place 0))) (sym (take_at list (m ∷ []) place here))
      (subst (λ n. All (λ d. has list d ≡ true) (depends_at graph n)) (sym (get_or_push list m 0 place here)) all)

  -- an order grows by a node all of whose dependencies it has
  pub in_order-push : (list : List ℕ) (m : ℕ) → IsInOrder graph list → m < length graph → has list m ≡ false → All (λ d. has list d ≡ true) (depends_at graph m) → IsInOrder graph (list ++ m ∷ [])
  in_order-push list m o below new all = record {
    nodes = All-push (λ n. n < length graph) list m o.nodes below;
    once = IsDistinct-push nat_eq_equiv list m o.once new;
    behind = λ place l. behind_case list m place o all l (cases_lt place (length list));
  }

  -- nodes that can be put behind an order
  record CanFollow (list more : List ℕ) : Type 0 where
    below : All (λ n. n < length graph) more
    once : IsDistinct nat_eq more
    new : (n : ℕ) → has more n ≡ true → has list n ≡ false
    ready : (n : ℕ) → has more n ≡ true → (d : ℕ) → has (depends_at graph n) d ≡ true → has list d ≡ true

  head_apart : (x : ℕ) (more : List ℕ) (n : ℕ) → IsDistinct nat_eq (x ∷ more) → has more n ≡ true → (n == x) ≡ false
  unfolding IsDistinct
  head_apart x more n once h = ne_eqb n x (λ e. both_ways (nat_eq x n) (all_has (λ y. nat_eq x y ≡ false) more n (All-from_recursion (λ y. nat_eq x y ≡ false) more once.0) h) (eq-eqb x n (sym e)))

  rest_once : (x : ℕ) (more : List ℕ) → IsDistinct nat_eq (x ∷ more) → IsDistinct nat_eq more
  unfolding IsDistinct
  rest_once x more once = once.1

  follow_rest : (list : List ℕ) (x : ℕ) (more : List ℕ) → CanFollow list (x ∷ more) → CanFollow (list ++ x ∷ []) more
  follow_rest list x more c = record {
    below = All-tail (λ n. n < length graph) x more c.below;
    once = rest_once x more c.once;
    new = λ n h. has_pushed list n x false (head_apart x more n c.once h) ∙ or_none (has list n) ∙ c.new n (has_tail x n more h);
    ready = λ n h d t. has-append list (x ∷ []) d ∙ or_left (has list d) (has (x ∷ []) d) (c.ready n (has_tail x n more h) d t);
  }

  in_order-append : (more list : List ℕ) → IsInOrder graph list → CanFollow list more → IsInOrder graph (list ++ more)
  in_order-append [] list o c = subst (IsInOrder graph) (sym (append-nil list)) o
  in_order-append (x ∷ more) list o c =
      let longer : IsInOrder graph (list ++ x ∷ []) =
      in_order-push list x o (All-head (λ n. n < length graph) x more c.below) (c.new x (has_head x more))
      (all_from_has (λ d. has list d ≡ true) (depends_at graph x) (λ d t. c.ready x (has_head x more) d t)) in
      subst (IsInOrder graph) (append_assoc list (x ∷ []) more) (in_order-append more (list ++ x ∷ []) longer (follow_rest list x more c))

  -- taken away in a round, and not before
  abbrev pub is_taken : ℕ → ℕ → Bool
  is_taken rounds n = is_away graph (suc rounds) n && not (is_away graph rounds n)

  abbrev pub ordered : ℕ → List ℕ
  ordered zero = []
  ordered (suc rounds) = ordered rounds ++ filter (is_taken rounds) (nodes_of graph)

  record Ordered (rounds : ℕ) : Type 0 where
    in_order : IsInOrder graph (ordered rounds)
    away : (n : ℕ) → n < length graph → has (ordered rounds) n ≡ is_away graph rounds n

  grown : (rounds n : ℕ) (before now member : Bool) → is_away graph rounds n ≡ before → (before ≡ true → now ≡ true) → member ≡ true → (before || ((now && not before) && member)) ≡ now
  grown rounds n true now member e more m = sym (more refl)
  grown rounds n false true member e more m = m
  grown rounds n false false member e more m = refl

  taken_is : (rounds n : ℕ) → has (filter (is_taken rounds) (nodes_of graph)) n ≡ (is_taken rounds n && has (nodes_of graph) n)
  taken_is rounds n = has-filter (is_taken rounds) (nodes_of graph) n

  record Taken (rounds n : ℕ) : Type 0 where
    below : n < length graph
    now : is_away graph (suc rounds) n ≡ true
    before : is_away graph rounds n ≡ false

  taken : (rounds n : ℕ) → has (filter (is_taken rounds) (nodes_of graph)) n ≡ true → Taken rounds n
  taken rounds n h =
      let both : (is_taken rounds n ≡ true) × (has (nodes_of graph) n ≡ true) = and_parts (is_taken rounds n) (has (nodes_of graph) n) (sym (taken_is rounds n) ∙ h) in
      let parts : (is_away graph (suc rounds) n ≡ true) × (not (is_away graph rounds n) ≡ true) = and_parts (is_away graph (suc rounds) n) (not (is_away graph rounds n)) both.0 in
      record { below = below-range (length graph) n both.1; now = parts.0; before = is_not (is_away graph rounds n) parts.1 }

  module _ (within : IsWithin (length graph) graph) where
    follows : (rounds : ℕ) → Ordered rounds → CanFollow (ordered rounds) (filter (is_taken rounds) (nodes_of graph))
    follows rounds o = record {
      below = all_from_has (λ n. n < length graph) (filter (is_taken rounds) (nodes_of graph)) (λ n h. (taken rounds n h).below);
      once = distinct_filter (is_taken rounds) (length graph);
      new = λ n h. let t : Taken rounds n = taken rounds n h in o.away n t.below ∙ t.before;
      ready = λ n h d e. let t : Taken rounds n = taken rounds n h in
          o.away d (target_below (length graph) graph n d within e)
          ∙ all_has (λ m. is_away graph rounds m ≡ true) (depends_at graph n) d (AllPass-from_list_all (is_away graph rounds) (depends_at graph n) t.now) e;
    }

    ordered_are : (rounds : ℕ) → Ordered rounds
    ordered_are zero = record {
      in_order = record { nodes = All-nil (λ n. n < length graph); once = none_twice; behind = λ place l. absurd (omega arith) };
      away = λ n l. refl;
    }
    ordered_are (suc rounds) =
        let o : Ordered rounds = ordered_are rounds in
        record {
          in_order = in_order-append (filter (is_taken rounds) (nodes_of graph)) (ordered rounds) o.in_order (follows rounds o);
          away = λ n l. has-append (ordered rounds) (filter (is_taken rounds) (nodes_of graph)) n
              ∙ ap (λ b. b || has (filter (is_taken rounds) (nodes_of graph)) n) (o.away n l)
              ∙ ap (λ b. is_away graph rounds n || b) (taken_is rounds n)
              ∙ grown rounds n (is_away graph rounds n) (is_away graph (suc rounds) n) (has (nodes_of graph) n) refl
              (λ h. away_upto graph rounds (suc rounds) n (omega arith) h) (has-range (length graph) n l);
        }

    -- every graph has such an order
    pub is_loopless_part : IsLooplessPart graph (ordered (length graph))
    is_loopless_part = let o : Ordered (length graph) = ordered_are (length graph) in record { in_order = o.in_order; free = o.away }

    -- a node all of whose dependencies are free is free
    free_case : (n : ℕ) → n < length graph → ((d : ℕ) → has (depends_at graph n) d ≡ true → is_free graph d ≡ true) → (b : Bool) → has (ordered (length graph)) n ≡ b → is_free graph n ≡ true
    free_case n l all true e = sym (is_loopless_part.free n l) ∙ e
    free_case n l all false e =
        ordered_is_free graph (ordered (length graph) ++ n ∷ [])
        (in_order-push (ordered (length graph)) n is_loopless_part.in_order l e
        (all_from_has (λ d. has (ordered (length graph)) d ≡ true) (depends_at graph n)
        (λ d h. is_loopless_part.free d (target_below (length graph) graph n d within h) ∙ all d h)))
        n (has_pushed (ordered (length graph)) n n true (eq-eqb n n refl) ∙ or_one (has (ordered (length graph)) n))

    pub free_from : (n : ℕ) → n < length graph → ((d : ℕ) → has (depends_at graph n) d ≡ true → is_free graph d ≡ true) → is_free graph n ≡ true
    free_from n l all = free_case n l all (has (ordered (length graph)) n) refl
