-- Lists that grow by turned edges.
use Rattle.std.proofs.Common.{◌≡◌, ℕ, ◌+◌, ◌<◌, ◌^◌, List, [], ◌∷◌, ◌++◌, length, get_or, replicate, ap, sym, subst, ◌∙◌, arith}
use Rattle.std.specs.Prelude.{filter}
use Rattle.std.specs.List.{flat_map, range_with_len, All}
use Rattle.std.proofs.lemmas.List.{flat_map_more, append_assoc, get_or-replicate, length-replicate, length-map}
use Rattle.std.proofs.lemmas.List.FromFn.{fill_by_all, length-range_with_len}
use Rattle.std.proofs.lemmas.List.Elements.{All-append, All-nil, All-map, All-head, All-tail}
use Rattle.bulk_model.specs.declared.plan.Edge.{Edge}
use Rattle.dep_graph.specs.Graphs.{edges_at, nodes_of, IsWithin, IsGraph}
use Rattle.dep_graph.specs.Turned.{is_edge_to, turned_of_kind, turned_from, dependents_at, dependents, Grew}
use Rattle.dep_graph.proofs.Members.{range_more, all_from_has, below-range}

pub flat_map_range_more : {X : Type 0} (f : ℕ → List X) (n : ℕ) → flat_map f (range_with_len 0 (n + 1)) ≡ flat_map f (range_with_len 0 n) ++ f n
flat_map_range_more f n = ap (flat_map f) (range_more n) ∙ sym (flat_map_more f [] (range_with_len 0 n) n)

pub kind_more : (n kind : ℕ) (edges : List Edge) (first before after : List (List Edge)) → Grew first before (λ d. flat_map (λ k. turned_of_kind n k d edges) (range_with_len 0 kind))
    → Grew before after (λ d. turned_of_kind n kind d edges) → Grew first after (λ d. flat_map (λ k. turned_of_kind n k d edges) (range_with_len 0 (kind + 1)))
kind_more n kind edges first before after so_far step = record {
  size = step.size ∙ so_far.size;
  lists = λ d l.
      step.lists d (let size : length before ≡ length first = so_far.size in omega arith) ∙ ap (λ x. x ++ turned_of_kind n kind d edges) (so_far.lists d l)
      ∙ append_assoc (edges_at first d) (flat_map (λ k. turned_of_kind n k d edges) (range_with_len 0 kind)) (turned_of_kind n kind d edges)
      ∙ ap (λ x. edges_at first d ++ x) (sym (flat_map_range_more (λ k. turned_of_kind n k d edges) kind));
}

module _ (graph : List (List Edge)) where
  -- the turned edges of the nodes below a bound
  pub record TurnedBelow (n : ℕ) (turned : List (List Edge)) : Type 0 where
    pub size : length turned ≡ length graph
    pub lists : (d : ℕ) → d < length graph → edges_at turned d ≡ flat_map (λ m. turned_from m d (edges_at graph m)) (range_with_len 0 n)

  pub none_turned : (lists : List (List Edge)) → lists ≡ replicate (length graph) [] → TurnedBelow 0 lists
  none_turned lists e = record {
    size = ap length e ∙ length-replicate (length graph) [];
    lists = λ d l. ap (λ x. get_or x d []) e ∙ get_or-replicate (length graph) d [] [] l;
  }

  pub node_turned : (n : ℕ) (before after : List (List Edge)) → Grew before after (λ d. turned_from n d (edges_at graph n)) → TurnedBelow n before → TurnedBelow (n + 1) after
  node_turned n before after step so_far = record {
    size = step.size ∙ so_far.size;
    lists = λ d l.
        step.lists d (let size : length before ≡ length graph = so_far.size in omega arith) ∙ ap (λ x. x ++ turned_from n d (edges_at graph n)) (so_far.lists d l)
        ∙ sym (flat_map_range_more (λ m. turned_from m d (edges_at graph m)) n);
  }

  pub all_turned : (n : ℕ) (lists : List (List Edge)) → n ≡ length graph → TurnedBelow n lists → lists ≡ dependents graph
  all_turned n lists e so_far =
      fill_by_all (dependents_at graph) lists (length graph) [] so_far.size
      (λ d l. so_far.lists d l ∙ ap (λ c. flat_map (λ m. turned_from m d (edges_at graph m)) (range_with_len 0 c)) e)

  -- turned edges go to nodes
  all_in : {X : Type 0} (P : X → Type 0) (f : ℕ → List X) (xs : List ℕ) → All (λ n. All P (f n)) xs → All P (flat_map f xs)
  all_in P f [] h = All-nil P
  all_in P f (x ∷ xs) h = All-append P (f x) (flat_map f xs) (All-head (λ n. All P (f n)) x xs h) (all_in P f xs (All-tail (λ n. All P (f n)) x xs h))

  of_kind_within : (count n kind d : ℕ) (edges : List Edge) → n < count → All (λ (e : Edge). e.to < count) (turned_of_kind n kind d edges)
  of_kind_within count n kind d edges l =
      All-map (λ (e : Edge). e.to < count) (λ (edge : Edge). let e : Edge = record { kind = edge.kind; to = n } in e) (filter (is_edge_to kind d) edges) (λ k e h. l)

  dependents_within : IsWithin (length graph) (dependents graph)
  dependents_within =
      All-map (λ edges. All (λ (e : Edge). e.to < length graph) edges) (dependents_at graph) (nodes_of graph)
      (λ k d h. all_in (λ (e : Edge). e.to < length graph) (λ n. turned_from n (get_or (nodes_of graph) k d) (edges_at graph n)) (nodes_of graph)
      (all_from_has (λ n. All (λ (e : Edge). e.to < length graph) (turned_from n (get_or (nodes_of graph) k d) (edges_at graph n))) (nodes_of graph)
      (λ n b. all_in (λ (e : Edge). e.to < length graph) (λ kind. turned_of_kind n kind (get_or (nodes_of graph) k d) (edges_at graph n)) (range_with_len 0 7)
      (λ j i t. of_kind_within (length graph) n (get_or (range_with_len 0 7) j i) (get_or (nodes_of graph) k d) (edges_at graph n) (below-range (length graph) n b)))))

  pub turned_form : (lists : List (List Edge)) → IsGraph graph → lists ≡ dependents graph → IsGraph lists
  turned_form lists g e =
      let size : length (dependents graph) ≡ length graph = length-map (nodes_of graph) (dependents_at graph) ∙ length-range_with_len 0 (length graph) in
      subst IsGraph (sym e) (record {
        few = subst (λ n. n < 2 ^ 32) (sym size) g.few;
        within = subst (λ n. IsWithin n (dependents graph)) (sym size) dependents_within;
      })
