-- The edges of a plan, by the numbers that its nodes are given.
use Rattle.std.proofs.Common.{◌≡◌, ◌∙◌, ℕ, ◌+◌, ◌<◌, true, List, [], ◌∷◌, ◌++◌, ap, sym, subst, refl, length, take, get_or, map, arith}
use Rattle.std.specs.Prelude.{Option, Some, None, IsTrue, Contains}
use Rattle.std.specs.Option.{unwrap_or}
use Rattle.std.specs.List.{All}
use Rattle.std.proofs.lemmas.List.{length-map, take_more, map-append}
use Rattle.std.proofs.lemmas.List.Elements.{All-get_or, All-nil, All-cons}
use Rattle.bulk_base.proofs.Members.{contains_here, contains_more}
use Rattle.bulk_model.specs.declared.plan.Edge.{Edge}
use Rattle.dep_graph.specs.Graphs.{has, depends_at, IsGraph, IsWithin}
use Rattle.dep_graph.proofs.Members.{has_from_place}
use Rattle.std.proofs.lemmas.List.{get_or_default}
use Rattle.tree_index.specs.Depends.{edges_of}
use Rattle.tree_index.specs.Index.{IndexView}
use Rattle.plan_maker.specs.Edges.{edge_by, edges_by, AreNeeded}
use Rattle.plan_maker.specs.Needed.{needs}
use Rattle.plan_maker.specs.PlanEdges.{place_in, edge_in, edges_in, plan_edges}
use Rattle.plan_maker.proofs.Leading.{edge_leads}
use Rattle.plan_maker.proofs.Placing.{placed}

-- what is put one after another is a map so far
pub map_more : {Y : Type 0} (f : ℕ → Y) (xs : List ℕ) (i : ℕ) (y : Y) (before now : List Y) → i < length xs → before ≡ map f (take i xs) → y ≡ f (get_or xs i 0) → now ≡ before ++ y ∷ [] → now ≡ map f (take (i + 1) xs)
map_more f xs i y before now l b e n =
    n ∙ (λ t. b t ++ e t ∷ []) ∙ sym (ap (map f) (take_more xs i 0 l) ∙ map-append f (take i xs) (get_or xs i 0 ∷ []))

pub map_agree : {X Y : Type 0} (f g : X → Y) (xs : List X) → ((x : X) → Contains xs x → f x ≡ g x) → map f xs ≡ map g xs
map_agree f g [] h = refl
map_agree f g (x ∷ xs) h = (λ i. h x (contains_here x xs) i ∷ map_agree f g xs (λ y c. h y (contains_more x xs y c)) i)

pub all_contains : {X : Type 0} (P : X → Type 0) (xs : List X) (x : X) → All P xs → Contains xs x → P x
all_contains P xs x all c = subst P c.2 (All-get_or P xs c.0 x c.1 all)

pub all_each : {X : Type 0} (P : X → Type 0) (xs : List X) → ((x : X) → Contains xs x → P x) → All P xs
all_each P [] h = All-nil P
all_each P (x ∷ xs) h = All-cons P x xs (h x (contains_here x xs)) (all_each P xs (λ y c. h y (contains_more x xs y c)))

pub contains_has : (xs : List ℕ) (n : ℕ) → Contains xs n → has xs n ≡ true
contains_has xs n c = has_from_place xs n c.0 c.1 (sym (get_or_default xs c.0 n 0 c.1) ∙ c.2)

-- an edge of a needed node leads to a needed node
pub edge_needed : (index : IndexView) (nodes : List ℕ) (n : ℕ) (edges : List Edge) (edge : Edge) → AreNeeded index nodes → Contains nodes n → edges_of index n ≡ Some edges → Contains edges edge → has nodes edge.to ≡ true
edge_needed index nodes n edges edge a c e d =
    all_contains (λ m. IsTrue (has nodes m)) (depends_at (needs index) n) edge.to (a.closed n (all_contains (λ m. m < length index.nodes) nodes n a.within c) (contains_has nodes n c)) (edge_leads index n edges edge e d)

module _ (index : IndexView) (nodes places : List ℕ) (a : AreNeeded index nodes) (numbers : (n : ℕ) → has nodes n ≡ true → get_or places n 0 ≡ place_in nodes n) where
  same_edges : (n : ℕ) (found : Option (List Edge)) → Contains nodes n → edges_of index n ≡ found → map (edge_by places) (unwrap_or found []) ≡ map (edge_in nodes) (unwrap_or found [])
  same_edges n None c e = refl
  same_edges n (Some edges) c e = map_agree (edge_by places) (edge_in nodes) edges (λ edge d. (λ i. record { kind = edge.kind; to = numbers edge.to (edge_needed index nodes n edges edge a c e d) i }))

  pub edges_are : map (edges_by index places) nodes ≡ plan_edges index nodes
  unfolding plan_edges
  edges_are = map_agree (edges_by index places) (edges_in index nodes) nodes (λ n c. same_edges n (edges_of index n) c refl)

within_of : (index : IndexView) (nodes : List ℕ) (n : ℕ) (found : Option (List Edge)) → AreNeeded index nodes → Contains nodes n → edges_of index n ≡ found → All (λ (edge : Edge). edge.to < length nodes) (map (edge_in nodes) (unwrap_or found []))
within_of index nodes n None a c e = All-nil (λ (edge : Edge). edge.to < length nodes)
within_of index nodes n (Some edges) a c e = mapped edges (λ edge d. edge_needed index nodes n edges edge a c e d)
  where
    mapped : (es : List Edge) → ((edge : Edge) → Contains es edge → has nodes edge.to ≡ true) → All (λ (edge : Edge). edge.to < length nodes) (map (edge_in nodes) es)
    mapped [] h = All-nil (λ (edge : Edge). edge.to < length nodes)
    mapped (edge ∷ es) h =
        All-cons (λ (edge : Edge). edge.to < length nodes) (edge_in nodes edge) (map (edge_in nodes) es) (placed nodes edge.to a.order (h edge (contains_here edge es))).within
        (mapped es (λ x d. h x (contains_more edge es x d)))

pub size_of_edges : (index : IndexView) (nodes : List ℕ) → length (plan_edges index nodes) ≡ length nodes
unfolding plan_edges
size_of_edges index nodes = length-map nodes (edges_in index nodes)

each_within : (index : IndexView) (nodes some : List ℕ) → AreNeeded index nodes → ((n : ℕ) → Contains some n → Contains nodes n) → All (λ edges. All (λ (edge : Edge). edge.to < length nodes) edges) (map (edges_in index nodes) some)
each_within index nodes [] a sub = All-nil (λ edges. All (λ (edge : Edge). edge.to < length nodes) edges)
each_within index nodes (n ∷ some) a sub =
    All-cons (λ edges. All (λ (edge : Edge). edge.to < length nodes) edges) (edges_in index nodes n) (map (edges_in index nodes) some)
    (within_of index nodes n (edges_of index n) a (sub n (contains_here n some)) refl) (each_within index nodes some a (λ m c. sub m (contains_more n some m c)))

pub edges_graph : (index : IndexView) (nodes : List ℕ) → AreNeeded index nodes → IsGraph (plan_edges index nodes)
unfolding plan_edges
edges_graph index nodes a = record {
  few = (let size : length (map (edges_in index nodes) nodes) ≡ length nodes = length-map nodes (edges_in index nodes) in let f = a.few in omega arith);
  within = subst (λ count. IsWithin count (map (edges_in index nodes) nodes)) (sym (length-map nodes (edges_in index nodes))) (each_within index nodes nodes a (λ n c. c));
}
