-- The nodes that followed edges lead to, edge by edge.
use Rattle.std.proofs.Common.{◌≡◌, ℕ, ◌+◌, ◌<◌, Bool, true, false, List, [], ◌∷◌, ◌++◌, length, get_or, take, refl, ap, sym, ◌∙◌, cond}
use Rattle.std.specs.Prelude.{filter}
use Rattle.std.proofs.lemmas.List.{take_more, map-append, append-nil}
use Rattle.std.proofs.lemmas.List.Elements.{filter-append}
use Rattle.std.proofs.lemmas.List.Sums.{fold_push}
use Rattle.bulk_model.specs.declared.plan.Edge.{Edge}
use Rattle.bulk_model.specs.Installs.{is_needed_later}
use Rattle.dep_graph.specs.declared.spread.Follow.{Follow}
use Rattle.dep_graph.specs.declared.spread.Follow.TheVariants.{All as Every, Later}
use Rattle.dep_graph.specs.Graphs.{targets}
use Rattle.dep_graph.specs.Found.{FoundView, follows, followed, with_node, with_nodes, found_with}

abbrev pub if_followed : Bool → ℕ → List ℕ
if_followed b to = cond b (to ∷ []) []

one_filtered : (edge : Edge) (b : Bool) → targets (let l : List Edge = cond b (edge ∷ []) [] in l) ≡ if_followed b edge.to
one_filtered edge true = refl
one_filtered edge false = refl

followed_push : (follow : Follow) (edges : List Edge) (edge : Edge) → followed follow (edges ++ edge ∷ []) ≡ followed follow edges ++ if_followed (follows follow edge.kind) edge.to
followed_push Every edges edge = map-append (λ (e : Edge). e.to) edges (edge ∷ [])
followed_push Later edges edge =
    ap targets (filter-append (λ (e : Edge). is_needed_later e.kind) edges (edge ∷ []))
    ∙ map-append (λ (e : Edge). e.to) (filter (λ (e : Edge). is_needed_later e.kind) edges) (cond (is_needed_later edge.kind) (edge ∷ []) [])
    ∙ ap (λ l. targets (filter (λ (e : Edge). is_needed_later e.kind) edges) ++ l) (one_filtered edge (is_needed_later edge.kind))

with_more : (nodes more : List ℕ) (n : ℕ) → with_nodes nodes (more ++ n ∷ []) ≡ with_node (with_nodes nodes more) n
with_more nodes more n = fold_push with_node nodes more n

abbrev pub after_edge : Bool → FoundView → ℕ → FoundView
after_edge b found to = found_with found (if_followed b to)

stepped : (found : FoundView) (more : List ℕ) (to : ℕ) (b : Bool) → after_edge b (found_with found more) to ≡ found_with found (more ++ if_followed b to)
stepped found more to true = ap (λ l. let v : FoundView = record { count = found.count; nodes = l } in v) (sym (with_more found.nodes more to))
stepped found more to false = ap (found_with found) (sym (append-nil more))

pub edge_more : (first before after : FoundView) (follow : Follow) (edges : List Edge) (i : ℕ) (d : Edge) → i < length edges
    → before ≡ found_with first (followed follow (take i edges)) → after ≡ after_edge (follows follow (get_or edges i d).kind) before (get_or edges i d).to
    → after ≡ found_with first (followed follow (take (i + 1) edges))
edge_more first before after follow edges i d l so_far step =
    step
    ∙ ap (λ v. after_edge (follows follow (get_or edges i d).kind) v (get_or edges i d).to) so_far
    ∙ stepped first (followed follow (take i edges)) (get_or edges i d).to (follows follow (get_or edges i d).kind)
    ∙ ap (found_with first) (sym (followed_push follow (take i edges) (get_or edges i d)))
    ∙ ap (λ l. found_with first (followed follow l)) (sym (take_more edges i d l))
