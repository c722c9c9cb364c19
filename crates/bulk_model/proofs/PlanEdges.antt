-- The edges of a plan go to its nodes.
use Rattle.std.proofs.Common.{◌≡◌, ℕ, ◌<◌, List, [], length, get_or, ap, subst, ◌∙◌, arith}
use Rattle.std.specs.List.{All}
use Rattle.std.proofs.lemmas.List.{get_or_read, length-map}
use Rattle.std.proofs.Math.ListN.{get_or-map}
use Rattle.bulk_model.specs.declared.plan.Edge.{Edge}
use Rattle.bulk_model.specs.PlanView.{PlanView, depends, edges_from}
use Rattle.bulk_model.specs.PlanFacts.{IsPlan}

abbrev target : Edge → ℕ
target edge = edge.to

pub edges_within : (plan : PlanView) → IsPlan plan → (n : ℕ) → n < length plan.jobs → All (λ (e : Edge). e.to < length plan.jobs) (edges_from plan n)
edges_within plan p n l i d h =
    let size : length (depends plan n) ≡ length (edges_from plan n) = length-map (edges_from plan n) target in
    subst (λ to. to < length plan.jobs) (get_or-map target (edges_from plan n) i d) (p.targets n l i d.to (omega (arith, size)))

-- what is read at a node is its edges
pub edges_read : (plan : PlanView) → IsPlan plan → (graph : List (List Edge)) (edges : List Edge) (n : ℕ) → n < length plan.jobs → graph ≡ plan.edges → edges ≡ get_or graph n edges → edges ≡ edges_from plan n
edges_read plan p graph edges n l same is =
    let size : length plan.edges ≡ length plan.jobs = p.edges in
    let here : length graph ≡ length plan.edges = ap length same in
    get_or_read graph n edges (omega (arith, here, size)) is [] ∙ ap (λ g. get_or g n []) same
