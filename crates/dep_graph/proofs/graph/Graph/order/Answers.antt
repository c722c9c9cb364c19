use Rattle.std.proofs.Common.{◌≡◌, ◌≤◌, ℕ, false, List, length, arith, ap, sym}
use Rattle.std.proofs.lemmas.Bool.{false_from_ne_true}
use Rattle.bulk_model.specs.declared.plan.Edge.{Edge}
use Rattle.dep_graph.specs.Order.{IsLooplessPart, is_loopless}
use Rattle.dep_graph.proofs.Members.{at_most}
use Rattle.dep_graph.proofs.Ordered.{whole_part, free_all, loopless_from}
use Rattle.dep_graph.proofs.graph.Graph.order.Goals as goal

not_loopless : (graph : List (List Edge)) (part : List ℕ) → IsLooplessPart graph part → (length part ≡ length graph → ⊥) → false ≡ is_loopless graph
not_loopless graph part p other =
    sym (false_from_ne_true (is_loopless graph) (λ h.
    let all : length graph ≤ length part = free_all graph part p h in
    let few : length part ≤ length graph = at_most part (length graph) p.in_order.once p.in_order.nodes in
    other (omega arith)))

pub returns-then-len-clause-order : goal.returns-then-len-clause-order
returns-then-len-clause-order c =
    let size : length c.in_ok-part.part ≡ length c.args.self.now = omega (arith, ap length c.self.view_is) in
    whole_part c.args.self.now c.in_ok-part.part c.in_ok-part.ensures size

pub returns-then-len-clause-loop_free : goal.returns-then-len-clause-loop_free
returns-then-len-clause-loop_free c =
    let size : length c.in_ok-part.part ≡ length c.args.self.now = omega (arith, ap length c.self.view_is) in
    sym (loopless_from c.args.self.now c.in_ok-part.part (whole_part c.args.self.now c.in_ok-part.part c.in_ok-part.ensures size))

pub returns-else-len-clause-loop_free : goal.returns-else-len-clause-loop_free
returns-else-len-clause-loop_free c =
    not_loopless c.args.self.now c.in_ok-part.part c.in_ok-part.ensures (λ e. absurd (omega (arith, ap length c.self.view_is)))
