use Rattle.std.proofs.Common.{◌≡◌, ◌<◌, ◌≤◌, ℕ, List, length, drop, get_or}
use Rattle.bulk_model.specs.declared.plan.Edge.{Edge}
use Rattle.dep_graph.specs.Graphs.{targets, times}
use Rattle.dep_graph.specs.Waiting.{IsWaiting}
use Rattle.dep_graph.proofs.order.Waiting.close_all.Given as goal

abbrev pub invariant-loop-edge : goal.invariant-loop-edge
invariant-loop-edge l = record {
  size : length l.self.open.items ≡ length l.fn.self.open.items;
  waits : (n : ℕ) → n < length l.fn.self.open.items → times (targets (drop l.edge-index l.dependents)) n ≤ get_or l.self.open.items n 0;
  state : (graph : List (List Edge)) → (first : ℕ) → IsWaiting graph first (targets l.dependents) l.fn.self.open.items l.fn.self.order.items
      → IsWaiting graph first (targets (drop l.edge-index l.dependents)) l.self.open.items l.self.order.items;
}
