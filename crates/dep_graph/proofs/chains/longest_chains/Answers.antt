use Rattle.std.proofs.Common.{◌≡◌, ◌<◌, ◌≤◌, ◌+◌, ◌-◌, ℕ, List, [], length, get_or, refl, ap, subst, arith, ◌∙◌}
use Rattle.std.proofs.lemmas.List.{get_or_read}
use Rattle.std.proofs.lemmas.List.Elements.{All-get_or}
use Rattle.bulk_model.specs.declared.plan.Edge.{Edge}
use Rattle.dep_graph.specs.Graphs.{targets, edges_at, IsGraph}
use Rattle.dep_graph.specs.Order.{IsLooplessPart}
use Rattle.dep_graph.specs.Chains.{Raised}
use Rattle.dep_graph.proofs.Members.{at_most}
use Rattle.dep_graph.proofs.LongChains.{LengthsSoFar, lengths_begin, lengths_more, all_longest}
use Rattle.dep_graph.proofs.chains.longest_chains.Goals as goal

node_below : (graph : List (List Edge)) (order : List ℕ) (k : ℕ) → IsLooplessPart graph order → k < length order → get_or order k 0 < length graph
node_below graph order k p l = All-get_or (λ n. n < length graph) order k 0 l p.in_order.nodes

fits : (graph : List (List Edge)) (order lengths : List ℕ) (done k number : ℕ) → IsGraph graph → IsLooplessPart graph order → done < length order → k < length order
    → LengthsSoFar graph order done lengths → number ≡ get_or lengths (get_or order k 0) 0 → number + 1 ≤ length graph
fits graph order lengths done k number g p l b so_far e =
    let few : length order ≤ length graph = at_most order (length graph) p.in_order.once p.in_order.nodes in
    let here : get_or lengths (get_or order k 0) 0 ≤ done = so_far.few (get_or order k 0) (node_below graph order k p b) in
    omega arith

read : (graph : List (List Edge)) (order lengths : List ℕ) (done k number : ℕ) → IsLooplessPart graph order → k < length order → LengthsSoFar graph order done lengths
    → number ≡ get_or lengths (get_or order k 0) number → number ≡ get_or lengths (get_or order k 0) 0
read graph order lengths done k number p b so_far e =
    let below : get_or order k 0 < length graph = node_below graph order k p b in
    let size : length lengths ≡ length graph = so_far.size in
    get_or_read lengths (get_or order k 0) number (omega arith) e 0

pub loop-done-init : goal.loop-done-init
loop-done-init c = lengths_begin c.args.graph.now c.args.order.now c.in_ok-lengths.lengths.items (c.in_ok-lengths.ensures.items_if_clones_equal (λ y h. h))

pub overflow_add-longer : goal.overflow_add-longer
overflow_add-longer c =
    omega (
      arith,
      fits c.args.graph.now c.args.order.now c.loop-done.lengths.items c.loop-done.done (length c.args.order.now - 1 - c.loop-done.done) c.index.result.now
          c.requires.form c.requires.order c.loop-done-test.true (omega arith) c.loop-done.invariant
          (read c.args.graph.now c.args.order.now c.loop-done.lengths.items c.loop-done.done (length c.args.order.now - 1 - c.loop-done.done) c.index.result.now c.requires.order (omega arith) c.loop-done.invariant c.index.ensures),
    )

pub loop-done-preserved : goal.loop-done-preserved
loop-done-preserved c =
    let k : ℕ = length c.args.order.now - 1 - c.loop-done.done in
    let x : ℕ = get_or c.args.order.now k 0 in
    let node : x < length c.args.graph.now = node_below c.args.graph.now c.args.order.now k c.requires.order (omega arith) in
    let edges : c.as_slice.result.now ≡ edges_at c.args.graph.now x = c.as_slice.ensures ∙ get_or_read c.args.graph.now x c.index-graph-node.result node c.index-graph-node.is [] in
    lengths_more c.args.graph.now c.args.order.now c.loop-done.done k x (c.index.result.now + 1) c.loop-done.lengths.items c.raise_all.new.numbers.items
    c.requires.order.in_order (omega arith) refl (ap (λ n. n + 1) (read c.args.graph.now c.args.order.now c.loop-done.lengths.items c.loop-done.done k c.index.result.now c.requires.order (omega arith) c.loop-done.invariant c.index.ensures)) c.requires.form.within
    (subst (λ l. Raised (targets l) (c.index.result.now + 1) c.loop-done.lengths.items c.raise_all.new.numbers.items) edges c.raise_all.ensures) c.loop-done.invariant

pub returns-clause-longest : goal.returns-clause-longest
returns-clause-longest c =
    all_longest c.args.graph.now c.args.order.now c.loop-done.done c.loop-done.lengths.items (omega arith) c.requires.order c.requires.loop_free c.loop-done.invariant
