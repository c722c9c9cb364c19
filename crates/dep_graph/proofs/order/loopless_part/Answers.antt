use Rattle.std.proofs.Common.{◌≡◌, ◌<◌, ◌≤◌, ◌+◌, ℕ, List, [], length, get_or, arith, ap, sym, subst, ◌∙◌}
use Rattle.std.specs.List.{All}
use Rattle.std.proofs.lemmas.List.{get_or_read, length-map}
use Rattle.std.proofs.lemmas.List.FromFn.{length-range_with_len}
use Rattle.std.proofs.lemmas.List.Elements.{All-get_or}
use Rattle.bulk_model.specs.declared.plan.Edge.{Edge}
use Rattle.dep_graph.specs.Graphs.{targets, nodes_of, IsGraph}
use Rattle.dep_graph.specs.Turned.{dependents_at, dependents}
use Rattle.dep_graph.proofs.Members.{got, not_got, at_most}
use Rattle.dep_graph.proofs.Ordered.{next_below, next_taken, waits_fit, part_is}
use Rattle.dep_graph.proofs.order.loopless_part.Goals as goal

pub bounds-dependents-node : goal.bounds-dependents-node
bounds-dependents-node c =
    next_below c.args.graph.now c.args.dependents.now c.loop-node.at c.in-Some.node c.loop-node.waiting.open.items c.loop-node.waiting.order.items c.requires.turned c.in-Some.ensures c.loop-node.invariant

read : (turned : List (List Edge)) (node : ℕ) (edges : List Edge) → node < length turned → edges ≡ get_or turned node edges → edges ≡ get_or turned node []
read turned node edges l is = get_or_read turned node edges l is []

within : (graph turned : List (List Edge)) (node count : ℕ) (edges : List Edge) → IsGraph turned → turned ≡ dependents graph → count ≡ length graph → node < length turned
    → edges ≡ get_or turned node [] → All (λ (e : Edge). e.to < count) edges
within graph turned node count edges g e size l is =
    let all : All (λ (e : Edge). e.to < length turned) (get_or turned node []) = All-get_or (λ edges. All (λ (e : Edge). e.to < length turned) edges) turned node [] l g.within in
    let same : length turned ≡ count = ap length e ∙ length-map (nodes_of graph) (dependents_at graph) ∙ length-range_with_len 0 (length graph) ∙ sym size in
    subst (λ edges. All (λ (e : Edge). e.to < count) edges) (sym is) (subst (λ n. All (λ (e : Edge). e.to < n) (get_or turned node [])) same all)

pub close_all-requires-clause-within : goal.close_all-requires-clause-within
close_all-requires-clause-within c =
    let below : c.in-Some.node < length c.args.dependents.now =
    next_below c.args.graph.now c.args.dependents.now c.loop-node.at c.in-Some.node c.loop-node.waiting.open.items c.loop-node.waiting.order.items c.requires.turned c.in-Some.ensures c.loop-node.invariant in
    within c.args.graph.now c.args.dependents.now c.in-Some.node (length c.loop-node.waiting.open.items) c.as_slice.result.now c.requires.dependents c.requires.turned c.loop-node.invariant.size below
    (c.as_slice.ensures ∙ read c.args.dependents.now c.in-Some.node c.index-dependents-node.result below c.index-dependents-node.is)

pub close_all-requires-clause-waits : goal.close_all-requires-clause-waits
close_all-requires-clause-waits c =
    let below : c.in-Some.node < length c.args.dependents.now =
    next_below c.args.graph.now c.args.dependents.now c.loop-node.at c.in-Some.node c.loop-node.waiting.open.items c.loop-node.waiting.order.items c.requires.turned c.in-Some.ensures c.loop-node.invariant in
    waits_fit c.args.graph.now (c.loop-node.at + 1) (targets c.as_slice.result.now) c.loop-node.waiting.open.items c.loop-node.waiting.order.items
    (next_taken c.args.graph.now c.args.dependents.now c.loop-node.at c.in-Some.node c.loop-node.waiting.open.items c.loop-node.waiting.order.items c.as_slice.result.now c.requires.turned c.in-Some.ensures
    (c.as_slice.ensures ∙ read c.args.dependents.now c.in-Some.node c.index-dependents-node.result below c.index-dependents-node.is) c.loop-node.invariant)

pub loop-node-smaller : goal.loop-node-smaller
loop-node-smaller c =
    let here : c.loop-node.at < length c.loop-node.waiting.order.items = (got c.loop-node.waiting.order.items c.loop-node.at c.in-Some.node c.in-Some.ensures).0 in
    let few : length c.loop-node.waiting.order.items ≤ length c.args.graph.now =
    at_most c.loop-node.waiting.order.items (length c.args.graph.now) c.loop-node.invariant.in_order.once c.loop-node.invariant.in_order.nodes in
    omega arith

pub loop-node-preserved : goal.loop-node-preserved
loop-node-preserved c =
    let below : c.in-Some.node < length c.args.dependents.now =
    next_below c.args.graph.now c.args.dependents.now c.loop-node.at c.in-Some.node c.loop-node.waiting.open.items c.loop-node.waiting.order.items c.requires.turned c.in-Some.ensures c.loop-node.invariant in
    c.in_ok-close_all.ensures c.args.graph.now (c.loop-node.at + 1)
    (next_taken c.args.graph.now c.args.dependents.now c.loop-node.at c.in-Some.node c.loop-node.waiting.open.items c.loop-node.waiting.order.items c.as_slice.result.now c.requires.turned c.in-Some.ensures
    (c.as_slice.ensures ∙ read c.args.dependents.now c.in-Some.node c.index-dependents-node.result below c.index-dependents-node.is) c.loop-node.invariant)

pub returns : goal.returns
returns c =
    part_is c.args.graph.now c.loop-node.waiting.open.items c.loop-node.waiting.order.items c.loop-node.at c.requires.graph.within
    (not_got c.loop-node.waiting.order.items c.loop-node.at c.in_default.ensures) c.loop-node.invariant
