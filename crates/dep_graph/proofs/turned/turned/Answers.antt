use Rattle.std.proofs.Common.{◌≡◌, [], arith, subst, ◌∙◌}
use Rattle.std.proofs.lemmas.List.{get_or_read}
use Rattle.dep_graph.specs.Graphs.{edges_at}
use Rattle.dep_graph.specs.Turned.{turned_from, Grew}
use Rattle.dep_graph.proofs.Turning.{none_turned, node_turned, all_turned, turned_form}
use Rattle.dep_graph.proofs.turned.turned.Goals as goal

pub loop-n-init : goal.loop-n-init
loop-n-init c = none_turned c.args.graph.now c.in_ok-lists.lists.items c.in_ok-lists.ensures

pub loop-n-preserved : goal.loop-n-preserved
loop-n-preserved c =
    let edges : c.as_slice.result.now ≡ edges_at c.args.graph.now c.loop-n.n =
    c.as_slice.ensures ∙ get_or_read c.args.graph.now c.loop-n.n c.index-graph-n.result (omega arith) c.index-graph-n.is [] in
    node_turned c.args.graph.now c.loop-n.n c.loop-n.lists.items c.turn_node.new.lists.items
    (subst (λ l. Grew c.loop-n.lists.items c.turn_node.new.lists.items (λ d. turned_from c.loop-n.n d l)) edges c.in_ok-turn_node.ensures) c.loop-n.invariant

pub returns-clause-value : goal.returns-clause-value
returns-clause-value c = all_turned c.args.graph.now c.loop-n.n c.loop-n.lists.items (omega arith) c.loop-n.invariant

pub returns-clause-form : goal.returns-clause-form
returns-clause-form c =
    turned_form c.args.graph.now c.loop-n.lists.items c.requires (all_turned c.args.graph.now c.loop-n.n c.loop-n.lists.items (omega arith) c.loop-n.invariant)
