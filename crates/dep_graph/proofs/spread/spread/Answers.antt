use Rattle.std.proofs.Common.{◌<◌, ◌≤◌, [], length, arith, ap, ◌∙◌}
use Rattle.std.proofs.lemmas.List.{get_or_read}
use Rattle.dep_graph.specs.Found.{leads_to, followed, FoundView}
use Rattle.dep_graph.proofs.Members.{got, not_got}
use Rattle.dep_graph.proofs.Spreading.{spread_begin, spread_on, spread_all}
use Rattle.dep_graph.proofs.spread.spread.Goals as goal

pub loop-node-init : goal.loop-node-init
loop-node-init c = record {
  count = c.requires.count;
  so_far = spread_begin (leads_to c.args.follow c.args.graph.now) (length c.args.graph.now) c.args.found.now.nodes;
}

pub loop-node-smaller : goal.loop-node-smaller
loop-node-smaller c =
    let here : c.loop-node.at < length c.loop-node.found.nodes = (got c.loop-node.found.nodes c.loop-node.at c.in-Some.node c.in-Some.ensures.node).0 in
    omega (arith, c.in-Some.ensures.few, c.loop-node.invariant.count)

pub loop-node-preserved : goal.loop-node-preserved
loop-node-preserved c =
    let node : c.in-Some.node < length c.args.graph.now = omega (arith, c.in-Some.ensures.below, c.loop-node.invariant.count) in
    record {
      count = c.add_edges.ensures.count ∙ c.loop-node.invariant.count;
      so_far = spread_on (leads_to c.args.follow c.args.graph.now) (length c.args.graph.now) c.args.found.now.nodes c.loop-node.at c.in-Some.node c.loop-node.found c.add_edges.new.found
          (followed c.args.follow c.as_slice.result.now) c.in-Some.ensures.node node
          (ap (followed c.args.follow) (c.as_slice.ensures ∙ get_or_read c.args.graph.now c.in-Some.node c.index-graph-node.result node c.index-graph-node.is []))
          c.in_ok-add_edges.ensures.nodes c.loop-node.invariant.so_far;
    }

pub returns-clause-nodes : goal.returns-clause-nodes
returns-clause-nodes c =
    spread_all (leads_to c.args.follow c.args.graph.now) (length c.args.graph.now) c.args.found.now.nodes c.loop-node.at c.args.found.now c.loop-node.found
    (ap (λ n. let v : FoundView = record { count = n; nodes = c.args.found.now.nodes } in v) c.requires.count) c.loop-node.invariant.count
    (not_got c.loop-node.found.nodes c.loop-node.at c.in_default.ensures.node)
    (let few : length c.loop-node.found.nodes ≤ c.loop-node.found.count = c.in_default.ensures.few in omega (arith, c.loop-node.invariant.count))
    c.loop-node.invariant.so_far
