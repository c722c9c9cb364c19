use Rattle.std.proofs.Common.{◌∙◌, ap, sym, subst, map, length}
use Rattle.std.proofs.lemmas.List.{take_all}
use Rattle.dep_graph.specs.Graphs.{IsGraph}
use Rattle.plan_maker.specs.Edges.{edges_by}
use Rattle.plan_maker.proofs.EdgeNumbers.{edges_are, edges_graph, size_of_edges}
use Rattle.plan_maker.proofs.graph.plan_edges.Goals as goal

pub returns-clause-edges : goal.returns-clause-edges
returns-clause-edges c =
    c.loop-n.invariant ∙ ap (map (edges_by c.args.index.now c.in_ok-places.places.items)) (take_all c.loop-n.n-index c.args.nodes.now c.loop-n-test.false)
    ∙ edges_are c.args.index.now c.args.nodes.now c.in_ok-places.places.items c.requires c.in_ok-places.ensures.places

pub returns-clause-graph : goal.returns-clause-graph
returns-clause-graph c = subst IsGraph (sym (returns-clause-edges c)) (edges_graph c.args.index.now c.args.nodes.now c.requires)

pub returns-clause-size : goal.returns-clause-size
returns-clause-size c = ap length (returns-clause-edges c) ∙ size_of_edges c.args.index.now c.args.nodes.now
