use Rattle.std.proofs.Common.{get_or, ap, sym, ◌∙◌}
use Rattle.bulk_model.specs.declared.depend.DepKind.TheVariants.{Pkg}
use Rattle.bulk_model.specs.declared.plan.Edge.{Edge}
use Rattle.dep_graph.proofs.Following.{edge_more, after_edge}
use Rattle.dep_graph.proofs.spread.add_edges.Goals as goal
use Rattle.dep_graph.proofs.spread.add_edges.Goals.{then-takes+in_ok-add, else-takes}

pub loop-edge-preserved : goal.loop-edge-preserved
loop-edge-preserved c =
    let edge : Edge = get_or c.args.edges.now c.loop-edge.edge-index (record { kind = Pkg; to = 0 }) in
    edge_more c.args.found.now c.loop-edge.found c.if-takes.found c.args.follow c.args.edges.now c.loop-edge.edge-index (record { kind = Pkg; to = 0 }) c.loop-edge-test.true c.loop-edge.invariant
    (elim c.if-takes.branch [
      | then-takes+in_ok-add w ↦ w.found-is ∙ w.in_ok-add.ensures.nodes ∙ ap (λ b. after_edge b c.loop-edge.found edge.to) (sym w.if-takes.true ∙ c.takes.ensures)
      | else-takes w ↦ w.found-is ∙ ap (λ b. after_edge b c.loop-edge.found edge.to) (sym w.if-takes.false ∙ c.takes.ensures)
    ])
