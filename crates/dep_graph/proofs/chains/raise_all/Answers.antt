use Rattle.std.proofs.Common.{◌≡◌, ◌<◌, ℕ, length, get_or, set, max, ap, arith, ◌∙◌}
use Rattle.std.proofs.lemmas.List.{get_or_read}
use Rattle.bulk_model.specs.declared.depend.DepKind.TheVariants.{Pkg}
use Rattle.bulk_model.specs.declared.plan.Edge.{Edge}
use Rattle.dep_graph.proofs.LongChains.{raise_at}
use Rattle.dep_graph.proofs.chains.raise_all.Goals as goal

pub loop-edge-preserved : goal.loop-edge-preserved
loop-edge-preserved c =
    let no_edge : Edge = record { kind = Pkg; to = 0 } in
    let to : ℕ = (get_or c.args.edges.now c.loop-edge.edge-index no_edge).to in
    let within : to < length c.loop-edge.numbers.items =
    (let b : to < length c.args.numbers.now.items = c.requires c.loop-edge.edge-index no_edge c.loop-edge-test.true in
    let size : length c.loop-edge.numbers.items ≡ length c.args.numbers.now.items = c.loop-edge.invariant.size in omega arith) in
    raise_at c.args.edges.now c.loop-edge.edge-index no_edge c.args.value c.args.numbers.now.items c.loop-edge.numbers.items (set c.loop-edge.numbers.items to c.max.result) c.loop-edge-test.true
    (c.requires c.loop-edge.edge-index no_edge c.loop-edge-test.true)
    (ap (set c.loop-edge.numbers.items to) (c.max.ensures ∙ ap (λ x. max x c.args.value) (get_or_read c.loop-edge.numbers.items to c.index.result.now within c.index.ensures 0))) c.loop-edge.invariant
