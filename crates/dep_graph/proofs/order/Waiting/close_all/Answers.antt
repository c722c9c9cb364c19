use Rattle.std.proofs.Common.{◌≡◌, ◌<◌, ◌≤◌, ◌+◌, ◌-◌, ℕ, List, ◌∷◌, length, get_or, drop, arith, ap, subst, ◌∙◌}
use Rattle.std.proofs.lemmas.List.{length-set, drop_more, drop_all}
use Rattle.bulk_model.specs.declared.depend.DepKind.TheVariants.{Pkg}
use Rattle.bulk_model.specs.declared.plan.Edge.{Edge}
use Rattle.dep_graph.specs.Graphs.{targets, times}
use Rattle.dep_graph.specs.Waiting.{IsWaiting}
use Rattle.dep_graph.proofs.Waiting.{waits_less, fits_less, waits_some}
use Rattle.dep_graph.proofs.order.Waiting.close_all.Goals as goal

next : (edges : List Edge) (i : ℕ) (d : Edge) → i < length edges → targets (drop i edges) ≡ (get_or edges i d).to ∷ targets (drop (i + 1) edges)
next edges i d l = ap targets (drop_more edges i d l)

abbrev no_edge : Edge
no_edge = record { kind = Pkg; to = 0 }

pub close-requires-clause-waits : goal.close-requires-clause-waits
close-requires-clause-waits c =
    let node : (get_or c.args.dependents.now c.loop-edge.edge-index no_edge).to < length c.args.self.now.open.items = c.requires.within c.loop-edge.edge-index no_edge c.loop-edge-test.true in
    waits_some (targets (drop (c.loop-edge.edge-index + 1) c.args.dependents.now)) c.loop-edge.self.open.items (get_or c.args.dependents.now c.loop-edge.edge-index no_edge).to
    (subst (λ l. times l (get_or c.args.dependents.now c.loop-edge.edge-index no_edge).to ≤ get_or c.loop-edge.self.open.items (get_or c.args.dependents.now c.loop-edge.edge-index no_edge).to 0)
    (next c.args.dependents.now c.loop-edge.edge-index no_edge c.loop-edge-test.true)
    (c.loop-edge.invariant.waits (get_or c.args.dependents.now c.loop-edge.edge-index no_edge).to node))

pub loop-edge-preserved : goal.loop-edge-preserved
loop-edge-preserved c =
    let node : ℕ = (get_or c.args.dependents.now c.loop-edge.edge-index no_edge).to in
    let rest : List ℕ = targets (drop (c.loop-edge.edge-index + 1) c.args.dependents.now) in
    let within : node < length c.loop-edge.self.open.items =
    (let b : node < length c.args.self.now.open.items = c.requires.within c.loop-edge.edge-index no_edge c.loop-edge-test.true in
    let size : length c.loop-edge.self.open.items ≡ length c.args.self.now.open.items = c.loop-edge.invariant.size in omega arith) in
    let is : targets (drop c.loop-edge.edge-index c.args.dependents.now) ≡ node ∷ rest = next c.args.dependents.now c.loop-edge.edge-index no_edge c.loop-edge-test.true in
    record {
      size = ap length c.in_ok-close.ensures.open ∙ length-set c.loop-edge.self.open.items node (get_or c.loop-edge.self.open.items node 0 - 1) ∙ c.loop-edge.invariant.size;
      waits = λ n l. fits_less rest c.loop-edge.self.open.items c.close.new.self.open.items node n within c.in_ok-close.ensures.open
          (subst (λ numbers. times numbers n ≤ get_or c.loop-edge.self.open.items n 0) is (c.loop-edge.invariant.waits n l));
      state = λ graph first w. waits_less graph first node rest c.loop-edge.self.open.items c.loop-edge.self.order.items c.close.new.self.open.items c.close.new.self.order.items within
          c.in_ok-close.ensures.open c.in_ok-close.ensures.order
          (subst (λ numbers. IsWaiting graph first numbers c.loop-edge.self.open.items c.loop-edge.self.order.items) is (c.loop-edge.invariant.state graph first w));
    }

pub returns : goal.returns
returns c graph first w =
    subst (λ numbers. IsWaiting graph first numbers c.loop-edge.self.open.items c.loop-edge.self.order.items)
    (ap targets (drop_all c.loop-edge.edge-index c.args.dependents.now (omega arith))) (c.loop-edge.invariant.state graph first w)
