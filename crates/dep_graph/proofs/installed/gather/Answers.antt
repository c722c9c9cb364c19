use Rattle.std.proofs.Common.{◌≡◌, ◌<◌, [], length, ap, sym, subst, ◌∙◌}
use Rattle.std.specs.Prelude.{filter}
use Rattle.std.specs.List.{All, range_with_len}
use Rattle.std.proofs.lemmas.Result.{IfOk-weaker}
use Rattle.bulk_model.specs.declared.plan.Edge.{Edge}
use Rattle.bulk_model.specs.PlanView.{edges_from, depends}
use Rattle.bulk_model.specs.PlanFacts.{IsPlan}
use Rattle.bulk_model.specs.Installs.{installs, later_depends}
use Rattle.bulk_model.proofs.PlanEdges.{edges_within, edges_read}
use Rattle.dep_graph.specs.declared.spread.Follow.TheVariants.{Later}
use Rattle.dep_graph.specs.Graphs.{has, targets, IsWithin}
use Rattle.dep_graph.specs.Found.{FoundView, Spreads, with_nodes, leads_to}
use Rattle.dep_graph.proofs.Installing.{installed_are, plan_within}
use Rattle.dep_graph.proofs.installed.gather.Goals as goal

pub add_edges-requires : goal.add_edges-requires
add_edges-requires c =
    let plan : IsPlan c.args.plan.now = subst IsPlan c.plan.view_is c.plan.invariant in
    let same : c.as_slice-graph.result.now ≡ c.args.plan.now.edges = c.as_slice-graph.ensures ∙ ap (λ p. p.edges) c.plan.view_is in
    let edges : c.as_slice.result.now ≡ edges_from c.args.plan.now c.args.n =
    c.as_slice.ensures ∙ edges_read c.args.plan.now plan c.as_slice-graph.result.now c.index-graph-n.result c.args.n c.requires.node same c.index-graph-n.is in
    subst (λ list. All (λ (e : Edge). e.to < c.args.found.now.count) list) (sym edges)
    (subst (λ count. All (λ (e : Edge). e.to < count) (edges_from c.args.plan.now c.args.n)) (sym c.requires.count) (edges_within c.args.plan.now plan c.args.n c.requires.node))

pub spread-requires-clause-within : goal.spread-requires-clause-within
spread-requires-clause-within c =
    let plan : IsPlan c.args.plan.now = subst IsPlan c.plan.view_is c.plan.invariant in
    let same : c.as_slice-graph.result.now ≡ c.args.plan.now.edges = c.as_slice-graph.ensures ∙ ap (λ p. p.edges) c.plan.view_is in
    subst (λ graph. IsWithin (length graph) graph) (sym same) (plan_within c.args.plan.now plan)

pub returns-clause-nodes : goal.returns-clause-nodes
returns-clause-nodes c =
    let plan : IsPlan c.args.plan.now = subst IsPlan c.plan.view_is c.plan.invariant in
    let same : c.as_slice-graph.result.now ≡ c.args.plan.now.edges = c.as_slice-graph.ensures ∙ ap (λ p. p.edges) c.plan.view_is in
    let edges : c.as_slice.result.now ≡ edges_from c.args.plan.now c.args.n =
    c.as_slice.ensures ∙ edges_read c.args.plan.now plan c.as_slice-graph.result.now c.index-graph-n.result c.args.n c.requires.node same c.index-graph-n.is in
    let begun : c.add_edges.new.found ≡ (let v : FoundView = record { count = c.args.found.now.count; nodes = with_nodes [] (depends c.args.plan.now c.args.n) } in v) =
    c.in_ok-add_edges.ensures.nodes
    ∙ ap (λ list. let v : FoundView = record { count = c.args.found.now.count; nodes = with_nodes c.args.found.now.nodes (targets list) } in v) edges
    ∙ ap (λ list. let v : FoundView = record { count = c.args.found.now.count; nodes = with_nodes list (depends c.args.plan.now c.args.n) } in v) c.requires.none in
    let spreads : Spreads (later_depends c.args.plan.now) c.add_edges.new.found c.spread.new.found =
    subst (λ graph. Spreads (leads_to Later graph) c.add_edges.new.found c.spread.new.found) same c.in_ok-spread.ensures.nodes in
    IfOk-weaker c.sorted.result (λ numbers. numbers ≡ filter (has c.spread.new.found.nodes) (range_with_len 0 c.spread.new.found.count)) (λ numbers. numbers ≡ installs c.args.plan.now c.args.n)
    (installed_are c.args.plan.now c.args.n c.args.found.now.count c.add_edges.new.found c.spread.new.found c.requires.count begun spreads) c.sorted.ensures
