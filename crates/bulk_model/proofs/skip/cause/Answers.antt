use Rattle.std.proofs.Common.{◌≡◌, ◌<◌, ◌-◌, ◌+◌, ℕ, length, ap, sym, subst, ◌∙◌, arith}
use Rattle.std.specs.List.{All}
use Rattle.std.proofs.lemmas.List.{get_or_read}
use Rattle.bulk_model.specs.declared.plan.Edge.{Edge}
use Rattle.bulk_model.specs.PlanFacts.{IsPlan}
use Rattle.bulk_model.specs.PlanView.{edges_from}
use Rattle.bulk_model.specs.Fit.{is_skipped, status_in}
use Rattle.bulk_model.specs.Cause.{cause}
use Rattle.bulk_model.specs.declared.results.Status.TheVariants.{Skipped}
use Rattle.bulk_model.proofs.PlanEdges.{edges_within, edges_read}
use Rattle.bulk_model.proofs.Setbacks.{way_on, one_step, down, here}
use Rattle.bulk_model.proofs.skip.cause.Goals as goal

pub least_setback-requires : goal.least_setback-requires
least_setback-requires c =
    let plan : IsPlan c.args.plan.now = subst IsPlan c.plan.view_is c.plan.invariant in
    let edges : c.as_slice-edges.result.now ≡ edges_from c.args.plan.now c.loop.node =
    c.as_slice-edges.ensures ∙ edges_read c.args.plan.now plan c.as_slice.result.now c.index-as_slice-node.result c.loop.node c.loop.invariant.node (c.as_slice.ensures ∙ ap (λ p. p.edges) c.plan.view_is) c.index-as_slice-node.is in
    let size : length c.as_slice-statuses.result.now ≡ length c.args.plan.now.jobs = ap length c.as_slice-statuses.ensures ∙ c.requires.fit.places in
    subst (λ es. All (λ (e : Edge). e.to < length c.as_slice-statuses.result.now) es) (sym edges)
    (subst (λ count. All (λ (e : Edge). e.to < count) (edges_from c.args.plan.now c.loop.node)) (sym size) (edges_within c.args.plan.now plan c.loop.node c.loop.invariant.node))

pub returns-in_default : goal.returns-in_default
returns-in_default c =
    let plan : IsPlan c.args.plan.now = subst IsPlan c.plan.view_is c.plan.invariant in
    let edges : c.as_slice-edges.result.now ≡ edges_from c.args.plan.now c.loop.node =
    c.as_slice-edges.ensures ∙ edges_read c.args.plan.now plan c.as_slice.result.now c.index-as_slice-node.result c.loop.node c.loop.invariant.node (c.as_slice.ensures ∙ ap (λ p. p.edges) c.plan.view_is) c.index-as_slice-node.is in
    let steps : ℕ = length c.args.plan.now.jobs - (c.loop.counter + 1) in
    let way : way_on c.args.plan.now c.args.results.now.statuses steps c.loop.node c.least_setback.result ≡ cause c.args.plan.now c.args.results.now.statuses c.args.n =
    one_step c.args.plan.now c.args.results.now.statuses c.as_slice-statuses.result.now c.as_slice-edges.result.now c.loop.counter c.len-end.result c.loop.node (cause c.args.plan.now c.args.results.now.statuses c.args.n) c.least_setback.result
    c.loop-test.true (c.len-end.ensures ∙ ap (λ p. length p.jobs) c.plan.view_is) c.as_slice-statuses.ensures edges c.least_setback.ensures.least c.loop.invariant.rest in
    ap (way_on c.args.plan.now c.args.results.now.statuses steps c.loop.node) (sym c.in_default.is) ∙ way

pub returns-then-not-is_skipped : goal.returns-then-not-is_skipped
returns-then-not-is_skipped c =
    let plan : IsPlan c.args.plan.now = subst IsPlan c.plan.view_is c.plan.invariant in
    let edges : c.as_slice-edges.result.now ≡ edges_from c.args.plan.now c.loop.node =
    c.as_slice-edges.ensures ∙ edges_read c.args.plan.now plan c.as_slice.result.now c.index-as_slice-node.result c.loop.node c.loop.invariant.node (c.as_slice.ensures ∙ ap (λ p. p.edges) c.plan.view_is) c.index-as_slice-node.is in
    let steps : ℕ = length c.args.plan.now.jobs - (c.loop.counter + 1) in
    let way : way_on c.args.plan.now c.args.results.now.statuses steps c.loop.node c.least_setback.result ≡ cause c.args.plan.now c.args.results.now.statuses c.args.n =
    one_step c.args.plan.now c.args.results.now.statuses c.as_slice-statuses.result.now c.as_slice-edges.result.now c.loop.counter c.len-end.result c.loop.node (cause c.args.plan.now c.args.results.now.statuses c.args.n) c.least_setback.result
    c.loop-test.true (c.len-end.ensures ∙ ap (λ p. length p.jobs) c.plan.view_is) c.as_slice-statuses.ensures edges c.least_setback.ensures.least c.loop.invariant.rest in
    let size : length c.as_slice-statuses.result.now ≡ length c.args.plan.now.jobs = ap length c.as_slice-statuses.ensures ∙ c.requires.fit.places in
    let below : c.in-Some.least < length c.as_slice-statuses.result.now = c.in-Some.ensures.node in
    let read : c.is_skipped.result ≡ is_skipped (status_in c.args.results.now.statuses c.in-Some.least) =
    c.is_skipped.ensures ∙ ap is_skipped (get_or_read c.as_slice-statuses.result.now c.in-Some.least c.index-statuses-least.result below c.index-statuses-least.is Skipped ∙ ap (λ s. status_in s c.in-Some.least) c.as_slice-statuses.ensures) in
    here c.args.plan.now c.args.results.now.statuses steps c.loop.node c.in-Some.least (cause c.args.plan.now c.args.results.now.statuses c.args.n) c.least_setback.result c.in-Some.is
    (sym read ∙ c.if-not-is_skipped.true) way

pub loop-preserved : goal.loop-preserved
loop-preserved c =
    let plan : IsPlan c.args.plan.now = subst IsPlan c.plan.view_is c.plan.invariant in
    let edges : c.as_slice-edges.result.now ≡ edges_from c.args.plan.now c.loop.node =
    c.as_slice-edges.ensures ∙ edges_read c.args.plan.now plan c.as_slice.result.now c.index-as_slice-node.result c.loop.node c.loop.invariant.node (c.as_slice.ensures ∙ ap (λ p. p.edges) c.plan.view_is) c.index-as_slice-node.is in
    let steps : ℕ = length c.args.plan.now.jobs - (c.loop.counter + 1) in
    let way : way_on c.args.plan.now c.args.results.now.statuses steps c.loop.node c.least_setback.result ≡ cause c.args.plan.now c.args.results.now.statuses c.args.n =
    one_step c.args.plan.now c.args.results.now.statuses c.as_slice-statuses.result.now c.as_slice-edges.result.now c.loop.counter c.len-end.result c.loop.node (cause c.args.plan.now c.args.results.now.statuses c.args.n) c.least_setback.result
    c.loop-test.true (c.len-end.ensures ∙ ap (λ p. length p.jobs) c.plan.view_is) c.as_slice-statuses.ensures edges c.least_setback.ensures.least c.loop.invariant.rest in
    let size : length c.as_slice-statuses.result.now ≡ length c.args.plan.now.jobs = ap length c.as_slice-statuses.ensures ∙ c.requires.fit.places in
    let below : c.in-Some.least < length c.as_slice-statuses.result.now = c.in-Some.ensures.node in
    let read : c.is_skipped.result ≡ is_skipped (status_in c.args.results.now.statuses c.in-Some.least) =
    c.is_skipped.ensures ∙ ap is_skipped (get_or_read c.as_slice-statuses.result.now c.in-Some.least c.index-statuses-least.result below c.index-statuses-least.is Skipped ∙ ap (λ s. status_in s c.in-Some.least) c.as_slice-statuses.ensures) in
    record {
      node = omega arith;
      rest = down c.args.plan.now c.args.results.now.statuses steps c.loop.node c.in-Some.least (cause c.args.plan.now c.args.results.now.statuses c.args.n) c.least_setback.result c.in-Some.is
          (sym read ∙ c.if-not-is_skipped.false) way;
    }
