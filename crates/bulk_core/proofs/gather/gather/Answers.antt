use Rattle.std.proofs.Common.{[], ap, sym, ◌∙◌, ◌++◌}
use Rattle.std.proofs.lemmas.List.{append-nil}
use Rattle.std.specs.List.{cons_option}
use Rattle.bulk_model.specs.Results.{package_in}
use Rattle.bulk_core.specs.Turns.{settled}
use Rattle.bulk_core.proofs.Lists.{gathered_more}
use Rattle.bulk_core.proofs.gather.gather.Goals as goal
use Rattle.bulk_core.proofs.gather.gather.Goals.{in-Some+in_ok-push, in_default}

pub loop-d-preserved : goal.loop-d-preserved
loop-d-preserved c =
    elim c.match-branch-2.branch [
      | in-Some+in_ok-push w ↦
          gathered_more (λ d. package_in (settled c.args.plan.now c.args.kept.now c.args.outcomes.now d)) c.args.nodes.now c.loop-d.d-index c.in_ok-package.field-0 c.loop-d.packages c.match-branch-2.packages
          c.loop-d-test.true c.in_ok-package.ensures c.loop-d.invariant (w.packages-is ∙ w.in_ok-push.ensures.ok ∙ sym (ap (λ o. c.loop-d.packages ++ cons_option o []) w.in-Some.is))
      | in_default w ↦
          gathered_more (λ d. package_in (settled c.args.plan.now c.args.kept.now c.args.outcomes.now d)) c.args.nodes.now c.loop-d.d-index c.in_ok-package.field-0 c.loop-d.packages c.match-branch-2.packages
          c.loop-d-test.true c.in_ok-package.ensures c.loop-d.invariant (w.packages-is ∙ sym (append-nil c.loop-d.packages) ∙ sym (ap (λ o. c.loop-d.packages ++ cons_option o []) w.in_default.is))
    ]
