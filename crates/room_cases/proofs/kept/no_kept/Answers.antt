use Rattle.std.proofs.Common.{◌∙◌, ap, length}
use Rattle.std.specs.Prelude.{None, replicate}
use Rattle.bulk_model.specs.PlanView.{PlanView}
use Rattle.room_cases.proofs.Nothing.{nothing_fits}
use Rattle.room_cases.proofs.kept.no_kept.Goals as goal

pub returns : goal.returns
returns c =
    nothing_fits c.args.plan.now (record { packages = c.from_vec-packages.result })
    (c.from_vec-packages.ensures ∙ c.in_ok-nones.ensures ∙ ap (λ n. replicate n None) c.len.ensures
    ∙ ap (λ (plan : PlanView). replicate (length plan.jobs) None) c.plan.view_is)
