use Rattle.std.proofs.Common.{◌∙◌, ap, ℕ}
use Rattle.std.specs.List.{list_any}
use Rattle.bulk_model.specs.Lists.{is_setback}
use Rattle.std.specs.Prelude.{if◌then◌else◌}
use Rattle.status_lists.proofs.Statuses.{as_status}
use Rattle.status_lists.proofs.exit.run_status.Goals as goal

pub returns : goal.returns
returns c =
    c.from.ensures ∙ as_status c.has_setback.result
    ∙ ap (λ b. let status : ℕ = if b then 1 else 0 in status) (c.has_setback.ensures ∙ ap (list_any is_setback) c.as_slice.ensures)
