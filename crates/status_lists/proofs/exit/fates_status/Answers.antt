use Rattle.std.proofs.Common.{◌∙◌, ap, ℕ}
use Rattle.std.specs.Prelude.{if◌then◌else◌}
use Rattle.status_lists.proofs.Statuses.{as_status}
use Rattle.status_lists.proofs.exit.fates_status.Goals as goal

pub returns : goal.returns
returns c = c.from.ensures ∙ as_status c.has_set_back.result ∙ ap (λ b. let status : ℕ = if b then 1 else 0 in status) c.has_set_back.ensures
