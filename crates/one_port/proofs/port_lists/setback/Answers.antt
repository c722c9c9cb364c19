use Rattle.std.proofs.Common.{◌≡◌, ◌∙◌, Bool, true, false, ap, sym, refl}
use Rattle.std.specs.Prelude.{if◌then◌else◌}
use mir.Val.{bool_byte}
use Rattle.one_port.proofs.PortEntries.{setback_among}
use Rattle.one_port.proofs.port_lists.setback.Goals as goal

as_status : (b : Bool) → bool_byte b ≡ (if b then 1 else 0)
as_status true = refl
as_status false = refl

pub returns : goal.returns
returns c = c.from.ensures ∙ as_status c.has_failed.result ∙ ap (λ b. if b then 1 else 0) (c.has_failed.ensures ∙ sym (setback_among c.args.outcomes.now))
