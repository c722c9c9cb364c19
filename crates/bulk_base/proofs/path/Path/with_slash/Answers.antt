use Rattle.std.proofs.Common.{◌≡◌, true, [], ap, subst, sym, refl, ◌∙◌}
use Rattle.bulk_base.specs.Text.{has_text_bytes}
use Rattle.bulk_base.proofs.Paths.{has_text_bytes-joined}
use Rattle.bulk_base.proofs.path.Path.with_slash.Goals as goal

pub from_string-requires : goal.from_string-requires
from_string-requires c = ap has_text_bytes c.in_ok-format.ensures.ok ∙ has_text_bytes-joined c.as_str-text.result.now [] (subst (λ t. has_text_bytes t ≡ true) (sym c.as_str-text.ensures.same) c.as_str-text.ensures.form.1) refl
