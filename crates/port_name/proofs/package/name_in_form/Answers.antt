use Rattle.std.proofs.Common.{◌∙◌, ap}
use Rattle.bulk_base.specs.Text.{is_plain_text}
use Rattle.port_name.proofs.Spelled.{name_plain}
use Rattle.port_name.proofs.package.name_in_form.Goals as goal

pub literal-requires : goal.literal-requires
literal-requires c = ap is_plain_text (c.as_slice.ensures.value ∙ c.in_ok-bytes.ensures) ∙ name_plain c.args.parts.now c.requires
