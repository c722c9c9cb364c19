use Rattle.std.proofs.Common.{sym, subst}
use Rattle.bulk_base.specs.Text.{IsText}
use Rattle.plan_maker.proofs.BaseNames.{is_text_base}
use Rattle.plan_maker.proofs.boost.base_name.Goals as goal

pub of-requires : goal.of-requires
of-requires c = is_text_base c.bytes-bytes.result.now c.last_dash.result (subst IsText (sym c.bytes-bytes.ensures.same) c.bytes-bytes.ensures.form) c.last_dash.ensures.dash
