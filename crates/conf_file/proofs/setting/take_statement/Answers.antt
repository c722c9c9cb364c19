use Rattle.std.proofs.Common.{sym, arith, subst}
use Rattle.bulk_base.specs.Text.{IsText}
use Rattle.conf_file.proofs.Parts.{IsText-front, IsText-back, IsText-value}
use Rattle.conf_file.proofs.setting.take_statement.Goals as goal

pub take_value-requires-clause-name : goal.take_value-requires-clause-name
take_value-requires-clause-name c = subst IsText (sym c.cut.ensures.front) (IsText-front 61 (omega arith) c.args.text.now c.requires)

pub take_value-requires-clause-value : goal.take_value-requires-clause-value
take_value-requires-clause-value c = IsText-value c.cut.result.1.now _ (subst IsText (sym c.cut.ensures.back) (IsText-back 61 (omega arith) c.args.text.now c.requires)) (sym c.in-Some.ensures)
