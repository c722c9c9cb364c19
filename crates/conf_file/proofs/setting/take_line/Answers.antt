use Rattle.std.proofs.Common.{◌≡◌, true, false, sym, arith, rules, subst}
use Rattle.bulk_base.specs.Text.{IsText, is_text}
use Rattle.bulk_base.proofs.TextTests.{IsText-from_is_text}
use Rattle.conf_file.specs.Lines.{says_nothing, stated, mapped}
use Rattle.conf_file.specs.Conf.{Leaves, with_setting}
use Rattle.conf_file.proofs.Parts.{IsText-statement}
use Rattle.conf_file.proofs.Said.{stated_line}
use Rattle.conf_file.proofs.setting.take_line.Goals as goal

pub take_statement-requires : goal.take_statement-requires
take_statement-requires c =
    let text : is_text c.args.line.now ≡ true = search rules in
    subst IsText (sym c.statement.ensures) (IsText-statement c.args.line.now (IsText-from_is_text c.args.line.now text))

pub returns : goal.returns
returns c =
    let text : is_text c.args.line.now ≡ true = search rules in
    let some : says_nothing c.args.line.now ≡ false = search rules in
    stated_line c.args.conf.now c.take_statement.new.conf c.args.line.now c.take_statement.result text (omega arith) some
    (subst (λ t. Leaves (mapped (with_setting c.args.conf.now) (stated t)) c.take_statement.result c.take_statement.new.conf) c.statement.ensures c.take_statement.ensures)
