use Rattle.std.proofs.Common.{◌∙◌}
use Rattle.bulk_base.proofs.TextTests.{utf8_test}
use Rattle.bulk_base.proofs.text.is_utf8.Goals as goal

pub returns : goal.returns
returns c = c.is_ok.ensures.value ∙ utf8_test c.from_utf8.result c.args.bytes.now _ _ c.from_utf8.ensures.cases
