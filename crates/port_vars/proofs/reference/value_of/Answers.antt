use Rattle.std.proofs.Common.{◌∙◌, sym, arith}
use Rattle.bulk_base.proofs.TextTests.{is_text-from_IsText}
use Rattle.port_vars.proofs.Names.{IsText-name}
use Rattle.port_vars.proofs.reference.value_of.Goals as goal

pub of-requires : goal.of-requires
of-requires c = is_text-from_IsText c.args.name.now (IsText-name c.args.name.now (sym c.is_name.ensures ∙ grind arith))
