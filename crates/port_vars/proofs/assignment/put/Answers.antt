use Rattle.std.proofs.Common.{arith}
use Rattle.bulk_base.proofs.TextTests.{is_text-from_IsText}
use Rattle.port_vars.proofs.assignment.put.Goals as goal

pub of-requires : goal.of-requires
of-requires c = is_text-from_IsText _ (c.requires (omega arith))
