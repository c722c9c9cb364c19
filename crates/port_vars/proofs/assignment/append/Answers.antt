use Rattle.std.proofs.Common.{◌+◌, arith}
use Rattle.bulk_base.proofs.TextTests.{is_text-from_IsText}
use Rattle.port_vars.proofs.assignment.append.Goals as goal

pub of-requires : goal.of-requires
of-requires c = is_text-from_IsText _ (rw c.as_slice.ensures (c.in_ok-piece.ensures.form (c.args.limit + 1) c.requires (omega arith)))
