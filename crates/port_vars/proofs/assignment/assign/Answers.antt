use Rattle.bulk_base.proofs.TextTests.{is_text-from_IsText}
use Rattle.port_vars.proofs.Names.{IsText-name}
use Rattle.port_vars.proofs.assignment.assign.Goals as goal

pub of-requires : goal.of-requires
of-requires c = is_text-from_IsText c.args.name.now (IsText-name c.args.name.now c.requires.name)
