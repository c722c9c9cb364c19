use Rattle.bulk_base.proofs.TextTests.{is_text-from_IsText}
use Rattle.moved_list.proofs.entry.name_in.Goals as goal

pub of-requires : goal.of-requires
of-requires c = is_text-from_IsText c.args.field.now c.requires
