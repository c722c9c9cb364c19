use Rattle.moved_list.proofs.Readable.{IsText-moved_line}
use Rattle.moved_list.proofs.moved.take_line.Goals as goal

pub entry-requires : goal.entry-requires
entry-requires c = IsText-moved_line c.args.line.now c.requires
