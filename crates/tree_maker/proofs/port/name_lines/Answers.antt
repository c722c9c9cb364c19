use Rattle.tree_maker.proofs.Files.{name_lines_are}
use Rattle.tree_maker.proofs.port.name_lines.Goals as goal

pub returns : goal.returns
returns c = name_lines_are _ c.args.folder.now c.args.version c.in_ok-format.ensures.ok
