use Rattle.std.proofs.Common.{◌∙◌}
use Rattle.tree_maker.proofs.Files.{file_is}
use Rattle.tree_maker.proofs.file.port_file.Goals as goal

pub returns-clause-file : goal.returns-clause-file
returns-clause-file c =
    file_is c.args.i c.args.draws.now c.in_ok-port_path.field-0 c.from_vec.result
    c.in_ok-port.port.version c.in_ok-port.port.targets.items c.in_ok-port.port.fate
    c.in_ok-port_path.ensures (c.from_vec.ensures ∙ c.in_ok-bytes.ensures)
    c.in_ok-port.ensures.version c.in_ok-port.ensures.targets c.in_ok-port.ensures.fate
