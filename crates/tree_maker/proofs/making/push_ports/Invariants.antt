use Rattle.std.proofs.Common.{◌≡◌, ◌++◌, ◌-◌}
use Rattle.tree_maker.specs.Made.{port_files}
use Rattle.tree_maker.proofs.making.push_ports.Given as goal

abbrev pub invariant-loop-i : goal.invariant-loop-i
invariant-loop-i l =
    l.files ++ port_files (l.ports - l.i) l.i l.draws ≡ l.initial.files ++ port_files l.ports 0 l.number
