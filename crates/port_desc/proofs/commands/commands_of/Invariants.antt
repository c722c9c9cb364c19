use Rattle.std.proofs.Common.{◌≡◌, map}
use Rattle.std.specs.Prelude.{filter}
use Rattle.port_desc.specs.Commands.{is_command}
use Rattle.port_desc.proofs.commands.commands_of.Given as goal

abbrev pub invariant-loop-piece : goal.invariant-loop-piece
invariant-loop-piece l = l.found ≡ filter is_command (map (λ piece. piece.now) l.yielded)
