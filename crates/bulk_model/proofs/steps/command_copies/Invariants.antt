use Rattle.std.proofs.Common.{◌≡◌, take}
use Rattle.bulk_model.proofs.steps.command_copies.Given as goal

abbrev pub invariant-loop-command : goal.invariant-loop-command
invariant-loop-command l = l.found ≡ take l.command-index l.commands
