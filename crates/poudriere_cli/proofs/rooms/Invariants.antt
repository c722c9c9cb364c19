use Rattle.std.proofs.Common.{◌≡◌, vec_len}
use Rattle.poudriere_cli.proofs.rooms.Given as goal

abbrev pub invariant-loop-number : goal.invariant-loop-number
invariant-loop-number l = vec_len l.rooms ≡ l.number-counter
