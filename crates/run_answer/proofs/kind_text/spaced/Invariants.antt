use Rattle.std.proofs.Common.{◌≡◌, take}
use Rattle.std.specs.String.{string_bytes}
use Rattle.run_answer.specs.KindText.{spaced}
use Rattle.run_answer.proofs.kind_text.spaced.Given as goal

abbrev pub invariant-loop-name : goal.invariant-loop-name
invariant-loop-name l = string_bytes l.text ≡ spaced (take l.name-index l.names)
