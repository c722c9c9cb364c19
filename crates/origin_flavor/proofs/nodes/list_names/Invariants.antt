use Rattle.std.proofs.Common.{◌≡◌, take}
use Rattle.origin_flavor.proofs.Meant.{ends}
use Rattle.origin_flavor.proofs.nodes.list_names.Given as goal

abbrev pub invariant-loop-answer : goal.invariant-loop-answer
invariant-loop-answer l = l.found ≡ ends (take l.answer-index l.answers)
