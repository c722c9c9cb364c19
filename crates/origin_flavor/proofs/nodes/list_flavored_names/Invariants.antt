use Rattle.std.proofs.Common.{◌≡◌, take}
use Rattle.origin_flavor.proofs.Meant.{ends_with_flavors}
use Rattle.origin_flavor.proofs.nodes.list_flavored_names.Given as goal

abbrev pub invariant-loop-answer : goal.invariant-loop-answer
invariant-loop-answer l = l.found ≡ ends_with_flavors l.every_flavor (take l.answer-index l.answers)
