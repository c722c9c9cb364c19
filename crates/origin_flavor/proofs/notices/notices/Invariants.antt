use Rattle.std.proofs.Common.{◌≡◌, take}
use Rattle.origin_flavor.specs.Notices.{each_word_once}
use Rattle.origin_flavor.proofs.Noticed.{told_by}
use Rattle.origin_flavor.proofs.notices.notices.Given as goal

abbrev pub invariant-loop-answer : goal.invariant-loop-answer
invariant-loop-answer l = l.list ≡ each_word_once (told_by (take l.answer-index l.answers))
