use Rattle.origin_flavor.proofs.Answered.{AnsweredSoFar}
use Rattle.origin_flavor.proofs.answer.answer_words.Given as goal

abbrev pub invariant-loop-word : goal.invariant-loop-word
invariant-loop-word l = AnsweredSoFar l.index l.words l.word-index l.found
