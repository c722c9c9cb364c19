use Rattle.std.proofs.Common.{◌≡◌, take}
use Rattle.clap.specs.Walk.{texts}
use Rattle.command_words.specs.Texts.{HaveTextBytes}
use Rattle.command_words.proofs.command.strings_of.Given as goal

abbrev pub invariant-loop-word : goal.invariant-loop-word
invariant-loop-word l = record {
  same : texts l.strings.items ≡ take l.word-index l.words;
  form : HaveTextBytes (take l.word-index l.words);
}
