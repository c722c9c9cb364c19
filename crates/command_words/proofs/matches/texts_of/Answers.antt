use Rattle.command_words.proofs.Values.{each_has_text_bytes}
use Rattle.command_words.proofs.matches.texts_of.Goals as goal

pub text_of-requires : goal.text_of-requires
text_of-requires c = each_has_text_bytes c.args.values.now c.loop-value.value-index _ c.requires c.loop-value-test.true
