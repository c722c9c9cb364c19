use Rattle.std.proofs.Common.{◌∙◌, Some, None, ap}
use Rattle.clap.specs.Matches.{found_of}
use Rattle.command_words.proofs.Values.{first_by_rows, value_is_text}
use Rattle.command_words.proofs.matches.value_of.Goals as goal

pub text_of-requires : goal.text_of-requires
text_of-requires c = value_is_text (found_of c.args.matches.now) c.args.id.now c.in-Some.value.now c.requires c.in-Some.ensures

pub returns-in_ok-text_of-in-Some : goal.returns-in_ok-text_of-in-Some
returns-in_ok-text_of-in-Some c =
    ap (λ t. Some t) c.in_ok-text_of-in-Some.ensures
    ∙ first_by_rows (found_of c.args.matches.now) c.args.id.now (Some c.in-Some.value.now) c.in-Some.ensures

pub returns-in-None : goal.returns-in-None
returns-in-None c = first_by_rows (found_of c.args.matches.now) c.args.id.now None c.in-None.ensures
