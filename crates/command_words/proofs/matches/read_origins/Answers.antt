use Rattle.std.proofs.Common.{◌∙◌, Some, None, codes}
use Rattle.std.proofs.lemmas.Result.{IfOk-weaker}
use Rattle.clap.specs.Matches.{found_of}
use Rattle.clap.specs.Walk.{texts}
use Rattle.command_words.proofs.Values.{origins_by_rows, values_are_texts}
use Rattle.command_words.proofs.matches.read_origins.Goals as goal

pub texts_of-requires : goal.texts_of-requires
texts_of-requires c = values_are_texts (found_of c.args.matches.now) (codes "origins") (texts c.in-Some.values.now) c.requires c.in-Some.ensures

pub returns-in-Some : goal.returns-in-Some
returns-in-Some c =
    let origins = origins_by_rows (found_of c.args.matches.now) (Some (texts c.in-Some.values.now)) c.in-Some.ensures in
    IfOk-weaker c.texts_of.result _ _ (λ found is. is ∙ origins) c.texts_of.ensures

pub returns-in-None : goal.returns-in-None
returns-in-None c = c.new.ensures ∙ origins_by_rows (found_of c.args.matches.now) None c.in-None.ensures
