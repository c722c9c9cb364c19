use Rattle.std.proofs.Common.{◌∙◌}
use Rattle.std.proofs.lemmas.Result.{IfOk-weaker}
use Rattle.command_words.proofs.Refused.{chosen_item, usage_where_refused}
use Rattle.command_words.proofs.command.read_words.Goals as goal

pub returns-in-Some-clause-usage : goal.returns-in-Some-clause-usage
returns-in-Some-clause-usage c =
    let chosen = chosen_item c.args.words.now c.command-item.result c.in-Some.flags c.in-len1-up.len_at_least c.command-item.is c.in-Some.ensures in
    IfOk-weaker c.read_flags.result _ _ (λ found is. usage_where_refused c.args.words.now found (is ∙ chosen)) c.read_flags.ensures
