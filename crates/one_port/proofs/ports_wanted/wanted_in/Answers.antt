use Rattle.std.proofs.Common.{◌∙◌, ap, Err}
use Rattle.one_port.proofs.NoList.{no_bad_list}
use Rattle.one_port.proofs.ports_wanted.wanted_in.Goals as goal

pub wanted_answer-requires : goal.wanted_answer-requires
wanted_answer-requires c = λ line e. no_bad_list c.args.index.now c.args.words.now line (c.in-Err.ensures.refused (λ h. cc) ∙ ap Err e)
