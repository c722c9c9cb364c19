use Rattle.plan_maker.proofs.Matching.{match_is}
use Rattle.plan_maker.proofs.boost.is_match.Goals as goal

pub returns : goal.returns
returns c = match_is c.matches.result c.args.pattern.now c.args.name.now c.matches.ensures
