use Rattle.moved_list.proofs.Bars.{IsText-front}
use Rattle.moved_list.proofs.entry.before_bar.Goals as goal

pub returns-clause-text : goal.returns-clause-text
returns-clause-text c = IsText-front c.args.text.now c.place_or_end.result c.place_or_end.ensures.place
