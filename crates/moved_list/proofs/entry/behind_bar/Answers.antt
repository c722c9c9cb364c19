use Rattle.moved_list.proofs.Bars.{IsText-back}
use Rattle.moved_list.proofs.entry.behind_bar.Goals as goal

pub returns-then-place-text-clause-text : goal.returns-then-place-text-clause-text
returns-then-place-text-clause-text c = IsText-back c.args.text.now c.place_or_end-place.result c.place_or_end-place.ensures.place
