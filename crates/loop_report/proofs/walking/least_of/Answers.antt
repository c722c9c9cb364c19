use Rattle.std.proofs.Common.{sym, ◌∙◌}
use Rattle.std.proofs.lemmas.Iterator.{YieldsList-from_slice}
use Rattle.std.proofs.lemmas.Iterator.Consumers.{min_from_yields_List, YieldsList-from_copied}
use Rattle.std.proofs.lemmas.Iterator.Adapters.{option_map_id}
use Rattle.loop_report.proofs.walking.least_of.Goals as goal

pub returns : goal.returns
returns c = sym (option_map_id _) ∙ min_from_yields_List c.copied.result _ c.min.ensures.ran (YieldsList-from_copied (YieldsList-from_slice c.args.numbers.now cc))
