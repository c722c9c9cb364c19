use Rattle.std.proofs.Common.{◌<◌, ◌∙◌, sym, length, None, arith}
use Rattle.std.proofs.lemmas.List.{get_or_read}
use Rattle.stale_check.proofs.marks.mark_at.Goals as goal

pub returns-in-Some-clause-mark : goal.returns-in-Some-clause-mark
returns-in-Some-clause-mark c =
    let within : c.args.at < length c.args.known.now.items = omega (arith, c.requires.within, c.requires.known.size) in
    c.requires.known.each c.args.at c.in-Some.digest (sym (get_or_read c.args.known.now.items c.args.at c.index.result.now within c.index.ensures None) ∙ c.in-Some.is)
