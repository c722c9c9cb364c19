use Rattle.std.proofs.Common.{◌≡◌, ◌++◌, take}
use Rattle.bulk_base.proofs.copying.add_copies.Given as goal

abbrev pub invariant-loop-text : goal.invariant-loop-text
invariant-loop-text l = l.found ≡ l.fn.found ++ take l.text-index l.texts
