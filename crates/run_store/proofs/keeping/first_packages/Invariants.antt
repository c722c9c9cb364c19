use Rattle.std.proofs.Common.{take}
use Rattle.run_store.specs.First.{AreFirst}
use Rattle.run_store.proofs.keeping.first_packages.Given as goal

abbrev pub invariant-loop-made : goal.invariant-loop-made
invariant-loop-made l = AreFirst (take l.made-index l.packages) l.firsts
