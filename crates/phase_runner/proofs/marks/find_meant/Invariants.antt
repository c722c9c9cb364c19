use Rattle.std.proofs.Common.{◌≡◌, drop}
use Rattle.std.specs.List.{find}
use Rattle.phase_runner.specs.Marks.{is_meant}
use Rattle.phase_runner.proofs.marks.find_meant.Given as goal

abbrev pub invariant-loop-package : goal.invariant-loop-package
invariant-loop-package l = find (is_meant l.depend) (drop l.package-index l.packages) ≡ find (is_meant l.depend) l.packages
