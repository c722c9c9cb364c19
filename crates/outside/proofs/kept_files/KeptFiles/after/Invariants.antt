use Rattle.std.proofs.Common.{◌≡◌, drop}
use Rattle.outside.specs.Changes.{replayed}
use Rattle.outside.proofs.kept_files.KeptFiles.after.Given as goal

abbrev pub invariant-loop-change : goal.invariant-loop-change
invariant-loop-change l = replayed (drop l.change-index l.change-items) l.files ≡ replayed l.change-items l.self.first
