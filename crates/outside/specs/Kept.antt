-- What a removal that succeeds leaves of the files of a store in memory.
use Rattle.std.specs.Prelude.{ℕ, List, MatchBool}
use Rattle.std.specs.FinMap.{contains_key}
use Rattle.outside.specs.Contents.{Contents}
use Rattle.outside.specs.Changes.{TookEffect, IsUnchanged}
use Rattle.outside.specs.declared.change.Change.{Change}
use Rattle.outside.specs.declared.change.Change.TheVariants.{Remove}

-- the file was removed if it was there, and else nothing changed
abbrev pub WasRemoved : List ℕ → Contents → Contents → List Change → List Change → Type 0
WasRemoved name before now told_before told_now =
    MatchBool (contains_key before name) (TookEffect (Remove name) before now told_before told_now) (IsUnchanged before now told_before told_now)
