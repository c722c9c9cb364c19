-- What becomes of a room that is filled.
use Rattle.std.specs.Prelude.{ℕ, List, Option, Some, None}
use Rattle.std.specs.FinMap.{empty}
use Rattle.outside.specs.Contents.{Contents}
use Rattle.root_clone.specs.declared.filled.Fill.{Fill}
use Rattle.root_clone.specs.declared.filled.Fill.TheVariants.{Ready, Conflict}

-- by the first file that has no place of its own
abbrev pub fill_of : Option (List ℕ) → Fill
fill_of None = Ready
fill_of (Some path) = Conflict path

-- a room that is ready is full, and one with a conflict stays empty
abbrev pub left_by : Fill → Contents → Contents
left_by Ready full = full
left_by (Conflict path) full = empty
