-- What the error of a tree in memory tells.
use Rattle.std.specs.Prelude.{ℕ, List, ⊤}
use Rattle.outside.specs.declared.mem_error.MemError.{MemError}
use Rattle.outside.specs.declared.mem_error.MemError.TheVariants.{NotFolder, NoMemory}

-- what is said of the path, where the error is that a path is a folder of another
abbrev pub IfNotFolder : (List ℕ → Type 0) → MemError → Type 0
IfNotFolder says (NotFolder path) = says path
IfNotFolder says NoMemory = ⊤
