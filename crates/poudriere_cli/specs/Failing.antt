-- What a failed call of the system is to an adapter.
use Rattle.std.specs.Prelude.{◌≡◌, ◌↔◌}
use Rattle.std.specs.declared.io.ErrorKind.{ErrorKind}
use Rattle.std.specs.declared.io.ErrorKind.TheVariants.{OutOfMemory}
use Rattle.outside.specs.declared.outer.Outer.{Outer}
use Rattle.outside.specs.declared.outer.Outer.TheVariants.{NoMemory}

-- want of memory exactly where the system says so, and else a fault
abbrev pub IsOuterOf : ErrorKind → Outer → Type 0
IsOuterOf kind outer = outer ≡ NoMemory ↔ kind ≡ OutOfMemory
