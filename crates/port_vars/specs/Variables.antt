-- What a variable file means (docs/FORMATS.md, "Variable files").
use Rattle.std.specs.Prelude.{ℕ, not, nat_le, List, [], ◌∷◌, length, bytes_eq, if◌then◌else◌}
use Rattle.std.specs.declared.option.Option.{Option}
use Rattle.std.specs.declared.option.Option.TheVariants.{None, Some}
use Rattle.std.specs.declared.result.Result.{Result}
use Rattle.std.specs.declared.result.Result.TheVariants.{Ok, Err}
use Rattle.std.specs.Ordering.{nat_cmp}
use Rattle.std.specs.Cmp.Lexicographic.{slice_cmp}
use Rattle.std.specs.FinMap.{FinMap, empty, insert, get}
use Rattle.port_vars.specs.declared.fault.LineKind.{LineKind}
use Rattle.port_vars.specs.declared.fault.LineKind.TheVariants.{TooLong}
use Rattle.port_vars.specs.declared.fault.VarsError.{VarsError}
use Rattle.port_vars.specs.declared.fault.VarsError.TheVariants.{BadLine}
use Rattle.port_vars.specs.declared.joined.Line.{Line}
use Rattle.port_vars.specs.declared.limits.Limits.{Limits}
use Rattle.port_vars.specs.Joined.{joined}
use Rattle.port_vars.specs.Reference.{Values}
use Rattle.port_vars.specs.Assignment.{Assignment, value_by, said, mapped}

-- variables as a finite map from names to values
abbrev pub Vars : Type 0
Vars = FinMap (slice_cmp nat_cmp) (List ℕ)

-- the values of variables, by recursion from the last assignment, which stands first in the list
abbrev pub value_after : List Assignment → Values
value_after [] name = None
value_after (last ∷ above) name = if bytes_eq last.name name then Some (value_by (value_after above) last) else value_after above name

-- the same as a finite map: each assignment gives its variable its value
abbrev pub variables : List Assignment → Vars
variables [] = empty
variables (last ∷ above) = insert (variables above) last.name (value_by (value_after above) last)

-- variables after an assignment
abbrev pub after : Vars → Assignment → Vars
after vars by = insert vars by.name (value_by (get vars) by)

-- variables after a joined line
abbrev pub after_line : Vars → Option Assignment → Vars
after_line vars None = vars
after_line vars (Some by) = after vars by

-- a fault at a line; 0 stands for the whole file
abbrev pub at_line : ℕ → LineKind → VarsError
at_line line kind = BadLine line kind

-- the assignments of joined lines behind those of the lines above, the last first, or the first fault: what a line says
-- is read with the values that the assignments above give
abbrev pub assignments_from : Limits → List Assignment → List Line → Result (List Assignment) VarsError
assignments_from limits above [] = Ok above
assignments_from limits above (line ∷ rest) = elim (said limits (value_after above) line.text) [
  | Ok None ↦ assignments_from limits above rest
  | Ok (Some by) ↦ assignments_from limits (by ∷ above) rest
  | Err kind ↦ Err (at_line line.number kind)
]

-- the assignments of a file, the last first, or its first fault
unfoldable pub assignments : Limits → List ℕ → Result (List Assignment) VarsError
assignments limits bytes =
    if not (nat_le (length bytes) limits.file) then Err (at_line 0 TooLong)
    else assignments_from limits [] (joined bytes)

-- the variables of a file within limits, or its first fault
abbrev pub variables_within : Limits → List ℕ → Result Vars VarsError
variables_within limits bytes = mapped variables (assignments limits bytes)

-- the limits of files but those that list categories and ports
abbrev pub small : Limits
small = record { file = 65536; line = 8192; value = 8192 }

-- the limits of the files that list categories and ports
abbrev pub large : Limits
large = record { file = 1048576; line = 1048576; value = 1048576 }

-- the variables of a file, or its first fault
unfoldable pub variables_of : List ℕ → Result Vars VarsError
variables_of bytes = variables_within small bytes

-- the same of a file that lists categories or ports
unfoldable pub list_variables_of : List ℕ → Result Vars VarsError
list_variables_of bytes = variables_within large bytes

-- the values of variables, none where there is a fault
abbrev pub value_where : Result (List Assignment) VarsError → Values
value_where (Ok all) name = value_after all name
value_where (Err fault) name = None

-- the value of a name in a file within limits: what all its assignments give it
abbrev pub value_within : Limits → List ℕ → Values
value_within limits bytes name = value_where (assignments limits bytes) name

-- the value of a name in a file
unfoldable pub value_in : List ℕ → Values
value_in bytes name = value_within small bytes name

-- the same in a file that lists categories or ports
unfoldable pub list_value_in : List ℕ → Values
list_value_in bytes name = value_within large bytes name
