-- The variable files of a ports tree (docs/FORMATS.md, "The tree folder").
use Rattle.std.specs.Prelude.{ℕ, Bool, not, List, length, find, codes}
use Rattle.std.specs.Option.{option_map_or}
use Rattle.std.specs.declared.option.Option.TheVariants.{None, Some}
use Rattle.std.specs.declared.result.Result.{Result}
use Rattle.std.specs.declared.result.Result.TheVariants.{Ok, Err}
use Rattle.std.specs.FinMap.{get, empty}
use Rattle.bulk_base.specs.Names.{is_port_name}
use Rattle.outside.specs.Contents.{Contents}
use Rattle.port_vars.specs.Variables.{Vars, variables_of, list_variables_of}
use Rattle.port_vars.specs.Assignment.{◌>>=◌}
use Rattle.port_vars.specs.ValueWords.{words_in}
use Rattle.bulk_base.specs.Order.{in_order}
use Rattle.tree_index.specs.declared.fault.PortKind.TheVariants.{Absent, BadValue}
use Rattle.tree_index.specs.declared.fault.IndexError.{IndexError}
use Rattle.tree_index.specs.declared.fault.IndexError.TheVariants.{BadPort}
use Rattle.tree_index.specs.Faults.{vars_fault, refused_as}

-- the variables of a file, or its first fault
abbrev pub vars_in : List ℕ → List ℕ → Result Vars IndexError
vars_in path bytes = refused_as (vars_fault path) (variables_of bytes)

-- the variables of a file that has to be there
abbrev pub vars_at : Contents → List ℕ → Result Vars IndexError
vars_at content path = option_map_or (vars_in path) (get content path) (Err (BadPort path 0 Absent))

-- the variables of a file that may be absent, and then sets none
abbrev pub vars_if_there : Contents → List ℕ → Result Vars IndexError
vars_if_there content path = option_map_or (vars_in path) (get content path) (Ok empty)

-- the variables of a file that lists categories or ports, or its first fault
abbrev pub list_in : List ℕ → List ℕ → Result Vars IndexError
list_in path bytes = refused_as (vars_fault path) (list_variables_of bytes)

-- the same of such a file, which has to be there
abbrev pub list_at : Contents → List ℕ → Result Vars IndexError
list_at content path = option_map_or (list_in path) (get content path) (Err (BadPort path 0 Absent))

-- how many bytes a file has, none where it is not there
abbrev pub size_at : Contents → List ℕ → ℕ
size_at content path = option_map_or length (get content path) 0

abbrev pub is_no_port_name : List ℕ → Bool
is_no_port_name word = not (is_port_name word)

-- words that are names of categories or ports, in byte order, each once; else the file that lists them is at fault
abbrev pub names_among : List ℕ → List (List ℕ) → Result (List (List ℕ)) IndexError
names_among path words = elim (find is_no_port_name words) [
  | None ↦ Ok (in_order words)
  | Some word ↦ Err (BadPort path 0 (BadValue (codes "SUBDIR")))
]

-- what the SUBDIR of a file lists
abbrev pub listed_in : Contents → List ℕ → Result (List (List ℕ)) IndexError
listed_in content path = do
  vars ← list_at content path
  names_among path (words_in vars (codes "SUBDIR"))
