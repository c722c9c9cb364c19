-- What poudriere.conf says (the comments of poudriere.conf; docs/FORMATS.md, "poudriere.conf").
use Rattle.std.specs.Prelude.{◌≡◌, ℕ, ◌+◌, false, nat_lt, List, [], ◌∷◌, length, codes, bytes_eq, find, reverse, unwrap_or, Option, Some, None, if◌then◌else◌}
use Rattle.std.specs.declared.result.Result.{Result}
use Rattle.std.specs.declared.result.Result.TheVariants.{Ok, Err}
use Rattle.std.specs.Option.{option_map, option_map_or, option_and_then}
use Rattle.std.specs.Str.Lines.{lines}
use Rattle.bulk_base.specs.Number.{number_of}
use Rattle.port_vars.specs.declared.fault.LineKind.TheVariants.{TooLong}
use Rattle.conf_file.specs.declared.fault.ConfKind.{ConfKind}
use Rattle.conf_file.specs.declared.fault.ConfKind.TheVariants.{Line}
use Rattle.conf_file.specs.declared.fault.ConfError.{ConfError}
use Rattle.conf_file.specs.declared.fault.ConfError.TheVariants.{BadLine, NoMemory as OutOfMemory}
use Rattle.conf_file.specs.declared.fault.LineError.{LineError}
use Rattle.conf_file.specs.declared.fault.LineError.TheVariants.{Bad, NoMemory}
use Rattle.conf_file.specs.declared.conf_reader.Conf.{Conf}
use Rattle.conf_file.specs.Lines.{Setting, said, mapped}

-- the settings of lines from a number on, in their order, or the first fault at its line: each line is judged by itself
abbrev pub settings_from : ℕ → List (List ℕ) → Result (List Setting) ConfError
settings_from number [] = Ok []
settings_from number (line ∷ rest) = elim (said line) [
  | Ok None ↦ settings_from (number + 1) rest
  | Ok (Some setting) ↦ mapped (λ more. setting ∷ more) (settings_from (number + 1) rest)
  | Err kind ↦ Err (BadLine number kind)
]

-- the value of a name: that of its last setting
abbrev pub last_value : List Setting → List ℕ → Option (List ℕ)
last_value settings name = option_map (λ s. s.value) (find (λ s. bytes_eq s.name name) (reverse settings))

-- what settings say
abbrev pub conf_by : List Setting → Conf
conf_by settings = record {
  jobs = option_and_then number_of (last_value settings (codes "PARALLEL_JOBS"));
  flavor_all = option_map_or (λ value. bytes_eq value (codes "yes")) (last_value settings (codes "FLAVOR_DEFAULT_ALL")) false;
  boost = unwrap_or (last_value settings (codes "PRIORITY_BOOST")) [];
}

-- what a file says, or its first fault; 0 stands for the whole file
abbrev pub conf_of : List ℕ → Result Conf ConfError
conf_of bytes =
    if nat_lt 65536 (length bytes) then Err (BadLine 0 (Line TooLong))
    else mapped conf_by (settings_from 1 (lines bytes))

-- what is said after one setting more
abbrev pub with_setting : Conf → Setting → Conf
with_setting conf setting = record {
  jobs = if bytes_eq setting.name (codes "PARALLEL_JOBS") then number_of setting.value else conf.jobs;
  flavor_all = if bytes_eq setting.name (codes "FLAVOR_DEFAULT_ALL") then bytes_eq setting.value (codes "yes") else conf.flavor_all;
  boost = if bytes_eq setting.name (codes "PRIORITY_BOOST") then setting.value else conf.boost;
}

-- the same after a line
abbrev pub with_line : Conf → Option Setting → Conf
with_line conf None = conf
with_line conf (Some setting) = with_setting conf setting

-- what a call leaves is what the definition says, or the answer is want of memory
abbrev pub Leaves : Result Conf ConfKind → Result (Unit {0}) LineError → Conf → Type 0
Leaves says (Ok _) new = says ≡ Ok new
Leaves says (Err (Bad kind)) new = says ≡ Err kind
Leaves says (Err NoMemory) new = Unit {0}

-- the same at a line's number
abbrev pub LeavesAt : ℕ → Result Conf ConfKind → Result (Unit {0}) ConfError → Conf → Type 0
LeavesAt number says (Ok _) new = says ≡ Ok new
LeavesAt number says (Err (BadLine line kind)) new = (line ≡ number) × (says ≡ Err kind)
LeavesAt number says (Err OutOfMemory) new = Unit {0}
