-- make.conf (make.conf(5), bsd.options.mk; docs/FORMATS.md).
use Rattle.std.specs.Prelude.{ℕ, Bool, false, not, ◌==◌, List, ◌++◌, length, codes}
use Rattle.std.specs.Option.{option_map_or}
use Rattle.std.specs.declared.result.Result.{Result}
use Rattle.std.specs.declared.result.Result.TheVariants.{Ok, Err}
use Rattle.std.specs.FinMap.{get}
use Rattle.port_vars.specs.declared.fault.VarsError.{VarsError}
use Rattle.port_vars.specs.declared.fault.VarsError.TheVariants.{BadLine as BadVars, NoMemory as NoMemoryVars}
use Rattle.port_vars.specs.Variables.{Vars, variables_of}
use Rattle.port_name.specs.declared.place.Origin.{Origin}
use Rattle.option_set.specs.declared.layers.Layers.{Layers}
use Rattle.port_vars.specs.ValueWords.{words_in}
use Rattle.conf_file.specs.declared.fault.ConfKind.TheVariants.{Line}
use Rattle.conf_file.specs.declared.fault.ConfError.{ConfError}
use Rattle.conf_file.specs.declared.fault.ConfError.TheVariants.{BadLine, NoMemory}
use Rattle.conf_file.specs.declared.make.MakeConf.{MakeConf}

-- a fault of a variable file as one of settings
abbrev pub conf_fault : VarsError → ConfError
conf_fault (BadVars line kind) = BadLine line (Line kind)
conf_fault NoMemoryVars = NoMemory

-- a variable is set and not empty
abbrev pub is_set : Vars → List ℕ → Bool
is_set vars name = option_map_or (λ value. not (length value == 0)) (get vars name) false

abbrev pub make_where : Result Vars VarsError → Result MakeConf ConfError
make_where (Ok vars) = Ok (record { vars = vars; try_broken = is_set vars (codes "TRYBROKEN") })
make_where (Err fault) = Err (conf_fault fault)

-- what make.conf says, or its first fault
abbrev pub make_of : List ℕ → Result MakeConf ConfError
make_of bytes = make_where (variables_of bytes)

-- the variable by which make.conf speaks of one port: CATEGORY_PORT and an ending
abbrev pub port_variable : Origin → List ℕ → List ℕ
port_variable origin ending = ((origin.category ++ codes "_") ++ origin.port) ++ ending

-- the layers above a port's default
abbrev pub layers_of : Vars → Origin → Vars → Layers
layers_of make origin file = record {
  global_set = words_in make (codes "OPTIONS_SET");
  global_unset = words_in make (codes "OPTIONS_UNSET");
  port_set = words_in make (port_variable origin (codes "_SET"));
  port_unset = words_in make (port_variable origin (codes "_UNSET"));
  file_set = words_in file (codes "OPTIONS_FILE_SET");
  file_unset = words_in file (codes "OPTIONS_FILE_UNSET");
}
