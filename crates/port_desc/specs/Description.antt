-- What a port's variables say of one node (docs/FORMATS.md, "A port's description").
use Rattle.std.specs.Prelude.{ℕ, List, [], codes}
use Rattle.std.specs.declared.option.Option.{Option}
use Rattle.std.specs.declared.result.Result.{Result}
use Rattle.std.specs.declared.result.Result.TheVariants.{Ok}
use Rattle.bulk_base.specs.declared.file.Switch.{Switch}
use Rattle.port_vars.specs.Reference.{Values}
use Rattle.port_vars.specs.Assignment.{◌>>=◌}
use Rattle.port_desc.specs.declared.fault.DescError.{DescError}
use Rattle.port_desc.specs.declared.entry.Entry.{Entry}
use Rattle.port_desc.specs.declared.description.Desc.{Desc}
use Rattle.port_desc.specs.Values.{names_on}
use Rattle.port_desc.specs.Naming.{name_for}
use Rattle.port_desc.specs.Dependencies.{entries_of}
use Rattle.port_desc.specs.Commands.{steps_for}
use Rattle.port_desc.specs.Reasons.{reason_for}

-- a node with its name and what it depends on: the rest has no fault
unfoldable pub desc_with : Values → Option (List ℕ) → List (List ℕ) → List ℕ → List Entry → Desc
desc_with values flavor on name entries = record {
  name = name;
  steps = steps_for values flavor on;
  entries = entries;
  ignore = reason_for values flavor [] (codes "IGNORE");
  forbidden = reason_for values flavor (codes "is forbidden: ") (codes "FORBIDDEN");
  broken = reason_for values flavor (codes "is marked as broken: ") (codes "BROKEN");
}

-- the node of a flavor with these options, or the first refusal: the name's checks come before those of the entries
unfoldable pub described : Values → Option (List ℕ) → List Switch → Result Desc DescError
described values flavor options = do
  name ← name_for values flavor
  entries ← entries_of values flavor (names_on options)
  Ok (desc_with values flavor (names_on options) name entries)
