-- Why a port is not built (Porter's Handbook, "Marking a Port Not Installable"; docs/FORMATS.md, "A port's description").
use Rattle.std.specs.Prelude.{ℕ, List, ◌++◌}
use Rattle.std.specs.declared.option.Option.{Option}
use Rattle.std.specs.Option.{option_map}
use Rattle.port_vars.specs.Reference.{Values}
use Rattle.port_desc.specs.Values.{value_for}

-- the text of a reason: some words, then the variable's value; none where the variable is not set
abbrev pub reason_for : Values → Option (List ℕ) → List ℕ → List ℕ → Option (List ℕ)
reason_for values flavor words name = option_map (λ value. words ++ value) (value_for values flavor name)
