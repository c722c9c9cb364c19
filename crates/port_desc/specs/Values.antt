-- The values of a port's variables (docs/FORMATS.md, "A port's description").
use Rattle.std.specs.Prelude.{ℕ, List, [], ◌∷◌, ◌++◌, map, filter, if◌then◌else◌}
use Rattle.std.specs.declared.option.Option.{Option}
use Rattle.std.specs.declared.option.Option.TheVariants.{None, Some}
use Rattle.std.specs.Option.{option_or, option_map_or}
use Rattle.std.specs.List.{flat_map}
use Rattle.bulk_base.specs.Words.{is_filled, words_of}
use Rattle.bulk_base.specs.declared.file.Switch.{Switch}
use Rattle.port_vars.specs.Reference.{Values}

-- an empty value counts as none
abbrev pub filled : Option (List ℕ) → Option (List ℕ)
filled None = None
filled (Some value) = if is_filled value then Some value else None

-- the value of a variable, none where it is not set or empty
abbrev pub value_of : Values → List ℕ → Option (List ℕ)
value_of values name = filled (values name)

-- the variable by which a flavor or an option changes another one: its own name, `_`, and that one's name
abbrev pub helper : List ℕ → List ℕ → List ℕ
helper owner name = owner ++ 95 ∷ name

-- the value of a variable for a flavor: that of the flavor's helper where it has one, else the variable's own
abbrev pub value_for : Values → Option (List ℕ) → List ℕ → Option (List ℕ)
value_for values None name = value_of values name
value_for values (Some flavor) name = option_or (value_of values (helper flavor name)) (value_of values name)

-- the words of a value, none where there is no value
abbrev pub words_of_value : Option (List ℕ) → List (List ℕ)
words_of_value value = option_map_or words_of value []

-- the words of a variable
abbrev pub words_in : Values → List ℕ → List (List ℕ)
words_in values name = words_of_value (value_of values name)

-- the names of the options that are on, in the list's order
abbrev pub names_on : List Switch → List (List ℕ)
names_on options = map (λ option. option.name) (filter (λ option. option.on) options)

-- the words of a variable's helpers for some options, one option after another
abbrev pub words_by_options : Values → List (List ℕ) → List ℕ → List (List ℕ)
words_by_options values on name = flat_map (λ option. words_in values (helper option name)) on

-- the words of a variable's helper for a flavor
abbrev pub words_by_flavor : Values → Option (List ℕ) → List ℕ → List (List ℕ)
words_by_flavor values flavor name = option_map_or (λ f. words_in values (helper f name)) flavor []
