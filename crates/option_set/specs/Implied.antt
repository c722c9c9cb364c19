-- What options that are on turn on (Porter's Handbook, "Options"; docs/FORMATS.md).
use Rattle.std.specs.Prelude.{ℕ, zero, suc, List, ◌++◌, length, map, filter, codes}
use Rattle.std.specs.List.{flat_map}
use Rattle.bulk_base.specs.declared.file.Switch.{Switch}
use Rattle.port_vars.specs.Variables.{Vars}
use Rattle.port_name.specs.Sets.{is_among}
use Rattle.option_set.specs.declared.layers.Layers.{Layers}
use Rattle.option_set.specs.Layers.{asked}
use Rattle.port_vars.specs.ValueWords.{words_in}

-- the words of X_IMPLIES
abbrev pub implied_by : Vars → List ℕ → List (List ℕ)
implied_by vars option = words_in vars (option ++ codes "_IMPLIES")

-- what is on after some rounds: in each round, all that those that are on imply is turned on too
abbrev pub on_after : (List ℕ → List (List ℕ)) → List (List ℕ) → ℕ → List (List ℕ)
on_after implies begun zero = begun
on_after implies begun (suc rounds) = on_after implies begun rounds ++ flat_map implies (on_after implies begun rounds)

-- the names of the switches that are on
abbrev pub names_on : List Switch → List (List ℕ)
names_on switches = map (λ (switch : Switch). switch.name) (filter (λ (switch : Switch). switch.on) switches)

-- the options that the layers turn on
abbrev pub asked_on : Vars → List (List ℕ) → Layers → List (List ℕ)
asked_on vars options layers = names_on (asked options (words_in vars (codes "OPTIONS_DEFAULT")) layers)

-- the options that are on, in byte order: IMPLIES is applied as often as there are options
unfoldable pub on_in : Vars → List (List ℕ) → Layers → List (List ℕ)
on_in vars options layers = filter (is_among (on_after (implied_by vars) (asked_on vars options layers) (length options))) options
