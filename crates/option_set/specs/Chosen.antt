-- The states of a port's options (Porter's Handbook, "Options"; docs/FORMATS.md).
use Rattle.std.specs.Prelude.{ℕ, List, map}
use Rattle.std.specs.declared.option.Option.{Option}
use Rattle.std.specs.declared.option.Option.TheVariants.{None, Some}
use Rattle.std.specs.Option.{option_or}
use Rattle.std.specs.declared.result.Result.{Result}
use Rattle.std.specs.declared.result.Result.TheVariants.{Ok, Err}
use Rattle.bulk_base.specs.declared.file.Switch.{Switch}
use Rattle.port_vars.specs.Variables.{Vars}
use Rattle.port_name.specs.Sets.{is_among}
use Rattle.option_set.specs.declared.fault.OptionError.{OptionError}
use Rattle.option_set.specs.declared.layers.Layers.{Layers}
use Rattle.option_set.specs.declared.defining.Defining.{Defining}
use Rattle.option_set.specs.Defined.{defining, options_of}
use Rattle.option_set.specs.Implied.{on_in}
use Rattle.option_set.specs.Refused.{words_refused, state_refused}

-- options with their states
abbrev pub switches : List (List ℕ) → List (List ℕ) → List Switch
switches options on = map (λ name. record { name = name; on = is_among on name }) options

-- a value, or the refusal
abbrev pub unless : {A : Type 0} → Option OptionError → A → Result A OptionError
unless None a = Ok a
unless (Some refusal) a = Err refusal

-- options with their states where these are on, or the first refusal of them
abbrev pub decided : Vars → Defining → List (List ℕ) → List (List ℕ) → Result (List Switch) OptionError
decided vars d options on = unless (state_refused vars d on) (switches options on)

-- options with their states, or the first refusal of those that are on
abbrev pub settled : Vars → Layers → Defining → List (List ℕ) → Result (List Switch) OptionError
settled vars layers d options = decided vars d options (on_in vars options layers)

-- the options that are defined with their states, or the first refusal
abbrev pub chosen_defined : Vars → Layers → Defining → Result (List Switch) OptionError
chosen_defined vars layers d =
    let options = options_of d in
    let on = on_in vars options layers in
    unless (option_or (words_refused vars d options) (state_refused vars d on)) (switches options on)

-- the options that a port defines with their states, or the first refusal
unfoldable pub chosen : Vars → Layers → Result (List Switch) OptionError
chosen vars layers = chosen_defined vars layers (defining vars)
