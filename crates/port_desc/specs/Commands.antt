-- The commands of a port's phases (docs/FORMATS.md, "A port's description").
use Rattle.std.specs.Prelude.{ℕ, Bool, not, ◌==◌, ◌-◌, List, [], ◌∷◌, ◌++◌, length, take, filter, slice_index_or, bytes_eq, codes}
use Rattle.std.specs.declared.option.Option.{Option}
use Rattle.std.specs.List.{slice_split}
use Rattle.bulk_model.specs.declared.steps.Steps.{Steps}
use Rattle.port_vars.specs.Reference.{Values}
use Rattle.port_desc.specs.Values.{value_for, words_of_value, words_by_options}

-- a command has a word
abbrev pub is_command : List (List ℕ) → Bool
is_command command = not (length command == 0)

-- the commands in words: what stands between the words `;`
abbrev pub commands_of : List (List ℕ) → List (List (List ℕ))
commands_of words = filter is_command (slice_split (λ word. bytes_eq word (codes ";")) words)

-- the commands of a variable for a flavor
abbrev pub commands_for : Values → Option (List ℕ) → List ℕ → List (List (List ℕ))
commands_for values flavor name = commands_of (words_of_value (value_for values flavor name))

-- commands with words put at the end of the last; where there is no command, the words make one
abbrev pub with_words : List (List (List ℕ)) → List (List ℕ) → List (List (List ℕ))
with_words commands words =
    let before = length commands - 1 in
    take before commands ++ filter is_command ((slice_index_or commands before [] ++ words) ∷ [])

-- the commands that configure, with a flavor and with some options on: those of DO_CONFIGURE, the last with the options' words
abbrev pub configure_for : Values → Option (List ℕ) → List (List ℕ) → List (List (List ℕ))
configure_for values flavor on = with_words (commands_for values flavor (codes "DO_CONFIGURE")) (words_by_options values on (codes "CONFIGURE_ON"))

-- the commands of the five phases, with a flavor and with some options on
unfoldable pub steps_for : Values → Option (List ℕ) → List (List ℕ) → Steps
steps_for values flavor on = record {
  extract = commands_for values flavor (codes "DO_EXTRACT");
  patch = commands_for values flavor (codes "DO_PATCH");
  configure = configure_for values flavor on;
  build = commands_for values flavor (codes "DO_BUILD");
  stage = commands_for values flavor (codes "DO_STAGE");
}
