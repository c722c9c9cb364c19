-- The words of a variable's value.
use Rattle.std.specs.Prelude.{ℕ, List, []}
use Rattle.std.specs.Option.{option_map_or}
use Rattle.std.specs.FinMap.{get}
use Rattle.bulk_base.specs.Words.{words_of}
use Rattle.port_vars.specs.Variables.{Vars}

-- the words of a variable; none where it is not set
unfoldable pub words_in : Vars → List ℕ → List (List ℕ)
words_in vars name = option_map_or words_of (get vars name) []
