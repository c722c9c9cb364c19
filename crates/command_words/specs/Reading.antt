-- What clap makes of words, and what its matches say.
use Rattle.std.specs.Prelude.{Bool, false, List, [], Option, Some, None, unwrap_or, if◌then◌else◌, codes}
use Rattle.std.specs.Option.{option_map_or}
use Rattle.std.specs.Str.{bytes_eq}
use Rattle.clap.specs.Walk.{Row, Text, all_of, first_of, is_empty}
use Rattle.clap.specs.Simple.{App, matches_of}
use Rattle.clap.specs.Faults.{fault_of}

-- clap's own matches of words, of which the first is not looked at; nothing where clap's own reading has a fault
unfoldable pub read_by : App → List Text → Option (List Row)
read_by app words = if is_empty (fault_of app words) then Some (matches_of app words) else None

-- a flag stands in the words: clap gives it the value `true`
abbrev pub has_flag : Text → List Row → Bool
has_flag id rows = option_map_or (λ value. bytes_eq value (codes "true")) (first_of id rows) false

-- the words that are no flag, no option and no value of one
abbrev pub origins_of : List Row → List Text
origins_of rows = unwrap_or (all_of (codes "origins") rows) []
