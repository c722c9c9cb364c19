-- What a command wants of a ports tree (poudriere-bulk(8); docs/FORMATS.md, "Wanted ports").
use Rattle.std.specs.Prelude.{ℕ, Bool, List}
use Rattle.std.specs.declared.option.Option.{Option}
use Rattle.std.specs.declared.result.Result.{Result}
use Rattle.std.specs.declared.result.Result.TheVariants.{Ok}
use Rattle.port_vars.specs.Assignment.{◌>>=◌}
use Rattle.tree_index.specs.Index.{IndexView}
use Rattle.origin_flavor.specs.declared.fault.WantedError.{WantedError}
use Rattle.origin_flavor.specs.declared.answer.Answer.{Answer}
use Rattle.origin_flavor.specs.declared.selection.Wanted.{Wanted}
use Rattle.origin_flavor.specs.ListFile.{wanted_words}
use Rattle.origin_flavor.specs.Answers.{answers_of}
use Rattle.origin_flavor.specs.Nodes.{wanted_numbers}
use Rattle.origin_flavor.specs.Notices.{notices_of}

-- what words that are there come to
abbrev pub wanted_by : IndexView → Bool → Bool → List Answer → Wanted
wanted_by index all every_flavor answers =
    record { nodes = wanted_numbers all every_flavor answers index.nodes; notices = notices_of answers }

-- what a command wants, by its list file, its words, and whether it asks for all nodes or for every flavor; or the first bad
-- line of the list file, or why the first refused word is refused
unfoldable pub wanted_of : IndexView → Option (List ℕ) → List (List ℕ) → Bool → Bool → Result Wanted WantedError
wanted_of index list words all every_flavor = do
  asked ← wanted_words list words
  answers ← answers_of index asked
  Ok (wanted_by index all every_flavor answers)
