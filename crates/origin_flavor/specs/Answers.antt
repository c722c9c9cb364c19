-- What words come to in a ports tree: names that are there, or refusals (docs/FORMATS.md, "Wanted ports", "MOVED").
use Rattle.std.specs.Prelude.{ℕ, true, false, List, [], ◌∷◌, if◌then◌else◌}
use Rattle.std.specs.declared.result.Result.{Result}
use Rattle.std.specs.declared.result.Result.TheVariants.{Ok, Err}
use Rattle.port_name.specs.Forms.{is_node}
use Rattle.port_name.specs.Sets.{is_among}
use Rattle.port_vars.specs.Assignment.{◌>>=◌}
use Rattle.moved_list.specs.declared.chain.Follow.{Follow}
use Rattle.moved_list.specs.declared.chain.Follow.TheVariants as follow
use Rattle.moved_list.specs.Walk.{leads_to}
use Rattle.tree_index.specs.Index.{IndexView}
use Rattle.origin_flavor.specs.declared.fault.WantedError.{WantedError}
use Rattle.origin_flavor.specs.declared.fault.WantedError.TheVariants.{NoOrigin, NoFlavor, Gone, MovedLoop}
use Rattle.origin_flavor.specs.declared.answer.Answer.{Answer}
use Rattle.origin_flavor.specs.Words.{origin_in, name_in}

-- what is told of a word that leads to nothing: that its port has no such flavor, or that there is no such port
abbrev pub absence : List (List ℕ) → List ℕ → WantedError
absence names word = if is_among names (origin_in word) then NoFlavor word else NoOrigin word

-- what a word comes to by where MOVED leads its name, among the names that are there
abbrev pub answer_by : List (List ℕ) → List ℕ → Follow → Result Answer WantedError
answer_by names word follow.Here = Ok (record { word = word; name = name_in word; moved = false })
answer_by names word (follow.At name) = Ok (record { word = word; name = name; moved = true })
answer_by names word follow.Absent = Err (absence names word)
answer_by names word (follow.Gone reason) = Err (Gone word reason)
answer_by names word (follow.Circle origins) = Err (MovedLoop origins)

-- what a word comes to
abbrev pub answer_of : IndexView → List ℕ → Result Answer WantedError
answer_of index word =
    if is_node word then answer_by index.names word (leads_to index.names index.moved (name_in word)) else Err (NoOrigin word)

-- what words come to, one by one, or why the first refused word is refused
abbrev pub answers_of : IndexView → List (List ℕ) → Result (List Answer) WantedError
answers_of index [] = Ok []
answers_of index (word ∷ words) = do
  answer ← answer_of index word
  answers ← answers_of index words
  Ok (answer ∷ answers)
