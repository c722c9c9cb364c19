-- What is told of the words that moved (poudriere-bulk(8); docs/FORMATS.md, "Wanted ports").
use Rattle.std.specs.Prelude.{Bool, not, List, [], ◌∷◌, ◌++◌, filter, map, bytes_eq, if◌then◌else◌}
use Rattle.std.specs.List.{list_any}
use Rattle.bulk_model.specs.declared.reason.Notice.{Notice}
use Rattle.origin_flavor.specs.declared.answer.Answer.{Answer}

-- the notice of a word: the name that it came to
abbrev pub notice_of : Answer → Notice
notice_of answer = record { word = answer.word; name = answer.name }

abbrev pub has_other_word : Notice → Notice → Bool
has_other_word a b = not (bytes_eq a.word b.word)

-- of notices, the first of each word
abbrev pub each_word_once : List Notice → List Notice
each_word_once [] = []
each_word_once (notice ∷ more) = notice ∷ filter (has_other_word notice) (each_word_once more)

-- the notices of the words that MOVED led to another name, in their order
unfoldable pub notices_of : List Answer → List Notice
notices_of answers = each_word_once (map notice_of (filter (λ answer. answer.moved) answers))

-- notices with one more, unless its word has one
abbrev pub with_notice : List Notice → Notice → List Notice
with_notice notices notice = if list_any (λ other. bytes_eq notice.word other.word) notices then notices else notices ++ notice ∷ []
