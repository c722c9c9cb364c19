-- The words of a run: the first of its steps (poudriere-bulk(8); docs/FORMATS.md, "The words of a
-- command").
use Rattle.std.specs.Prelude.{ℕ, List, Result, Ok, Err}
use Rattle.command_words.specs.declared.asked.Asked.{Asked}
use Rattle.command_words.specs.declared.asked.Asked.TheVariants.{Bulk}
use Rattle.command_words.specs.declared.asked.BulkWords.{BulkWords}
use Rattle.command_words.specs.Asked.{asked_of}
use Rattle.run_answer.specs.declared.answer.Answer.{Answer}
use Rattle.run_answer.specs.declared.answer.Answer.TheVariants.{Usage}

-- `bulk` alone is served, whatever other command the words are
abbrev pub bulk_of : Asked → Result BulkWords Answer
bulk_of (Bulk words) = Ok words
bulk_of _ = Err Usage

-- step 1: what the words of `bulk` ask for
abbrev pub words_step : List (List ℕ) → Result BulkWords Answer
words_step words = bulk_of (asked_of words)
