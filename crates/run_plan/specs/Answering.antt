-- Which answers come of a command's words and of the number of rooms, whatever the tree tells
-- (docs/CAUSES.md).
use Rattle.std.specs.Prelude.{◌≡◌, ◌⊎◌, ℕ, Bool, true, false, ◌||◌, not, List, Option, Some, None, Result, Ok, Err}
use Rattle.outside.specs.Faults.{err_is}
use Rattle.command_words.specs.declared.asked.BulkWords.{BulkWords}
use Rattle.run_answer.specs.declared.answer.Answer.{Answer}
use Rattle.run_answer.specs.declared.answer.Answer.TheVariants.{Usage, Builders, NoMemory}
use Rattle.run_plan.specs.Words.{words_step}
use Rattle.run_plan.specs.Settings.{builders_step}
use Rattle.run_plan.specs.declared.planned.Planned.{Planned}

abbrev pub is_usage : Answer → Bool
is_usage Usage = true
is_usage _ = false

abbrev pub lacks_rooms : Answer → Bool
lacks_rooms (Builders asked had) = true
lacks_rooms _ = false

-- an answer that no file decides
abbrev pub is_of_command : Answer → Bool
is_of_command answer = is_usage answer || lacks_rooms answer

-- a result against what the words ask for: Usage exactly where they are no words of `bulk`
abbrev pub AnswersWords : {X : Type 0} → Result BulkWords Answer → Result X Answer → Type 0
AnswersWords (Ok asked) result = err_is is_usage result ≡ false
AnswersWords (Err due) result = (result ≡ Err Usage) ⊎ (result ≡ Err NoMemory)

-- builders are counted against rooms where something is to be built in them
abbrev pub may_lack : Option ℕ → Bool → Bool
may_lack None dry_run = false
may_lack (Some rooms) dry_run = not dry_run

abbrev pub counts_rooms : Option ℕ → Result BulkWords Answer → Bool
counts_rooms rooms (Ok asked) = may_lack rooms asked.dry_run
counts_rooms rooms (Err due) = false

-- what is planned is what the words ask for, with builders for whom there are rooms
pub record IsAskedBy (words : List (List ℕ)) (rooms : Option ℕ) (planned : Planned) : Type 0 where
  pub asked : BulkWords
  pub read : words_step words ≡ Ok asked
  pub clean : planned.clean ≡ asked.clean
  pub dry : planned.dry_run ≡ asked.dry_run
  pub enough : builders_step rooms planned.dry_run planned.builders ≡ Ok planned.builders
