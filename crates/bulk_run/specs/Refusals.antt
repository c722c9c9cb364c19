-- When a run answers a refusal, whatever its objects tell (docs/CAUSES.md).
use Rattle.std.specs.Prelude.{◌≡◌, ◌⊎◌, Bool, true, false, Result, Ok, Err}
use Rattle.std.specs.Result.{is_ok}
use Rattle.command_words.specs.declared.asked.BulkWords.{BulkWords}
use Rattle.run_answer.specs.declared.answer.Answer.{Answer}
use Rattle.run_answer.specs.declared.answer.Answer.TheVariants.{Usage, NoMemory}
use Rattle.run_answer.specs.Kind.{Kind, kind_of, printed, refused, tree_failed, store_failed, sink_failed, no_memory, is_refusal}
use Rattle.run_plan.specs.Answering.{is_usage}
use Rattle.run_store.specs.Told.{comes_of_loading}

-- a dry run blames none but the objects that it has
abbrev pub comes_of_dry_run : Kind → Bool
comes_of_dry_run printed = true
comes_of_dry_run refused = true
comes_of_dry_run tree_failed = true
comes_of_dry_run store_failed = true
comes_of_dry_run sink_failed = true
comes_of_dry_run no_memory = true
comes_of_dry_run _ = false

abbrev pub is_of_dry_run : Answer → Bool
is_of_dry_run answer = comes_of_dry_run (kind_of answer)

-- the words were not read to their end, or the tree was not: it failed, or memory was refused
abbrev pub cuts_planning : Kind → Bool
cuts_planning tree_failed = true
cuts_planning no_memory = true
cuts_planning _ = false

-- the same of words, tree and store
abbrev pub cuts_reading : Kind → Bool
cuts_reading store_failed = true
cuts_reading kind = cuts_planning kind

-- what is due is answered, unless reading was cut short; where nothing is refused no refusal is
abbrev pub EndsAs : {X : Type 0} → Result X Answer → Answer → Type 0
EndsAs (Ok x) answer = is_refusal answer ≡ false
EndsAs (Err due) answer = (answer ≡ due) ⊎ (cuts_reading (kind_of answer) ≡ true)

-- the same of the plan alone: behind a plan nothing but what the store holds is refused
abbrev pub EndsByPlan : {X : Type 0} → Result X Answer → Answer → Type 0
EndsByPlan (Ok plan) answer = is_refusal answer ≡ true → comes_of_loading answer ≡ true
EndsByPlan (Err due) answer = (answer ≡ due) ⊎ (cuts_planning (kind_of answer) ≡ true)

-- the same of the words alone: Usage exactly where they are no words of `bulk`
abbrev pub EndsByWords : Result BulkWords Answer → Answer → Type 0
EndsByWords (Ok asked) answer = is_usage answer ≡ false
EndsByWords (Err due) answer = (answer ≡ Usage) ⊎ (answer ≡ NoMemory)

-- the same of a run before it prints, which has a report only where all that is due is one
abbrev pub FindsByPlan : {X Y : Type 0} → Result X Answer → Result Y Answer → Type 0
FindsByPlan due (Ok report) = is_ok due ≡ true
FindsByPlan due (Err answer) = EndsByPlan due answer

-- what such a run may answer before it prints
abbrev pub comes_of_finding : Kind → Bool
comes_of_finding refused = true
comes_of_finding kind = cuts_reading kind

abbrev pub IsOfFinding : {X : Type 0} → Result X Answer → Type 0
IsOfFinding (Ok report) = Unit {0}
IsOfFinding (Err answer) = comes_of_finding (kind_of answer) ≡ true

-- what the printing of lists may answer
abbrev pub comes_of_printing : Kind → Bool
comes_of_printing printed = true
comes_of_printing sink_failed = true
comes_of_printing no_memory = true
comes_of_printing _ = false

abbrev pub is_of_printing : Answer → Bool
is_of_printing answer = comes_of_printing (kind_of answer)
