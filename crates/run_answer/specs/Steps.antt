-- What a step of a run answers (docs/DEFINITIONS.md, "The steps of a run").
use Rattle.std.specs.Prelude.{◌≡◌, true, Result, Ok, Err}
use Rattle.outside.specs.declared.outer.Outer.{Outer}
use Rattle.outside.specs.declared.outer.Outer.TheVariants as outer
use Rattle.run_answer.specs.declared.answer.Answer.{Answer}
use Rattle.run_answer.specs.declared.answer.Answer.TheVariants.{TreeFault, StoreFault, NoMemory}
use Rattle.run_answer.specs.Kind.{is_refusal, is_of_reading}

-- a step gives just the value that it has to give, and a refusal only where that one has to be
-- given
abbrev pub Tells : {X : Type 0} → Result X Answer → Result X Answer → Type 0
Tells due (Ok x) = due ≡ Ok x
Tells due (Err answer) = is_refusal answer ≡ true → due ≡ Err answer

-- a step that reads words and tree alone
abbrev pub IsOfReading : {X : Type 0} → Result X Answer → Type 0
IsOfReading (Ok x) = Unit {0}
IsOfReading (Err answer) = is_of_reading answer ≡ true

-- how a failed call of the tree is told
abbrev pub tree_answer : Outer → Answer
tree_answer outer.Fault = TreeFault
tree_answer outer.NoMemory = NoMemory

-- how a failed call of the store is told
abbrev pub store_answer : Outer → Answer
store_answer outer.Fault = StoreFault
store_answer outer.NoMemory = NoMemory
