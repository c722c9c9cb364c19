-- What the reading of a store and of recipes may answer (docs/FORMATS.md, "Refusals").
use Rattle.std.specs.Prelude.{◌≡◌, Bool, true, false, Result, Ok, Err}
use Rattle.std.specs.Result.{is_ok}
use Rattle.pkg_store.specs.declared.fault.StoreError.{StoreError}
use Rattle.pkg_store.specs.declared.fault.StoreError.TheVariants as store
use Rattle.run_answer.specs.declared.answer.Answer.{Answer}
use Rattle.run_answer.specs.declared.answer.Answer.TheVariants.{Limit, StoreFault, TreeFault, NoMemory}
use Rattle.run_answer.specs.Kind.{is_refusal}

-- a refusal of the store's reading
abbrev pub load_answer : StoreError → Answer
load_answer store.Fault = StoreFault
load_answer (store.Limit which count) = Limit which count
load_answer store.NoMemory = NoMemory

-- a result refuses just what has to be refused
abbrev pub Refuses : {X Y : Type 0} → Result X Answer → Result Y Answer → Type 0
Refuses due (Ok y) = is_ok due ≡ true
Refuses due (Err answer) = is_refusal answer ≡ true → due ≡ Err answer

-- ---- what is answered, whatever store and tree are

abbrev pub comes_of_loading : Answer → Bool
comes_of_loading (Limit which count) = true
comes_of_loading StoreFault = true
comes_of_loading NoMemory = true
comes_of_loading _ = false

abbrev pub comes_of_recipes : Answer → Bool
comes_of_recipes TreeFault = true
comes_of_recipes NoMemory = true
comes_of_recipes _ = false

abbrev pub comes_of_store : Answer → Bool
comes_of_store TreeFault = true
comes_of_store answer = comes_of_loading answer

-- an error is one that passes a test
abbrev pub IsOf : {X : Type 0} → (Answer → Bool) → Result X Answer → Type 0
IsOf test (Ok x) = Unit {0}
IsOf test (Err answer) = test answer ≡ true

abbrev pub IsOfLoading : {X : Type 0} → Result X Answer → Type 0
IsOfLoading result = IsOf comes_of_loading result

abbrev pub IsOfRecipes : {X : Type 0} → Result X Answer → Type 0
IsOfRecipes result = IsOf comes_of_recipes result

abbrev pub IsOfStore : {X : Type 0} → Result X Answer → Type 0
IsOfStore result = IsOf comes_of_store result
