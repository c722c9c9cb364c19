-- When an inner step answers a refusal.
use Rattle.std.specs.Prelude.{◌≡◌, ◌⊎◌, ◌==◌, Bool, true, false, List, [], ◌∷◌, Option, Some, None, Result, Ok, Err}
use Rattle.one_port.specs.declared.answer.Answer.{Answer}
use Rattle.one_port.specs.declared.answer.Answer.TheVariants.{Usage, Builders, NoMemory}
use Rattle.one_port.specs.Kind.{Kind, kind_of, printed, bad_words, bad_tree, not_served, tree_failed, room_failed, sink_failed, no_memory}
use Rattle.one_port.specs.Causes.{is_refusal, blames_tree, blames_store}

-- a step gives its value only where nothing is refused, and a refusal only where that one is the first
abbrev pub Decides : {X : Type 0} → Option Answer → Result X Answer → Type 0
Decides refused (Ok x) = refused ≡ None
Decides refused (Err answer) = is_refusal answer ≡ true → refused ≡ Some answer

-- a step gives just the value that it has to give, and a refusal only where that one has to be given
abbrev pub Tells : {X : Type 0} → Result X Answer → Result X Answer → Type 0
Tells due (Ok x) = due ≡ Ok x
Tells due (Err answer) = is_refusal answer ≡ true → due ≡ Err answer

-- what an inner step may answer: not that all is done, not a fault of the sink, and of the rooms only the first
abbrev pub comes_inside : Kind → Bool
comes_inside printed = false
comes_inside (room_failed builder) = builder == 0
comes_inside sink_failed = false
comes_inside _ = true

abbrev pub is_inner : Answer → Bool
is_inner answer = comes_inside (kind_of answer)

abbrev pub IsInner : {X : Type 0} → Result X Answer → Type 0
IsInner (Ok x) = Unit {0}
IsInner (Err answer) = is_inner answer ≡ true

-- what reading the tree may answer: its refusal, a file that is not served yet, its fault, or want of memory
abbrev pub comes_of_reading : Kind → Bool
comes_of_reading bad_tree = true
comes_of_reading not_served = true
comes_of_reading tree_failed = true
comes_of_reading no_memory = true
comes_of_reading _ = false

abbrev pub is_of_reading : Answer → Bool
is_of_reading answer = comes_of_reading (kind_of answer)

abbrev pub IsOfReading : {X : Type 0} → Result X Answer → Type 0
IsOfReading (Ok x) = Unit {0}
IsOfReading (Err answer) = is_of_reading answer ≡ true

-- a run's answer against the first refusal: nothing is refused where there is none; where there is one it is answered,
-- unless the tree or the store failed or memory was refused
abbrev pub EndsAs : Option Answer → Answer → Type 0
EndsAs None answer = is_refusal answer ≡ false
EndsAs (Some first) answer = (answer ≡ first) ⊎ ((blames_tree answer ≡ true) ⊎ ((blames_store answer ≡ true) ⊎ (answer ≡ NoMemory)))

-- the same of a run before it prints
abbrev pub RunEndsAs : {X : Type 0} → Option Answer → Result X Answer → Type 0
RunEndsAs refused (Ok x) = refused ≡ None
RunEndsAs refused (Err answer) = EndsAs refused answer

-- an answer that the words alone decide
abbrev pub comes_of_words : Kind → Bool
comes_of_words bad_words = true
comes_of_words _ = false

abbrev pub is_of_words : Answer → Bool
is_of_words answer = comes_of_words (kind_of answer)

-- the same of the words and the tree
abbrev pub comes_of_tree : Kind → Bool
comes_of_tree bad_words = true
comes_of_tree bad_tree = true
comes_of_tree _ = false

abbrev pub is_of_tree : Answer → Bool
is_of_tree answer = comes_of_tree (kind_of answer)

-- a refusal was answered, or memory was refused for its line
abbrev pub IsRefused : Answer → Answer → Type 0
IsRefused first answer = (answer ≡ first) ⊎ (answer ≡ NoMemory)

-- a run's answer against what its words ask for, whatever the objects tell: Usage exactly where they are no command
abbrev pub AnswersWords : {X : Type 0} → Option X → Answer → Type 0
AnswersWords None answer = IsRefused Usage answer
AnswersWords (Some asked) answer = is_of_words answer ≡ false

-- the same where there is no room: no command has a builder
abbrev pub AnswersRoomless : {X : Type 0} → Option X → Answer → Type 0
AnswersRoomless None answer = IsRefused Usage answer
AnswersRoomless (Some asked) answer = IsRefused (Builders 1 0) answer

-- the same over some rooms
abbrev pub AnswersWordsOver : {R X : Type 0} → List R → Option X → Answer → Type 0
AnswersWordsOver [] asked answer = AnswersRoomless asked answer
AnswersWordsOver (room ∷ rooms) asked answer = AnswersWords asked answer

-- a run's answer against the first refusal of its words and its tree, whatever the store tells
abbrev pub EndsInTree : Option Answer → Answer → Type 0
EndsInTree None answer = is_of_tree answer ≡ false
EndsInTree (Some first) answer = (answer ≡ first) ⊎ ((blames_tree answer ≡ true) ⊎ (answer ≡ NoMemory))

-- the same of a run before it prints
abbrev pub RunEndsInTree : {X : Type 0} → Option Answer → Result X Answer → Type 0
RunEndsInTree refused (Ok x) = refused ≡ None
RunEndsInTree refused (Err answer) = EndsInTree refused answer
