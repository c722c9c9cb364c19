-- Which counts of faults moved, by the answer of a run (docs/CAUSES.md).
use Rattle.std.specs.Prelude.{◌≡◌, ◌≤◌, ℕ, Bool, true, false, not, ◌||◌}
use Rattle.outside.specs.Faults.{Rose}
use Rattle.run_answer.specs.declared.answer.Answer.{Answer}
use Rattle.run_answer.specs.Kind.{Kind, kind_of, printed, sink_failed, no_memory}

abbrev pub is_printed : Kind → Bool
is_printed printed = true
is_printed _ = false

abbrev pub is_done : Answer → Bool
is_done answer = is_printed (kind_of answer)

abbrev pub is_sink_failure : Kind → Bool
is_sink_failure sink_failed = true
is_sink_failure _ = false

abbrev pub blames_sink : Answer → Bool
blames_sink answer = is_sink_failure (kind_of answer)

abbrev pub is_want_of_memory : Kind → Bool
is_want_of_memory no_memory = true
is_want_of_memory _ = false

-- an answer after which an object that it does not blame has the count that it had: memory may be
-- refused for the line of a fault
abbrev pub spares : (Answer → Bool) → Answer → Bool
spares blames answer = not (blames answer || is_want_of_memory (kind_of answer))

-- a count of faults by an answer that blames its object or not, and says that it stayed or not
pub record IsCounted (before now : ℕ) (blamed stayed : Bool) : Type 0 where
  pub later : before ≤ now
  pub rose : blamed ≡ true → Rose before now
  pub kept : stayed ≡ true → now ≡ before

-- no count of the three rose
pub record HaveNotRisen (tree_old tree_new store_old store_new sink_old sink_new : ℕ) : Type 0 where
  pub tree : Rose tree_old tree_new → ⊥
  pub store : Rose store_old store_new → ⊥
  pub sink : Rose sink_old sink_new → ⊥
