-- How a run ends: its answer, its status, what it printed, and which counts of faults moved
-- (docs/FORMATS.md, "Refusals").
use Rattle.std.specs.Prelude.{◌≡◌, ◌⊎◌, ◌≤◌, ℕ, Bool, true, List, [], ◌++◌, take, Result, Ok, Err}
use Rattle.outside.specs.Faults.{Rose}
use Rattle.command_words.specs.declared.asked.CommandName.TheVariants.{Bulk}
use Rattle.command_words.specs.Usage.{usage_of}
use Rattle.run_answer.specs.declared.answer.Answer.{Answer}
use Rattle.run_answer.specs.declared.answer.Answer.TheVariants.{Done, NoMemory}
use Rattle.run_answer.specs.declared.ending.Closed.{Closed}
use Rattle.run_answer.specs.AnswerLine as lines
use Rattle.run_answer.specs.Kind.{Kind, kind_of, printed, refused, sink_failed, tree_failed, store_failed, no_memory}
use Rattle.bulk_run.specs.declared.ending.Report.{Report}

-- the line of an answer in place of the lists
abbrev pub answer_line : Answer → List ℕ
answer_line answer = lines.answer_line (usage_of Bulk) answer

-- the lists that are to be printed, if any are
abbrev pub due_lists : Result Report Answer → List ℕ
due_lists (Ok report) = report.text
due_lists (Err answer) = []

-- the lists, or the line of what is refused
abbrev pub due_text : Result Report Answer → List ℕ
due_text (Ok report) = report.text
due_text (Err answer) = answer_line answer

abbrev pub due_end : Result Report Answer → Closed
due_end (Ok report) = record { status = report.status; answer = Done }
due_end (Err answer) = record { status = lines.answer_status answer; answer = answer }

-- answer, status and what is printed are those that are due
pub record EndsWhole (due : Result Report Answer) (before now : List ℕ) (closed : Closed) : Type 0 where
  pub end : closed ≡ due_end due
  pub text : now ≡ before ++ due_text due

-- whatever fails, what was printed is a beginning of the lists, then a beginning of one line: that
-- of the answer, where memory was not refused
pub record BeginsToPrint (lists before now : List ℕ) (answer : Answer) : Type 0 where
  pub count : ℕ
  pub shown : Answer
  pub more : ℕ
  pub text : now ≡ before ++ take count lists ++ take more (answer_line shown)
  pub told : (shown ≡ answer) ⊎ (answer ≡ NoMemory)

-- the exit status that goes with an answer: 0 or 1 with Done
abbrev pub has_status : Kind → ℕ → Type 0
has_status printed status = status ≤ 1
has_status kind status = status ≡ lines.status_by kind

abbrev pub HasStatus : Closed → Type 0
HasStatus closed = has_status (kind_of closed.answer) closed.status
