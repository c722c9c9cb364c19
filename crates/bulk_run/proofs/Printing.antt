-- What was printed, whatever failed.
use Rattle.std.proofs.Common.{◌≡◌, ℕ, ◌≤◌, Bool, true, false, List, [], ◌++◌, length, take, Result, Ok, Err, ◌∙◌, ap, ap₂, sym, refl, inl, inr, arith}
use Rattle.std.specs.Prelude.{◌⊎◌, if◌then◌else◌}
use Rattle.std.specs.List.{list_any}
use Rattle.std.proofs.lemmas.List.{append-nil, take_all}
use Rattle.std.proofs.Math.Seq.{take-nil}
use Rattle.outside.specs.Outcomes.{Wrote}
use Rattle.bulk_model.specs.declared.results.Status.{Status}
use Rattle.bulk_model.specs.Lists.{exit_status, is_setback}
use Rattle.run_answer.specs.declared.answer.Answer.{Answer}
use Rattle.run_answer.specs.declared.answer.Answer.TheVariants.{Done, NoMemory}
use Rattle.bulk_run.specs.Ending.{BeginsToPrint, answer_line}

-- the line of an answer alone was written, or a beginning of it
pub line_begins : {X E : Type 0} (shown answer : Answer) (before now : List ℕ) (result : Result X E)
    → Wrote (answer_line shown) before now result → (shown ≡ answer) ⊎ (answer ≡ NoMemory) → BeginsToPrint [] before now answer
line_begins shown answer before now (Ok x) w t = record {
  count = 0;
  shown = shown;
  more = length (answer_line shown);
  text =
      w ∙ ap₂ (λ a b. a ++ b) (sym (append-nil before))
      (sym (take_all (length (answer_line shown)) (answer_line shown) (omega arith)));
  told = t;
}
line_begins shown answer before now (Err e) (more, w) t = record { count = 0; shown = shown; more = more; text = w ∙ ap (λ a. a ++ take more (answer_line shown)) (sym (append-nil before)); told = t }

-- lists were written whole
pub lists_begin : (lists bytes before now : List ℕ) → bytes ≡ lists → now ≡ before ++ bytes → BeginsToPrint lists before now Done
lists_begin lists bytes before now e w = record {
  count = length lists;
  shown = Done;
  more = 0;
  text =
      w ∙ ap (λ l. before ++ l) (e ∙ sym (take_all (length lists) lists (omega arith)))
      ∙ sym (append-nil (before ++ take (length lists) lists));
  told = inl refl;
}

-- a line was begun behind a beginning of lists
pub line_behind : (lists before between now : List ℕ) (count : ℕ) (answer : Answer)
    → between ≡ before ++ take count lists → BeginsToPrint [] between now answer → BeginsToPrint lists before now answer
line_behind lists before between now count answer e b = record {
  count = count;
  shown = b.shown;
  more = b.more;
  text =
      b.text ∙ ap (λ l. l ++ take b.more (answer_line b.shown))
      (ap (λ l. between ++ l) (take-nil b.count) ∙ append-nil between ∙ e);
  told = b.told;
}

-- a line was begun where no lists were
pub line_alone : (lists before now : List ℕ) (answer : Answer) → BeginsToPrint [] before now answer → BeginsToPrint lists before now answer
line_alone lists before now answer b = line_behind lists before before now 0 answer (sym (append-nil before)) b

-- of a run that ended the exit status is 0 or 1
one_or_none : (b : Bool) → (if b then 1 else 0) ≤ 1
one_or_none true = omega arith
one_or_none false = omega arith

pub small_exit_status : (statuses : List Status) → exit_status statuses ≤ 1
small_exit_status statuses = one_or_none (list_any is_setback statuses)

-- an answer that stayed, or became want of memory
pub kept_or_changed : {answer final : Answer} → (final ≡ answer) ⊎ (final ≡ NoMemory) → (answer ≡ final) ⊎ (final ≡ NoMemory)
kept_or_changed (inl e) = inl (sym e)
kept_or_changed (inr e) = inr e
