-- What a run's answer says, behind what was found before it printed.
use Rattle.std.proofs.Common.{◌≡◌, false, Result, Ok, Err, ◌∙◌, ap, subst, sym, refl, inl, inr}
use Rattle.std.specs.Prelude.{◌⊎◌}
use Rattle.command_words.specs.declared.asked.BulkWords.{BulkWords}
use Rattle.run_answer.specs.declared.answer.Answer.{Answer}
use Rattle.run_answer.specs.declared.answer.Answer.TheVariants.{Usage, NoMemory}
use Rattle.run_plan.specs.Answering.{AnswersWords, is_usage}
use Rattle.bulk_run.specs.Refusals.{EndsByWords}

abbrev error_in : {X : Type 0} → Result X Answer → Answer
error_in (Ok x) = NoMemory
error_in (Err answer) = answer

-- what the words decide before a line is printed, they decide behind it
pub words_in_the_end : {X : Type 0} (due : Result BulkWords Answer) (found : Result X Answer) (answer final : Answer)
    → found ≡ Err answer → AnswersWords due found → (final ≡ answer) ⊎ (final ≡ NoMemory) → EndsByWords due final
words_in_the_end due (Ok report) answer final f h t = absurd (cc)
words_in_the_end (Ok asked) (Err found) answer final f h (inl e) =
    subst (λ a. is_usage a ≡ false) (ap error_in f ∙ sym e) h
words_in_the_end (Ok asked) (Err found) answer final f h (inr e) = subst (λ a. is_usage a ≡ false) (sym e) refl
words_in_the_end (Err due) (Err found) answer final f h (inr e) = inr e
words_in_the_end (Err due) (Err found) answer final f (inl h) (inl e) = inl (e ∙ sym (ap error_in f) ∙ ap error_in h)
words_in_the_end (Err due) (Err found) answer final f (inr h) (inl e) = inr (e ∙ sym (ap error_in f) ∙ ap error_in h)
