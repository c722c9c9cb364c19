-- A table as it is made.
use Rattle.std.proofs.Common.{◌≡◌, ℕ, zero, suc, ◌+◌, ◌<◌, Bool, true, false, List, map, length, replicate, slice_index, slice_index_or, Option, None, is_some, refl, sym, ap, subst, ◌∙◌, ⊎_elim, true≢false, if◌then◌else◌, arith}
use Rattle.std.proofs.lemmas.Bool.{cases_lt}
use Rattle.std.proofs.lemmas.List.{get_or_past}
use mathlib.Core.Option.{some, some-injective, some-ne-none}
use mathlib.Core.Option as maybe
use lib.ListN.{get_elem?}
use Rattle.atomic_table.specs.Table.{opening}
use Rattle.bulk_model.specs.declared.outcome.Outcome.{Outcome}
use Rattle.bulk_model.specs.declared.plan.Kept.{Kept as KeptPackages}
use Rattle.bulk_model.specs.PlanView.{PlanView, is_ignored}
use Rattle.bulk_model.specs.PlanFacts.{IsPlan}
use Rattle.bulk_model.specs.Fit.{FitsKept}
use Rattle.bulk_model.specs.Results.{is_kept}
use Rattle.claim_table.specs.declared.word.Word.{Word}
use Rattle.claim_table.specs.declared.view.Task.{Task}
use Rattle.claim_table.specs.declared.view.View.{View}
use Rattle.claim_table.specs.Words.{word_of, word_at, is_claimed, is_reading, is_skipped, is_kept_word, is_ignored_word, is_bare, was_claimed}
use Rattle.claim_table.specs.Told.{Lore}
use Rattle.claim_table.specs.Views.{one, face, IsSo}
use Rattle.claim_table.specs.Rule.{first_view, Fits, Rests, Ruled}
use Rattle.bulk_base.proofs.Totals.{alone}
use Rattle.claim_table.specs.Inside.{AreFitting, first_code, AreFirst}

-- a list that has so many places has nothing past them
none-past : {A : Type 0} (xs : List (Option A)) (count n : ℕ) → length xs ≡ count → is_some (slice_index_or xs n None) ≡ true → n < count
none-past xs count n size e = ⊎_elim (λ below. below) (λ past. absurd (true≢false (sym e ∙ ap is_some (get_or_past xs n None (omega arith))))) (cases_lt n count)

pub fitting : (plan : PlanView) (kept : KeptPackages) → IsPlan plan → FitsKept plan kept → AreFitting plan kept
fitting plan kept is fit = record {
  apart = λ n k. fit.allowed n (none-past kept.packages (length plan.jobs) n fit.places k) k;
  closed = λ n k. fit.closed n (none-past kept.packages (length plan.jobs) n fit.places k) k;
  without = λ n i. is.without n (none-past plan.ignored (length plan.jobs) n is.ignored i) i;
}

-- what a node's first word says
record IsFirstWord (word : Word) (k i : Bool) : Type 0 where
  kept : is_kept_word word ≡ k
  ignored : is_ignored_word word ≡ i
  claimed : is_claimed word ≡ false
  reading : is_reading word ≡ false
  was : was_claimed word ≡ false
  skipped : is_skipped word ≡ false
  bare : is_bare word ≡ true

first-word : (k i : Bool) → (k ≡ true → i ≡ false) → IsFirstWord (word_of (if k then 6 else if i then 7 else 0)) k i
first-word true true apart = absurd (true≢false (apart refl))
first-word true false apart = record { kept = refl; ignored = refl; claimed = refl; reading = refl; was = refl; skipped = refl; bare = refl }
first-word false true apart = record { kept = refl; ignored = refl; claimed = refl; reading = refl; was = refl; skipped = refl; bare = refl }
first-word false false apart = record { kept = refl; ignored = refl; claimed = refl; reading = refl; was = refl; skipped = refl; bare = refl }

-- each slot is at home and holds nothing
vacant : (count n : ℕ) (home : maybe.Option (Option Outcome)) → get_elem? (map some (replicate count None)) n ≡ some home → home ≡ some None
vacant zero n home e = absurd (some-ne-none home (sym e))
vacant (suc count) zero home e = sym (some-injective (some None) home e)
vacant (suc count) (suc n) home e = vacant count n home e

length-vacant : (count : ℕ) → length (map some (replicate {A = Option Outcome} count None)) ≡ count
length-vacant zero = refl
length-vacant (suc count) = ap suc (length-vacant count)

module _ (l : Lore) (t : Task) where
  pub begins : (words : List ℕ) (count : ℕ) → count ≡ length t.plan.jobs → AreFitting t.plan t.kept → length t.kept.packages ≡ length t.plan.jobs → length t.plan.ignored ≡ length t.plan.jobs → AreFirst t.plan t.kept words
      → Ruled l t (opening words (replicate count None) (first_view t))
  begins words count size fit places reasons first =
      let v : View = first_view t in
      let code : (n : ℕ) → slice_index words (n + 1) ≡ first_code t.plan t.kept n = λ (n : ℕ). ⊎_elim (λ below. first.each n below)
      (λ past.
      let long : length words ≡ length t.plan.jobs + 1 = first.size in
      let k : is_kept t.kept n ≡ false = ap is_some (get_or_past t.kept.packages n None (omega arith)) in
      let i : is_ignored t.plan n ≡ false = ap is_some (get_or_past t.plan.ignored n None (omega arith)) in
      get_or_past words (n + 1) 0 (omega arith) ∙ sym (ap (λ b. if b then 6 else if is_ignored t.plan n then 7 else 0) k ∙ ap (λ b. if b then 7 else 0) i))
      (cases_lt n (length t.plan.jobs)) in
      let word : (n : ℕ) → IsFirstWord (word_at words n) (is_kept t.kept n) (is_ignored t.plan n) = λ (n : ℕ). subst (λ c. IsFirstWord (word_of c) (is_kept t.kept n) (is_ignored t.plan n)) (sym (code n)) (first-word (is_kept t.kept n) (is_ignored t.plan n) (fit.apart n)) in
      record {
        size = first.size;
        places = length-vacant count ∙ size;
        spare = first.spare;
        shares = refl;
        fits = λ i u e. subst (Fits t) (alone v u i e).0 (record { about = λ _. refl; spent = λ nil. absurd (omega arith) });
        kept = λ n. (word n).kept;
        ignored = λ n. (word n).ignored;
        holders = λ n. sym (ap one (word n).claimed);
        readers = λ n. sym (ap one (word n).reading);
        claimers = λ n. sym (ap one (word n).was);
        after = λ n e. absurd (true≢false (sym e ∙ (word n).was));
        skipped = λ n e. absurd (true≢false (sym e ∙ (word n).skipped));
        known = λ i u e n. subst (λ (x : View). IsSo (word_at words n) (face x n)) (alone v u i e).0 (record { built = λ x. absurd (true≢false (sym x)); bad = λ x. absurd (true≢false (sym x)); given = λ x. absurd (true≢false (sym x)); claims = omega arith });
        slots = λ n home e. subst (Rests l t n (word_at words n)) (sym (vacant count n home e)) (word n).bare;
      }
