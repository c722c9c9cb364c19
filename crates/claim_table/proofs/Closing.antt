-- A table as it is closed.
use Rattle.std.proofs.Common.{◌≡◌, ◌≢◌, ℕ, zero, suc, ◌+◌, ◌≤◌, ◌==◌, Bool, true, false, not, ◌&&◌, ◌||◌, List, [], ◌∷◌, ◌++◌, length, take, get_or, Option, Some, None, is_some, refl, sym, ap, subst, ◌∙◌, ⊎_elim, true≢false, if◌then◌else◌, add-one, arith}
use Rattle.std.proofs.lemmas.Bool.{cases_lt, false_from_ne_true}
use Rattle.std.proofs.lemmas.List.{get_or_past}
use mathlib.Core.Option.{some, none, some-injective, some-ne-none}
use mathlib.Core.Option as maybe
use lib.ListN.{get_elem?}
use Rattle.atomic_table.specs.Table.{Final, Seen}
use Rattle.bulk_model.specs.declared.outcome.Outcome.{Outcome}
use Rattle.bulk_model.specs.declared.outcome.Outcome.TheVariants.{Built as MadePackage, Failed as FailedBuild}
use Rattle.bulk_model.specs.PlanView.{depends}
use Rattle.claim_table.specs.declared.word.Word.{Word}
use Rattle.claim_table.specs.declared.word.Word.TheVariants.{Free, Claimed, Built, Failed, Reading, Skipped, Kept, Ignored, GivenUp}
use Rattle.claim_table.specs.declared.view.Task.{Task}
use Rattle.claim_table.specs.declared.view.View.{View}
use Rattle.bulk_base.specs.Totals.{total, At}
use Rattle.claim_table.specs.Words.{word_of, word_at, is_good, is_claimed, is_reading, is_kept_word, is_ignored_word, is_bare, is_out, was_claimed}
use Rattle.claim_table.specs.Told.{Lore}
use Rattle.claim_table.specs.Views.{one, held, times, Face, face, IsSo}
use Rattle.claim_table.specs.Rule.{all_shares, nobody, Rests, Ruled}
use Rattle.claim_table.specs.Seats.{IsClosed}
use Rattle.bulk_base.proofs.Totals.{total-two, total-alone}
use Rattle.claim_table.proofs.Words.{all-more, good-not-bad, there}
use Rattle.bulk_model.specs.Installs.{has}
use Rattle.bulk_model.specs.Fit.{outcome_at, has_built, is_there}

got : {A : Type 0} (xs : List A) (n : ℕ) (x d : A) → get_elem? xs n ≡ some x → get_or xs n d ≡ x
got [] n x d e = absurd (some-ne-none x (sym e))
got (y ∷ ys) zero x d e = some-injective y x e
got (y ∷ ys) (suc n) x d e = got ys n x d e

take-next : {A : Type 0} (xs : List A) (n : ℕ) (x : A) → get_elem? xs n ≡ some x → take n xs ++ x ∷ [] ≡ take (suc n) xs
take-next [] n x e = absurd (some-ne-none x (sym e))
take-next (y ∷ ys) zero x e = ap (λ z. z ∷ []) (sym (some-injective y x e))
take-next (y ∷ ys) (suc n) x e = ap (λ zs. y ∷ zs) (take-next ys n x e)

-- one more of a list
pub take-more : {A : Type 0} (xs : List A) (n : ℕ) (x : A) → get_elem? xs n ≡ some x → take n xs ++ x ∷ [] ≡ take (n + 1) xs
take-more xs n x e = take-next xs n x e ∙ ap (λ k. take k xs) (sym (add-one n))

-- a node that stands there so often is there, or not
has-times : (ns : List ℕ) (n : ℕ) (b : Bool) → times ns n ≡ one b → has ns n ≡ b
has-times [] n true e = absurd (omega arith)
has-times [] n false e = refl
has-times (m ∷ ms) n b e = by-test (m == n) b e (has-times ms n b)
  where
    by-test : (c d : Bool) → (if c then suc (times ms n) else times ms n) ≡ one d → (times ms n ≡ one d → has ms n ≡ d) → (c || has ms n) ≡ d
    by-test true true h more = refl
    by-test true false h more = absurd (omega arith)
    by-test false d h more = more h

none-of : (b : Bool) → one b ≡ 0 → b ≡ false
none-of true e = absurd (omega arith)
none-of false e = refl

some-of : (b : Bool) → 1 ≤ one b → b ≡ true
some-of true e = refl
some-of false e = absurd (omega arith)

-- the outcomes of claims stand where a node was claimed and not given up
ended-word : (word : Word) (f : Face) → IsSo word f → f.claims ≡ one (was_claimed word) → one f.holds ≡ 0 → is_claimed word ≡ false → is_reading word ≡ false → not (is_bare word) ≡ (was_claimed word && not f.given)
ended-word Free f so claims idle c r = refl
ended-word Skipped f so claims idle c r = refl
ended-word Kept f so claims idle c r = refl
ended-word Ignored f so claims idle c r = refl
ended-word Claimed f so claims idle c r = absurd (true≢false c)
ended-word Reading f so claims idle c r = absurd (true≢false r)
ended-word Built f so claims idle c r = ap not (sym (false_from_ne_true f.given (λ e. true≢false (sym (so.given e)))))
ended-word Failed f so claims idle c r = ap not (sym (false_from_ne_true f.given (λ e. true≢false (sym (so.given e)))))
ended-word GivenUp f so claims idle c r =
    let no_built : one f.built ≡ 0 = ap one (false_from_ne_true f.built (λ e. true≢false (sym (so.built e)))) in
    let no_bad : one f.bad ≡ 0 = ap one (false_from_ne_true f.bad (λ e. true≢false (sym (so.bad e)))) in
    let most = so.claims in
    ap not (sym (some-of f.given (omega arith)))

-- a word with an outcome
own-word : (word : Word) → not (is_bare word) ≡ true → (is_kept_word word ≡ false) × (is_ignored_word word ≡ false) × (was_claimed word ≡ true)
own-word Free e = absurd (true≢false (sym e))
own-word Skipped e = absurd (true≢false (sym e))
own-word Kept e = absurd (true≢false (sym e))
own-word Ignored e = absurd (true≢false (sym e))
own-word GivenUp e = absurd (true≢false (sym e))
own-word Claimed e = (refl, refl, refl)
own-word Reading e = (refl, refl, refl)
own-word Built e = (refl, refl, refl)
own-word Failed e = (refl, refl, refl)

bare-good : (word : Word) → is_bare word ≡ true → (is_kept_word word || false) ≡ is_good word
bare-good Free e = refl
bare-good Skipped e = refl
bare-good Kept e = refl
bare-good Ignored e = refl
bare-good GivenUp e = refl
bare-good Claimed e = absurd (true≢false (sym e))
bare-good Reading e = absurd (true≢false (sym e))
bare-good Built e = absurd (true≢false (sym e))
bare-good Failed e = absurd (true≢false (sym e))

module _ (l : Lore) (t : Task) where
  some-bare : (n : ℕ) (word : Word) (o : Option Outcome) → Rests l t n word (some o) → is_some o ≡ not (is_bare word)
  some-bare n word None h = sym (ap not h)
  some-bare n word (Some (MadePackage p)) h = sym (ap (λ w. not (is_bare w)) h.0)
  some-bare n word (Some (FailedBuild phase code)) h = sym (ap (λ w. not (is_bare w)) h.0)

  package-good : (n : ℕ) (word : Word) (o : Option Outcome) → Rests l t n word (some o) → (is_kept_word word || has_built o) ≡ is_good word
  package-good n word None h = bare-good word h
  package-good n word (Some (MadePackage p)) h = subst (λ w. (is_kept_word w || true) ≡ is_good w) (sym h.0) refl
  package-good n word (Some (FailedBuild phase code)) h = subst (λ w. (is_kept_word w || false) ≡ is_good w) (sym h.0) refl

  -- what a home that is not out holds
  at-home : (n : ℕ) (word : Word) (home : maybe.Option (Option Outcome)) → is_claimed word ≡ false → is_reading word ≡ false → Rests l t n word home → (o : Option Outcome) × (home ≡ some o) × Rests l t n word (some o)
  at-home n word none c r h = absurd (true≢false (sym h ∙ not-out word c r))
    where
      not-out : (w : Word) → is_claimed w ≡ false → is_reading w ≡ false → is_out w ≡ false
      not-out Claimed x y = x
      not-out Reading x y = y
      not-out Free x y = refl
      not-out Built x y = refl
      not-out Failed x y = refl
      not-out Skipped x y = refl
      not-out Kept x y = refl
      not-out Ignored x y = refl
      not-out GivenUp x y = refl
  at-home n word (some o) c r h = (o, refl, h)

  pub closes : (id : ℕ) (v : View) (words : List ℕ) (slots : List (Option Outcome)) → v.shares ≡ all_shares → v.holds ≡ None → v.reads ≡ None → Final (Seen (Ruled l t) id v) words slots → IsClosed l t v slots
  closes id v words slots all idle unread final =
      let s = final.0 in
      let r : Ruled l t s = final.1.0 in
      let at : At s.views id v = final.1.1 in
      let spent : (j : ℕ) (u : View) → At s.views j u → j ≢ id → u ≡ nobody = λ j (u : View) place ne. (r.fits j u place).spent (let f : View → ℕ = λ (x : View). x.shares in let two : f v + f u ≤ total f s.views = total-two f s.views id j v u at place (λ e. ne (sym e)) in let sum : total f s.views ≡ all_shares = r.shares in omega arith) in
      let only : (f : View → ℕ) → f nobody ≡ 0 → total f s.views ≡ f v = λ (f : View → ℕ) nil. total-alone f s.views id v at (λ j u place ne. ap f (spent j u place ne) ∙ nil) in
      let off : (n : ℕ) → one (held v.holds n) ≡ 0 = λ (n : ℕ). ap (λ h. one (held h n)) idle in
      let unclaimed : (n : ℕ) → is_claimed (word_at s.words n) ≡ false = λ (n : ℕ). none-of (is_claimed (word_at s.words n)) (sym (r.holders n) ∙ only (λ (u : View). one (face u n).holds) refl ∙ off n) in
      let unheld : (n : ℕ) → is_reading (word_at s.words n) ≡ false = λ (n : ℕ). none-of (is_reading (word_at s.words n)) (sym (r.readers n) ∙ only (λ (u : View). one (face u n).reads) refl ∙ ap (λ h. one (held h n)) unread) in
      let claims : (n : ℕ) → times v.claims n ≡ one (was_claimed (word_at s.words n)) = λ (n : ℕ). sym (only (λ (u : View). (face u n).claims) refl) ∙ r.claimers n in
      let long : length s.homes ≡ length slots = final.3 in
      let places : length s.homes ≡ length t.plan.jobs = r.places in
      let size : length s.words ≡ length t.plan.jobs + 1 = r.size in
      let rests : (n : ℕ) → Rests l t n (word_at s.words n) (some (outcome_at slots n)) = λ (n : ℕ). ⊎_elim
      (λ below.
      let x = there s.homes n (omega arith) in
      let y = at-home n (word_at s.words n) x.0 (unclaimed n) (unheld n) (r.slots n x.0 x.1) in
      let is : outcome_at slots n ≡ y.0 = got slots n y.0 None (final.4 n y.0 (x.1 ∙ ap some y.1)) in
      subst (λ o. Rests l t n (word_at s.words n) (some o)) (sym is) y.2)
      (λ past.
      let free : word_at s.words n ≡ Free = ap word_of (get_or_past s.words (n + 1) 0 (omega arith)) in
      let nil : outcome_at slots n ≡ None = get_or_past slots n None (omega arith) in
      subst (λ o. Rests l t n (word_at s.words n) (some o)) (sym nil) (ap is_bare free))
      (cases_lt n (length t.plan.jobs)) in
      let packed : (n : ℕ) → is_there t.kept slots n ≡ is_good (word_at s.words n) = λ (n : ℕ). ap (λ k. k || has_built (outcome_at slots n)) (sym (r.kept n)) ∙ package-good n (word_at s.words n) (outcome_at slots n) (rests n) in
      let outcome : (n : ℕ) → is_some (outcome_at slots n) ≡ not (is_bare (word_at s.words n)) = λ (n : ℕ). some-bare n (word_at s.words n) (outcome_at slots n) (rests n) in
      record {
        fits = record {
          places = sym long ∙ places;
          own = λ n o e. let w : (is_kept_word (word_at s.words n) ≡ false) × (is_ignored_word (word_at s.words n) ≡ false) × (was_claimed (word_at s.words n) ≡ true) = own-word (word_at s.words n) (sym (outcome n) ∙ ap is_some e) in (sym (r.kept n) ∙ w.0, sym (r.ignored n) ∙ w.1);
          behind = λ n o e. let w : (is_kept_word (word_at s.words n) ≡ false) × (is_ignored_word (word_at s.words n) ≡ false) × (was_claimed (word_at s.words n) ≡ true) = own-word (word_at s.words n) (sym (outcome n) ∙ ap is_some e) in all-more (λ d. is_good (word_at s.words d)) (is_there t.kept slots) (λ d g. packed d ∙ g) (depends t.plan n) (r.after n w.2);
        };
        right = λ n o e. (subst (λ x. Rests l t n (word_at s.words n) (some x)) e (rests n)).1;
        ended = λ n. outcome n ∙ ended-word (word_at s.words n) (face v n) (r.known id v at n) (claims n) (off n) (unclaimed n) (unheld n) ∙ ap (λ b. b && not (has v.given n)) (sym (has-times v.claims n (was_claimed (word_at s.words n)) (claims n)));
        once = λ n. let c : times v.claims n ≡ one (was_claimed (word_at s.words n)) = claims n in let m = at-most (was_claimed (word_at s.words n)) in omega arith;
        built = λ n e. packed n ∙ (r.known id v at n).built e;
        bad = λ n e. packed n ∙ false_from_ne_true (is_good (word_at s.words n)) (λ g. good-not-bad (word_at s.words n) g ((r.known id v at n).bad e));
      }
    where
      at-most : (x : Bool) → one x ≤ 1
      at-most true = omega arith
      at-most false = omega arith
