-- Each kind of step keeps the rule.
use Rattle.std.proofs.Common.{◌≡◌, ◌≢◌, ℕ, ◌+◌, ◌<◌, ◌≤◌, ◌==◌, true, false, ◌||◌, List, ◌∷◌, set, length, slice_index, Option, Some, None, refl, sym, ap, subst, ◌∙◌, ⊎_elim, true≢false, length-set, eq-eqb, arith}
use Rattle.std.specs.List.{list_any}
use Rattle.std.proofs.lemmas.Bool.{or_cases, false_from_ne_true}
use mathlib.Core.Option.{some, none, some-injective}
use mathlib.Core.Option as maybe
use lib.ListN.{get_elem?}
use prog.Atomic.{either}
use Rattle.atomic_table.specs.Table.{State, Act, Valid, Allows, stepped, keeps, takes, gives, carried_after, rest}
use Rattle.atomic_table.proofs.Lists.{exchanged, set_here, set_else}
use Rattle.bulk_model.specs.declared.outcome.Outcome.{Outcome}
use Rattle.bulk_model.specs.declared.outcome.Outcome.TheVariants.{Built as MadePackage, Failed as FailedBuild}
use Rattle.bulk_model.specs.PlanView.{depends}
use Rattle.bulk_model.specs.Results.{is_kept}
use Rattle.bulk_model.specs.Views.{PackageView}
use Rattle.claim_table.specs.declared.word.Word.{Word}
use Rattle.claim_table.specs.declared.word.Word.TheVariants.{Free, Claimed, Built, Failed, Reading, Skipped, Kept, Ignored, GivenUp}
use Rattle.claim_table.specs.declared.view.Task.{Task}
use Rattle.claim_table.specs.declared.view.View.{View}
use Rattle.bulk_base.specs.Totals.{total, At}
use Rattle.claim_table.specs.Words.{word_of, word_at, is_good, is_bad, is_claimed, is_reading, is_kept_word, is_ignored_word, was_claimed}
use Rattle.claim_table.specs.Told.{Lore, IsRight}
use Rattle.claim_table.specs.Views.{one, held, face, IsSo, IsFound}
use Rattle.claim_table.specs.Rule.{all_good, some_bad, Rests, Ruled, outcome_word}
use Rattle.claim_table.specs.Steps.{Mine, Look, Claim, End, Skip, BeginReading, CloseReading, looks_then, claims_then, ends_then, skips_then, begins_then, closes_then}
use Rattle.claim_table.specs.Seats.{knows_all, knows_bad}
use Rattle.bulk_base.proofs.Totals.{total-least}
use Rattle.claim_table.proofs.Words.{is_ended, all-more, any-more, clash, all-there, good-not-bad, good-how, kept-good, only-skipped, not-free, there}
use Rattle.claim_table.proofs.Placed.{Fills, placed}
use Rattle.claim_table.proofs.Faces.{looks-owed, claims-owed, ends-owed, skips-owed, begins-owed, closes-owed}
use Rattle.bulk_model.specs.Installs.{has}
use Rattle.claim_table.specs.Changes.{after_look, after_claim, after_end, after_skip, after_begin, after_close}
use Rattle.claim_table.specs.Inside.{AreFitting, code_of}

abbrev Homes : Type 0
Homes = List (maybe.Option (Option Outcome))

-- a number is told by its successor
at-node : (P : ℕ → Type 0) (n : ℕ) → P n → (m : ℕ) → n + 1 ≡ m + 1 → P m
at-node P n p m e = let same : n ≡ m = omega arith in subst P same p

some_of : {A : Type 0} {x y : A} → Some x ≡ Some y → x ≡ y
some_of e = cc

-- the number of an outcome's word
pub outcome-word : (o : Outcome) (code : ℕ) → code ≡ code_of o → word_of code ≡ outcome_word o
outcome-word o code e = ap word_of e ∙ direct o
  where
    direct : (x : Outcome) → word_of (code_of x) ≡ outcome_word x
    direct (MadePackage p) = refl
    direct (FailedBuild phase number) = refl

pub outcome-ends : (o : Outcome) (code : ℕ) → code ≡ code_of o → is_ended (word_of code) ≡ true
outcome-ends o code e = ap is_ended (outcome-word o code e) ∙ direct o
  where
    direct : (x : Outcome) → is_ended (outcome_word x) ≡ true
    direct (MadePackage p) = refl
    direct (FailedBuild phase number) = refl

module _ (l : Lore) (t : Task) where
  -- slots that stay, where the old word's slot rests at the new one
  stay : (s : State (Option Outcome) View) (n : ℕ) (b : Word) → ((home : maybe.Option (Option Outcome)) → get_elem? s.homes n ≡ some home → Rests l t n b home) → Fills l t n b s.homes s.homes
  stay s n b here = record { size = refl; else = λ k ne. refl; here = here }

  -- a slot is set to something that rests at the new word
  lay : (homes : Homes) (n : ℕ) (b : Word) (home : maybe.Option (Option Outcome)) → n < length homes → Rests l t n b home → Fills l t n b homes (set homes n home)
  lay homes n b home inside rests = record {
    size = length-set homes n home;
    else = λ k ne. set_else homes n k home ne;
    here = λ x e. subst (Rests l t n b) (some-injective home x (sym (set_here homes n home inside) ∙ e)) rests;
  }

  looks-ruled : (s : State (Option Outcome) View) (r : Ruled l t s) (id n : ℕ) (v : View) (carried : List (ℕ × Option Outcome)) → n < length t.plan.jobs → At s.views id v → 1 ≤ v.shares
      → Ruled l t (stepped s (n + 1) (slice_index s.words (n + 1)) id carried (after_look n (word_at s.words n) v) keeps)
  looks-ruled s r id n v carried inside at share =
      placed l t s r id n (slice_index s.words (n + 1)) v (after_look n (word_at s.words n) v) s.homes inside at share (word_at s.words n) refl
      (looks-owed t s.words n v (word_at s.words n) (r.known id v at n)) (stay s n (word_at s.words n) (r.slots n))

  -- the word of a node that a view holds is Claimed, and of one that it reads Reading
  claimed-word : (word : Word) → 1 ≤ one (is_claimed word) → word ≡ Claimed
  claimed-word Claimed h = refl
  claimed-word Free h = absurd (omega arith)
  claimed-word Built h = absurd (omega arith)
  claimed-word Failed h = absurd (omega arith)
  claimed-word Reading h = absurd (omega arith)
  claimed-word Skipped h = absurd (omega arith)
  claimed-word Kept h = absurd (omega arith)
  claimed-word Ignored h = absurd (omega arith)
  claimed-word GivenUp h = absurd (omega arith)

  reading-word : (word : Word) → 1 ≤ one (is_reading word) → word ≡ Reading
  reading-word Reading h = refl
  reading-word Free h = absurd (omega arith)
  reading-word Claimed h = absurd (omega arith)
  reading-word Built h = absurd (omega arith)
  reading-word Failed h = absurd (omega arith)
  reading-word Skipped h = absurd (omega arith)
  reading-word Kept h = absurd (omega arith)
  reading-word Ignored h = absurd (omega arith)
  reading-word GivenUp h = absurd (omega arith)

  -- what the slot of a free node and of a built one holds
  free-slot : (n : ℕ) (home : maybe.Option (Option Outcome)) → Rests l t n Free home → home ≡ some None
  free-slot n none h = absurd (true≢false (sym h))
  free-slot n (some None) h = refl
  free-slot n (some (Some (MadePackage p))) h = absurd (let e : Free ≡ Built = h.0 in cc)
  free-slot n (some (Some (FailedBuild phase code))) h = absurd (let e : Free ≡ Failed = h.0 in cc)

  built-slot : (n : ℕ) (home : maybe.Option (Option Outcome)) → Rests l t n Built home → (p : PackageView) × (home ≡ some (Some (MadePackage p))) × IsRight l t n (MadePackage p)
  built-slot n none h = absurd (true≢false (sym h))
  built-slot n (some None) h = absurd (true≢false (sym h))
  built-slot n (some (Some (MadePackage p))) h = (p, refl, h.1)
  built-slot n (some (Some (FailedBuild phase code))) h = absurd (let e : Built ≡ Failed = h.0 in cc)

  skipped-slot : (n : ℕ) (home : maybe.Option (Option Outcome)) → Rests l t n Free home → Rests l t n Skipped home
  skipped-slot n none h = h
  skipped-slot n (some None) h = refl
  skipped-slot n (some (Some (MadePackage p))) h = absurd (let e : Free ≡ Built = h.0 in cc)
  skipped-slot n (some (Some (FailedBuild phase code))) h = absurd (let e : Free ≡ Failed = h.0 in cc)

  -- a node's slot and what rests in it
  slot-at : (s : State (Option Outcome) View) → Ruled l t s → (n : ℕ) → n < length t.plan.jobs → (home : maybe.Option (Option Outcome)) × (get_elem? s.homes n ≡ some home) × Rests l t n (word_at s.words n) home
  slot-at s r n inside = let size : length s.homes ≡ length t.plan.jobs = r.places in let x = there s.homes n (omega arith) in (x.0, x.1, r.slots n x.0 x.1)

  -- dependencies that a seat knows as built, or that are kept, are good
  ready-good : (s : State (Option Outcome) View) → Ruled l t s → (id n : ℕ) (v : View) → At s.views id v → knows_all t v n ≡ true → all_good t s.words n ≡ true
  ready-good s r id n v at = all-more (λ d. is_kept t.kept d || has v.built d) (λ d. is_good (word_at s.words d))
      (λ d e. ⊎_elim (λ k. kept-good (word_at s.words d) (r.kept d ∙ k)) (λ b. (r.known id v at d).built b) (or_cases (is_kept t.kept d) (has v.built d) e)) (depends t.plan n)

  known-bad : (s : State (Option Outcome) View) → Ruled l t s → (id n : ℕ) (v : View) → At s.views id v → knows_bad t v n ≡ true → some_bad t s.words n ≡ true
  known-bad s r id n v at = any-more (has v.bad) (λ d. is_bad (word_at s.words d)) (λ d e. (r.known id v at d).bad e) (depends t.plan n)

  -- what the rule says of a word that a seat finds
  found-word : AreFitting t.plan t.kept → (s : State (Option Outcome) View) → Ruled l t s → (id n : ℕ) (v : View) → At s.views id v → 1 ≤ v.shares → (u : Task) → v.task ≡ Some u → IsFound u v n (word_at s.words n)
  found-word fitting s r id n v at share u e =
      let same : t ≡ u = some_of (sym ((r.fits id v at).about share) ∙ e) in
      let so = r.known id v at in
      let kept-there : (m : ℕ) → is_kept_word (word_at s.words m) ≡ true → all_good t s.words m ≡ true = λ (m : ℕ) k. all-more (is_kept t.kept) (λ d. is_good (word_at s.words d)) (λ d h. kept-good (word_at s.words d) (r.kept d ∙ h)) (depends t.plan m) (fitting.closed m (sym (r.kept m) ∙ k)) in
      let below : (m : ℕ) → is_good (word_at s.words m) ≡ true → all_good t s.words m ≡ true = λ (m : ℕ) g. ⊎_elim (kept-there m) (r.after m) (good-how (word_at s.words m) g) in
      subst (λ (x : Task). IsFound x v n (word_at s.words n)) same (record {
        kept = r.kept n;
        ignored = r.ignored n;
        built = (so n).built;
        bad = (so n).bad;
        needed = λ m b d. all-there (λ k. is_good (word_at s.words k)) (depends t.plan m) n (below m ((so m).built b)) d;
      })

  pub looks-allowed : AreFitting t.plan t.kept → (slots id n : ℕ) (me : Mine) → n < length t.plan.jobs → 1 ≤ me.0.shares → Allows (Ruled l t) slots id me (n + 1) (λ m. m) (looks_then (n + 1) me)
  looks-allowed fitting slots id n me inside share s r len at small = (
    after_look n (word_at s.words n) me.0,
    keeps,
    tt,
    looks-ruled s r id n me.0 me.1 inside at share,
    at-node (λ m. Look m (word_at s.words n) me (after_look n (word_at s.words n) me.0, me.1)) n (record { found = found-word fitting s r id n me.0 at share; view = refl; slots = refl }),
  )

  pub claims-allowed : AreFitting t.plan t.kept → (slots id n : ℕ) (me : Mine) → n < length t.plan.jobs → 1 ≤ me.0.shares → me.0.holds ≡ None → knows_all t me.0 n ≡ true
      → Allows (Ruled l t) slots id me (n + 1) (λ m. either (m == 0) 1 m) (claims_then (n + 1) me)
  claims-allowed fitting slots id n me inside share idle ready s r len at small =
      let v : View = me.0 in
      exchanged (slice_index s.words (n + 1)) 0 1 (λ m. (w : View) × (a : Act (Option Outcome)) × Valid s.homes me.1 a × Ruled l t (stepped s (n + 1) m id me.1 w a) × claims_then (n + 1) me (slice_index s.words (n + 1)) (w, carried_after me.1 a))
      (λ e.
      let free : word_at s.words n ≡ Free = ap word_of e in
      let slot = slot-at s r n inside in
      let bare : slot.0 ≡ some None = free-slot n slot.0 (subst (λ (x : Word). Rests l t n x slot.0) free slot.2) in
      let size : length s.homes ≡ length t.plan.jobs = r.places in
      let claimers : total (λ u. (face u n).claims) s.views ≡ one (was_claimed (word_at s.words n)) = r.claimers n in
      let none_claimed : one (was_claimed (word_at s.words n)) ≡ 0 = ap (λ x. one (was_claimed x)) free in
      let least : (face v n).claims ≤ total (λ u. (face u n).claims) s.views = total-least (λ u. (face u n).claims) s.views id v at in (
        after_claim n v,
        takes n None,
        slot.1 ∙ ap some bare,
        placed l t s r id n 1 v (after_claim n v) (set s.homes n none) inside at share Free free
            (claims-owed t s.words n v idle (omega arith) (ready-good s r id n v at ready) (subst (λ (x : Word). IsSo x (face v n)) free (r.known id v at n)))
            (lay s.homes n Claimed none (omega arith) refl),
        at-node (λ m. (slice_index s.words (n + 1) ≢ 0 → Look m (word_at s.words n) me (after_claim n v, (n, None) ∷ me.1)) × (slice_index s.words (n + 1) ≡ 0 → Claim m me (after_claim n v, (n, None) ∷ me.1))) n
            ((λ ne. absurd (ne e)), (λ _. record { view = refl; slots = refl })),
      ))
      (λ ne. (
        after_look n (word_at s.words n) v,
        keeps,
        tt,
        looks-ruled s r id n v me.1 inside at share,
        at-node (λ m. (slice_index s.words (n + 1) ≢ 0 → Look m (word_at s.words n) me (after_look n (word_at s.words n) v, me.1)) × (slice_index s.words (n + 1) ≡ 0 → Claim m me (after_look n (word_at s.words n) v, me.1))) n
            ((λ _. record { found = found-word fitting s r id n v at share; view = refl; slots = refl }), (λ e. absurd (ne e))),
      ))

  pub ends-allowed : (slots id n code : ℕ) (me : Mine) (home : Option Outcome) → n < length t.plan.jobs → 1 ≤ me.0.shares → me.0.holds ≡ Some n → me.1 ≡ (n, home) ∷ rest me.1
      → is_ended (word_of code) ≡ true → Rests l t n (word_of code) (some home)
      → Allows (Ruled l t) slots id me (n + 1) (λ _. code) (λ _. ends_then (n + 1) me code)
  ends-allowed slots id n code me home inside share mine slot fits rests s r len at small =
      let v : View = me.0 in
      let size : length s.homes ≡ length t.plan.jobs = r.places in
      let on : one (held v.holds n) ≡ 1 = ap (λ h. one (held h n)) mine ∙ ap one (eq-eqb n n refl) in
      let least : one (face v n).holds ≤ total (λ u. one (face u n).holds) s.views = total-least (λ u. one (face u n).holds) s.views id v at in
      let holders : total (λ u. one (face u n).holds) s.views ≡ one (is_claimed (word_at s.words n)) = r.holders n in
      let from : word_at s.words n ≡ Claimed = claimed-word (word_at s.words n) (omega arith) in (
        after_end n (word_of code) v,
        gives,
        tt,
        subst (λ (c : List (ℕ × Option Outcome)). Ruled l t (stepped s (n + 1) code id c (after_end n (word_of code) v) gives)) (sym slot)
            (placed l t s r id n code v (after_end n (word_of code) v) (set s.homes n (some home)) inside at share Claimed from
            (ends-owed t s.words n v (word_of code) fits mine (subst (λ (x : Word). IsSo x (face v n)) from (r.known id v at n)))
            (lay s.homes n (word_of code) (some home) (omega arith) rests)),
        at-node (λ m. End m (word_of code) me (after_end n (word_of code) v, rest me.1)) n (record { view = refl; slots = refl }),
      )

  pub skips-allowed : AreFitting t.plan t.kept → (slots id n : ℕ) (me : Mine) → n < length t.plan.jobs → 1 ≤ me.0.shares → knows_bad t me.0 n ≡ true
      → Allows (Ruled l t) slots id me (n + 1) (λ m. either (m == 0) 5 m) (skips_then (n + 1) me)
  skips-allowed fitting slots id n me inside share reason s r len at small =
      let v : View = me.0 in
      let word : Word = word_at s.words n in
      let setback : some_bad t s.words n ≡ true = known-bad s r id n v at reason in
      let good_or_bad : all_good t s.words n ≡ true → ⊥ = λ all. clash (λ d. is_good (word_at s.words d)) (λ d. is_bad (word_at s.words d)) (λ d. good-not-bad (word_at s.words d)) (depends t.plan n) all setback in
      let unclaimed : was_claimed word ≡ false = false_from_ne_true (was_claimed word) (λ e. good_or_bad (r.after n e)) in
      let unkept : is_kept_word word ≡ false = false_from_ne_true (is_kept_word word) (λ e. good_or_bad (all-more (is_kept t.kept) (λ d. is_good (word_at s.words d)) (λ d k. kept-good (word_at s.words d) (r.kept d ∙ k)) (depends t.plan n) (fitting.closed n (sym (r.kept n) ∙ e)))) in
      let unignored : is_ignored_word word ≡ false = false_from_ne_true (is_ignored_word word) (λ e. true≢false (sym setback ∙ ap (λ ds. list_any (λ d. is_bad (word_at s.words d)) ds) (fitting.without n (sym (r.ignored n) ∙ e)))) in
      exchanged (slice_index s.words (n + 1)) 0 5 (λ m. (w : View) × (a : Act (Option Outcome)) × Valid s.homes me.1 a × Ruled l t (stepped s (n + 1) m id me.1 w a) × skips_then (n + 1) me (slice_index s.words (n + 1)) (w, carried_after me.1 a))
      (λ e.
      let free : word ≡ Free = ap word_of e in (
        after_skip n v,
        keeps,
        tt,
        placed l t s r id n 5 v (after_skip n v) s.homes inside at share Free free
            (skips-owed t s.words n v setback (subst (λ (x : Word). IsSo x (face v n)) free (r.known id v at n)))
            (stay s n Skipped (λ home is. skipped-slot n home (subst (λ (x : Word). Rests l t n x home) free (r.slots n home is)))),
        at-node (λ m. (slice_index s.words (n + 1) ≢ 0 → Look m Skipped me (after_skip n v, me.1)) × (slice_index s.words (n + 1) ≡ 0 → Skip m me (after_skip n v, me.1))) n
            ((λ ne. absurd (ne e)), (λ _. record { view = refl; slots = refl })),
      ))
      (λ ne.
      let is : word ≡ Skipped = only-skipped word (not-free (slice_index s.words (n + 1)) ne) unclaimed unkept unignored in (
        after_look n word v,
        keeps,
        tt,
        looks-ruled s r id n v me.1 inside at share,
        at-node (λ m. (slice_index s.words (n + 1) ≢ 0 → Look m Skipped me (after_look n word v, me.1)) × (slice_index s.words (n + 1) ≡ 0 → Skip m me (after_look n word v, me.1))) n
            ((λ _. subst (λ (x : Word). Look n x me (after_look n word v, me.1)) is (record { found = found-word fitting s r id n v at share; view = refl; slots = refl })), (λ e. absurd (ne e))),
      ))

  pub begins-allowed : AreFitting t.plan t.kept → (slots id n : ℕ) (me : Mine) → n < length t.plan.jobs → 1 ≤ me.0.shares → me.0.reads ≡ None
      → Allows (Ruled l t) slots id me (n + 1) (λ m. either (m == 2) 4 m) (begins_then l (n + 1) me)
  begins-allowed fitting slots id n me inside share idle s r len at small =
      let v : View = me.0 in
      exchanged (slice_index s.words (n + 1)) 2 4 (λ m. (w : View) × (a : Act (Option Outcome)) × Valid s.homes me.1 a × Ruled l t (stepped s (n + 1) m id me.1 w a) × begins_then l (n + 1) me (slice_index s.words (n + 1)) (w, carried_after me.1 a))
      (λ e.
      let is : word_at s.words n ≡ Built = ap word_of e in
      let slot = slot-at s r n inside in
      let made = built-slot n slot.0 (subst (λ (x : Word). Rests l t n x slot.0) is slot.2) in
      let size : length s.homes ≡ length t.plan.jobs = r.places in
      let right : (u : Task) → v.task ≡ Some u → IsRight l u n (MadePackage made.0) = λ (u : Task) e2. let same : t ≡ u = some_of (sym ((r.fits id v at).about share) ∙ e2) in subst (λ (x : Task). IsRight l x n (MadePackage made.0)) same made.2 in (
        after_begin n v,
        takes n (Some (MadePackage made.0)),
        slot.1 ∙ ap some made.1,
        placed l t s r id n 4 v (after_begin n v) (set s.homes n none) inside at share Built is
            (begins-owed t s.words n v idle (subst (λ (x : Word). IsSo x (face v n)) is (r.known id v at n)))
            (lay s.homes n Reading none (omega arith) refl),
        at-node (λ m. (slice_index s.words (n + 1) ≢ 2 → Look m (word_at s.words n) me (after_begin n v, (n, Some (MadePackage made.0)) ∷ me.1)) × (slice_index s.words (n + 1) ≡ 2 → BeginReading l m me (after_begin n v, (n, Some (MadePackage made.0)) ∷ me.1))) n
            ((λ ne. absurd (ne e)), (λ _. record { built = made.0; right = right; view = refl; slots = refl })),
      ))
      (λ ne. (
        after_look n (word_at s.words n) v,
        keeps,
        tt,
        looks-ruled s r id n v me.1 inside at share,
        at-node (λ m. (slice_index s.words (n + 1) ≢ 2 → Look m (word_at s.words n) me (after_look n (word_at s.words n) v, me.1)) × (slice_index s.words (n + 1) ≡ 2 → BeginReading l m me (after_look n (word_at s.words n) v, me.1))) n
            ((λ _. record { found = found-word fitting s r id n v at share; view = refl; slots = refl }), (λ e. absurd (ne e))),
      ))

  pub closes-allowed : (slots id n : ℕ) (me : Mine) (p : PackageView) → n < length t.plan.jobs → 1 ≤ me.0.shares → me.0.reads ≡ Some n → me.1 ≡ (n, Some (MadePackage p)) ∷ rest me.1
      → IsRight l t n (MadePackage p)
      → Allows (Ruled l t) slots id me (n + 1) (λ _. 2) (λ _. closes_then (n + 1) me 2)
  closes-allowed slots id n me p inside share mine slot right s r len at small =
      let v : View = me.0 in
      let size : length s.homes ≡ length t.plan.jobs = r.places in
      let on : one (held v.reads n) ≡ 1 = ap (λ h. one (held h n)) mine ∙ ap one (eq-eqb n n refl) in
      let least : one (face v n).reads ≤ total (λ u. one (face u n).reads) s.views = total-least (λ u. one (face u n).reads) s.views id v at in
      let readers : total (λ u. one (face u n).reads) s.views ≡ one (is_reading (word_at s.words n)) = r.readers n in
      let from : word_at s.words n ≡ Reading = reading-word (word_at s.words n) (omega arith) in (
        after_close n v,
        gives,
        tt,
        subst (λ (c : List (ℕ × Option Outcome)). Ruled l t (stepped s (n + 1) 2 id c (after_close n v) gives)) (sym slot)
            (placed l t s r id n 2 v (after_close n v) (set s.homes n (some (Some (MadePackage p)))) inside at share Reading from
            (closes-owed t s.words n v mine (subst (λ (x : Word). IsSo x (face v n)) from (r.known id v at n)))
            (lay s.homes n Built (some (Some (MadePackage p))) (omega arith) (refl, right))),
        at-node (λ m. CloseReading m me (after_close n v, rest me.1)) n (record { view = refl; slots = refl }),
      )

  pub outcome-rests : (n : ℕ) (o : Outcome) (code : ℕ) → code ≡ code_of o → IsRight l t n o → Rests l t n (word_of code) (some (Some o))
  outcome-rests n o code e right = (outcome-word o code e, right)
