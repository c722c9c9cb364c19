-- A step at one node keeps the rule: what it owes, once for all kinds.
use Rattle.std.proofs.Common.{◌≡◌, ◌≢◌, ◌⊎◌, ℕ, ◌+◌, ◌<◌, ◌≤◌, true, List, set, length, Option, sym, ap, subst, ◌∙◌, ⊎_elim, length-set, arith}
use Rattle.std.proofs.lemmas.List.{get_or-set_other}
use mathlib.Core.Option.{some}
use mathlib.Core.Option as maybe
use lib.ListN.{get_elem?}
use Rattle.atomic_table.specs.Table.{State}
use Rattle.bulk_model.specs.declared.outcome.Outcome.{Outcome}
use Rattle.bulk_model.specs.PlanView.{depends}
use Rattle.claim_table.specs.declared.word.Word.{Word}
use Rattle.claim_table.specs.declared.view.Task.{Task}
use Rattle.claim_table.specs.declared.view.View.{View}
use Rattle.bulk_base.specs.Totals.{total, At}
use Rattle.claim_table.specs.Words.{word_of, word_at, is_good, is_bad, is_claimed, is_reading, is_skipped, is_kept_word, is_ignored_word, is_given_up, was_claimed}
use Rattle.claim_table.specs.Told.{Lore}
use Rattle.claim_table.specs.Views.{one, Face, face, IsSo}
use Rattle.claim_table.specs.Rule.{all_shares, Fits, all_good, some_bad, Rests, Ruled}
use Rattle.bulk_base.proofs.Totals.{total-set, each-set}
use Rattle.claim_table.proofs.Words.{each-word, all-more, any-more}

-- what a step owes that changes a node's word from a to b, and a view from v to w
pub record Owes (t : Task) (words : List ℕ) (n : ℕ) (a b : Word) (v w : View) : Type 0 where
  pub good : is_good a ≡ true → is_good b ≡ true
  pub bad : is_bad a ≡ true → is_bad b ≡ true
  pub given : is_given_up a ≡ true → is_given_up b ≡ true
  pub kept : is_kept_word b ≡ is_kept_word a
  pub ignored : is_ignored_word b ≡ is_ignored_word a
  pub task : w.task ≡ v.task
  pub shares : w.shares ≡ v.shares
  pub else : (k : ℕ) → k ≢ n → face w k ≡ face v k
  pub holds : one (face w n).holds + one (is_claimed a) ≡ one (face v n).holds + one (is_claimed b)
  pub reads : one (face w n).reads + one (is_reading a) ≡ one (face v n).reads + one (is_reading b)
  pub claims : (face w n).claims + one (was_claimed a) ≡ (face v n).claims + one (was_claimed b)
  pub known : IsSo b (face w n)
  pub after : was_claimed b ≡ true → (was_claimed a ≡ true) ⊎ (all_good t words n ≡ true)
  pub skipped : is_skipped b ≡ true → (is_skipped a ≡ true) ⊎ (some_bad t words n ≡ true)

-- the slots where only that of a node may have changed, which rests at its new word
pub record Fills (l : Lore) (t : Task) (n : ℕ) (b : Word) (old new : List (maybe.Option (Option Outcome))) : Type 0 where
  pub size : length new ≡ length old
  pub else : (k : ℕ) → k ≢ n → get_elem? new k ≡ get_elem? old k
  pub here : (home : maybe.Option (Option Outcome)) → get_elem? new n ≡ some home → Rests l t n b home

module _ (l : Lore) (t : Task) (s : State (Option Outcome) View) (r : Ruled l t s) (id n code : ℕ) (v w : View) (homes : List (maybe.Option (Option Outcome))) (inside : n < length t.plan.jobs) (at : At s.views id v) (share : 1 ≤ v.shares) where
  pub placed : (a : Word) → word_at s.words n ≡ a → Owes t s.words n a (word_of code) v w → Fills l t n (word_of code) s.homes homes
      → Ruled l t (record { words = set s.words (n + 1) code; homes = homes; views = set s.views id w })
  placed a from owes fills =
      let o : Owes t s.words n (word_at s.words n) (word_of code) v w = subst (λ x. Owes t s.words n x (word_of code) v w) (sym from) owes in
      let size : length s.words ≡ length t.plan.jobs + 1 = r.size in
      let in_words : n + 1 < length s.words = omega arith in
      let words : List ℕ = set s.words (n + 1) code in
      let each : (P : ℕ → Word → Type 0) → ((k : ℕ) → k ≢ n → P k (word_at s.words k)) → P n (word_of code) → (k : ℕ) → P k (word_at words k) = λ (P : ℕ → Word → Type 0). each-word P s.words n code in_words in
      let good : (k : ℕ) → is_good (word_at s.words k) ≡ true → is_good (word_at words k) ≡ true = each (λ k word. is_good (word_at s.words k) ≡ true → is_good word ≡ true) (λ k ne e. e) o.good in
      let bad : (k : ℕ) → is_bad (word_at s.words k) ≡ true → is_bad (word_at words k) ≡ true = each (λ k word. is_bad (word_at s.words k) ≡ true → is_bad word ≡ true) (λ k ne e. e) o.bad in
      let more_good : (k : ℕ) → all_good t s.words k ≡ true → all_good t words k ≡ true = λ (k : ℕ). all-more (λ d. is_good (word_at s.words d)) (λ d. is_good (word_at words d)) good (depends t.plan k) in
      let more_bad : (k : ℕ) → some_bad t s.words k ≡ true → some_bad t words k ≡ true = λ (k : ℕ). any-more (λ d. is_bad (word_at s.words d)) (λ d. is_bad (word_at words d)) bad (depends t.plan k) in
      let moved : (f : Face → ℕ) (g : Word → ℕ) → ((k : ℕ) → total (λ u. f (face u k)) s.views ≡ g (word_at s.words k)) → f (face w n) + g (word_at s.words n) ≡ f (face v n) + g (word_of code)
      → (k : ℕ) → total (λ u. f (face u k)) (set s.views id w) ≡ g (word_at words k) =
      λ (f : Face → ℕ) (g : Word → ℕ) old here. each (λ k word. total (λ u. f (face u k)) (set s.views id w) ≡ g word)
      (λ k ne. let p : total (λ u. f (face u k)) (set s.views id w) + f (face v k) ≡ total (λ u. f (face u k)) s.views + f (face w k) = total-set (λ u. f (face u k)) s.views id v w at in let same : f (face w k) ≡ f (face v k) = ap f (o.else k ne) in let q : total (λ u. f (face u k)) s.views ≡ g (word_at s.words k) = old k in omega arith)
      (let p : total (λ u. f (face u n)) (set s.views id w) + f (face v n) ≡ total (λ u. f (face u n)) s.views + f (face w n) = total-set (λ u. f (face u n)) s.views id v w at in let q : total (λ u. f (face u n)) s.views ≡ g (word_at s.words n) = old n in omega arith) in
      let fit : Fits t v = r.fits id v at in
      record {
        size = length-set s.words (n + 1) code ∙ size;
        places = fills.size ∙ r.places;
        spare = get_or-set_other s.words (n + 1) 0 code 0 (λ e. absurd (omega arith)) ∙ r.spare;
        shares = let f : View → ℕ = λ (u : View). u.shares in let p : total f (set s.views id w) + f v ≡ total f s.views + f w = total-set f s.views id v w at in let same : f w ≡ f v = o.shares in let q : total f s.views ≡ all_shares = r.shares in omega arith;
        fits = each-set (Fits t) s.views id w r.fits (record { about = λ _. o.task ∙ fit.about share; spent = λ nil. absurd (let same : w.shares ≡ v.shares = o.shares in omega arith) });
        kept = each (λ k word. is_kept_word word ≡ Rattle.bulk_model.specs.Results.is_kept t.kept k) (λ k ne. r.kept k) (o.kept ∙ r.kept n);
        ignored = each (λ k word. is_ignored_word word ≡ Rattle.bulk_model.specs.PlanView.is_ignored t.plan k) (λ k ne. r.ignored k) (o.ignored ∙ r.ignored n);
        holders = moved (λ (x : Face). one x.holds) (λ word. one (is_claimed word)) r.holders o.holds;
        readers = moved (λ (x : Face). one x.reads) (λ word. one (is_reading word)) r.readers o.reads;
        claimers = moved (λ (x : Face). x.claims) (λ word. one (was_claimed word)) r.claimers o.claims;
        after = each (λ k word. was_claimed word ≡ true → all_good t words k ≡ true) (λ k ne e. more_good k (r.after k e)) (λ e. ⊎_elim (λ old. more_good n (r.after n old)) (λ new. more_good n new) (o.after e));
        skipped = each (λ k word. is_skipped word ≡ true → some_bad t words k ≡ true) (λ k ne e. more_bad k (r.skipped k e)) (λ e. ⊎_elim (λ old. more_bad n (r.skipped n old)) (λ new. more_bad n new) (o.skipped e));
        known = each-set (λ (u : View). (k : ℕ) → IsSo (word_at words k) (face u k)) s.views id w
            (λ j u there. each (λ k word. IsSo word (face u k)) (λ k ne. r.known j u there k)
            (let so : IsSo (word_at s.words n) (face u n) = r.known j u there n in record { built = λ e. o.good (so.built e); bad = λ e. o.bad (so.bad e); given = λ e. o.given (so.given e); claims = so.claims }))
            (each (λ k word. IsSo word (face w k)) (λ k ne. subst (IsSo (word_at s.words k)) (sym (o.else k ne)) (r.known id v at k)) o.known);
        slots = each (λ k word. (home : maybe.Option (Option Outcome)) → get_elem? homes k ≡ some home → Rests l t k word home) (λ k ne home e. r.slots k home (sym (fills.else k ne) ∙ e)) fills.here;
      }
