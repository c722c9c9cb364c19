-- A split and a join keep the rule.
use Rattle.std.proofs.Common.{◌≡◌, ℕ, suc, ◌+◌, ◌≤◌, ◌==◌, Bool, true, false, ◌||◌, List, [], ◌∷◌, ◌++◌, set, Option, None, refl, sym, ap, subst, ◌∙◌, ⊎_elim, true≢false, if◌then◌else◌, arith}
use Rattle.std.proofs.lemmas.List.Folds.{list_any-append}
use Rattle.std.proofs.lemmas.Bool.{or_cases}
use Rattle.atomic_table.specs.Table.{State, Splits, Joins}
use Rattle.atomic_table.proofs.Lists.{set_else}
use Rattle.bulk_model.specs.declared.outcome.Outcome.{Outcome}
use Rattle.claim_table.specs.declared.view.Task.{Task}
use Rattle.claim_table.specs.declared.view.View.{View}
use Rattle.bulk_base.specs.Totals.{total, At}
use Rattle.claim_table.specs.Words.{word_at, is_good, is_bad, is_given_up, was_claimed}
use Rattle.claim_table.specs.Told.{Lore}
use Rattle.claim_table.specs.Views.{one, held, times, face, IsSo}
use Rattle.claim_table.specs.Rule.{nobody, Fits, Ruled}
use Rattle.bulk_base.proofs.Totals.{total-set, total-snoc, total-two, each-set, each-snoc}
use Rattle.bulk_model.specs.Installs.{has}
use Rattle.claim_table.specs.Changes.{first_part, second_part, together}

-- other views that hold, read and claim together what these do
record Covers (t : Task) (words : List ℕ) (old new : List View) : Type 0 where
  shares : total (λ v. v.shares) new ≡ total (λ v. v.shares) old
  holders : (n : ℕ) → total (λ v. one (face v n).holds) new ≡ total (λ v. one (face v n).holds) old
  readers : (n : ℕ) → total (λ v. one (face v n).reads) new ≡ total (λ v. one (face v n).reads) old
  claimers : (n : ℕ) → total (λ v. (face v n).claims) new ≡ total (λ v. (face v n).claims) old
  fits : (i : ℕ) (v : View) → At new i v → Fits t v
  known : (i : ℕ) (v : View) → At new i v → (n : ℕ) → IsSo (word_at words n) (face v n)

pub has-append : (xs ys : List ℕ) (n : ℕ) → has (xs ++ ys) n ≡ (has xs n || has ys n)
has-append xs ys n = list_any-append (λ m. m == n) xs ys

times-append : (xs ys : List ℕ) (n : ℕ) → times (xs ++ ys) n ≡ times xs n + times ys n
times-append [] ys n = omega arith
times-append (x ∷ xs) ys n = by-test (x == n) (times-append xs ys n)
  where
    by-test : (b : Bool) → times (xs ++ ys) n ≡ times xs n + times ys n → (if b then suc (times (xs ++ ys) n) else times (xs ++ ys) n) ≡ (if b then suc (times xs n) else times xs n) + times ys n
    by-test true e = omega arith
    by-test false e = e

or-more : (a b : Bool) → (one a ≤ one (a || b)) × (one b ≤ one (a || b))
or-more true true = (omega arith, omega arith)
or-more true false = (omega arith, omega arith)
or-more false b = (omega arith, omega arith)

-- where either list is as it should be, both together are
either-so : (xs ys : List ℕ) (n : ℕ) (b : Bool) → (has xs n ≡ true → b ≡ true) → (has ys n ≡ true → b ≡ true) → has (xs ++ ys) n ≡ true → b ≡ true
either-so xs ys n b f g e = ⊎_elim f g (or_cases (has xs n) (has ys n) (sym (has-append xs ys n) ∙ e))

either-more : (xs ys : List ℕ) (n : ℕ) → (one (has xs n) ≤ one (has (xs ++ ys) n)) × (one (has ys n) ≤ one (has (xs ++ ys) n))
either-more xs ys n = subst (λ b. (one (has xs n) ≤ one b) × (one (has ys n) ≤ one b)) (sym (has-append xs ys n)) (or-more (has xs n) (has ys n))

one-off : (h : Option ℕ) (n : ℕ) → h ≡ None → one (held h n) ≡ 0
one-off h n e = ap (λ x. one (held x n)) e

module _ (l : Lore) (t : Task) where
  recast : (s : State (Option Outcome) View) (new : List View) → Ruled l t s → Covers t s.words s.views new → Ruled l t (record { words = s.words; homes = s.homes; views = new })
  recast s new r c = record {
    size = r.size;
    places = r.places;
    spare = r.spare;
    shares = c.shares ∙ r.shares;
    fits = c.fits;
    kept = r.kept;
    ignored = r.ignored;
    holders = λ n. c.holders n ∙ r.holders n;
    readers = λ n. c.readers n ∙ r.readers n;
    claimers = λ n. c.claimers n ∙ r.claimers n;
    after = r.after;
    skipped = r.skipped;
    known = c.known;
    slots = r.slots;
  }

  pub splits-allowed : (id : ℕ) (v : View) → 2 ≤ v.shares → v.holds ≡ None → v.reads ≡ None → Splits (Ruled l t) id v (first_part v) (second_part v)
  splits-allowed id v two idle unread s r at =
      let a : View = first_part v in let b : View = second_part v in
      let sum : (f : View → ℕ) → total f (set s.views id a ++ b ∷ []) + f v ≡ (total f s.views + f a) + f b = λ (f : View → ℕ). let p : total f (set s.views id a) + f v ≡ total f s.views + f a = total-set f s.views id v a at in let q : total f (set s.views id a ++ b ∷ []) ≡ total f (set s.views id a) + f b = total-snoc f (set s.views id a) b in omega arith in
      let new : List View = set s.views id a ++ b ∷ [] in
      let fit : Fits t v = r.fits id v at in
      let some_share : 1 ≤ v.shares = omega arith in
      recast s new r (record {
        shares = let f : View → ℕ = λ (u : View). u.shares in let p : total f new + f v ≡ (total f s.views + f a) + f b = sum f in omega arith;
        holders = λ n. let f : View → ℕ = λ (u : View). one (face u n).holds in let p : total f new + f v ≡ (total f s.views + f a) + f b = sum f in let off : f b ≡ 0 = one-off v.holds n idle in let same : f a ≡ f v = refl in omega arith;
        readers = λ n. let f : View → ℕ = λ (u : View). one (face u n).reads in let p : total f new + f v ≡ (total f s.views + f a) + f b = sum f in let off : f b ≡ 0 = one-off v.reads n unread in let same : f a ≡ f v = refl in omega arith;
        claimers = λ n. let f : View → ℕ = λ (u : View). (face u n).claims in let p : total f new + f v ≡ (total f s.views + f a) + f b = sum f in let off : f b ≡ 0 = refl in let same : f a ≡ f v = refl in omega arith;
        fits = each-snoc (Fits t) (set s.views id a) b (each-set (Fits t) s.views id a r.fits (record { about = λ _. fit.about some_share; spent = λ nil. absurd (omega arith) })) (record { about = λ _. fit.about some_share; spent = λ nil. absurd (omega arith) });
        known = let P : View → Type 0 = λ (u : View). (n : ℕ) → IsSo (word_at s.words n) (face u n) in each-snoc P (set s.views id a) b (each-set P s.views id a r.known (r.known id v at))
            (λ n. let so = r.known id v at n in record { built = so.built; bad = so.bad; given = λ e. absurd (true≢false (sym e)); claims = omega arith });
      })

  pub joins-allowed : (id other : ℕ) (v w : View) → 1 ≤ v.shares → 1 ≤ w.shares → v.holds ≡ None → w.holds ≡ None → v.reads ≡ None → w.reads ≡ None → Joins (Ruled l t) id v other w (together v w) nobody
  joins-allowed id other v w some_v some_w idle_v idle_w unread_v unread_w s r at ne there =
      let b : View = together v w in
      let there_first : At s.views other w = sym (set_else s.views id other b ne) ∙ there in
      let new : List View = set (set s.views id b) other nobody in
      let sum : (f : View → ℕ) → (total f new + f w) + f v ≡ (total f s.views + f b) + f nobody = λ (f : View → ℕ). let p : total f (set s.views id b) + f v ≡ total f s.views + f b = total-set f s.views id v b at in let q : total f (set (set s.views id b) other nobody) + f w ≡ total f (set s.views id b) + f nobody = total-set f (set s.views id b) other w nobody there in omega arith in
      let each : (P : View → Type 0) → ((j : ℕ) (u : View) → At s.views j u → P u) → P b → P nobody → (j : ℕ) (u : View) → At new j u → P u = λ (P : View → Type 0) h x y. each-set P (set s.views id b) other nobody (each-set P s.views id b h x) y in
      let fit : Fits t v = r.fits id v at in
      recast s new r (record {
        shares = let f : View → ℕ = λ (u : View). u.shares in let p : (total f new + f w) + f v ≡ (total f s.views + f b) + f nobody = sum f in omega arith;
        holders = λ n. let f : View → ℕ = λ (u : View). one (face u n).holds in let p : (total f new + f w) + f v ≡ (total f s.views + f b) + f nobody = sum f in let off : f w ≡ 0 = one-off w.holds n idle_w in let same : f b ≡ f v = refl in let nil : f nobody ≡ 0 = refl in omega arith;
        readers = λ n. let f : View → ℕ = λ (u : View). one (face u n).reads in let p : (total f new + f w) + f v ≡ (total f s.views + f b) + f nobody = sum f in let off : f w ≡ 0 = one-off w.reads n unread_w in let same : f b ≡ f v = refl in let nil : f nobody ≡ 0 = refl in omega arith;
        claimers = λ n. let f : View → ℕ = λ (u : View). (face u n).claims in let p : (total f new + f w) + f v ≡ (total f s.views + f b) + f nobody = sum f in let both : f b ≡ f v + f w = times-append v.claims w.claims n in let nil : f nobody ≡ 0 = refl in omega arith;
        fits = each (Fits t) r.fits (record { about = λ _. fit.about some_v; spent = λ nil. absurd (omega arith) }) (record { about = λ e. absurd (omega arith); spent = λ _. refl });
        known = let P : View → Type 0 = λ (u : View). (n : ℕ) → IsSo (word_at s.words n) (face u n) in each P r.known
            (λ n.
            let x = r.known id v at n in
            let y = r.known other w there_first n in
            let f : View → ℕ = λ (u : View). (face u n).claims in
            let two : f v + f w ≤ total f s.views = total-two f s.views id other v w at there_first (λ e. ne (sym e)) in
            let sum_of : total f s.views ≡ one (was_claimed (word_at s.words n)) = r.claimers n in
            let most : one (was_claimed (word_at s.words n)) ≤ 1 = at-most (was_claimed (word_at s.words n)) in
            let both : f b ≡ f v + f w = times-append v.claims w.claims n in
            let off_v : one (held v.holds n) ≡ 0 = one-off v.holds n idle_v in
            let off_w : one (held w.holds n) ≡ 0 = one-off w.holds n idle_w in
            let built = either-more v.built w.built n in
            let bad = either-more v.bad w.bad n in
            let given = either-more v.given w.given n in
            record {
              built = either-so v.built w.built n (is_good (word_at s.words n)) x.built y.built;
              bad = either-so v.bad w.bad n (is_bad (word_at s.words n)) x.bad y.bad;
              given = either-so v.given w.given n (is_given_up (word_at s.words n)) x.given y.given;
              claims = let cx = x.claims in let cy = y.claims in omega arith;
            })
            (λ n. record { built = λ e. absurd (true≢false (sym e)); bad = λ e. absurd (true≢false (sym e)); given = λ e. absurd (true≢false (sym e)); claims = omega arith });
      })
    where
      at-most : (x : Bool) → one x ≤ 1
      at-most true = omega arith
      at-most false = omega arith
