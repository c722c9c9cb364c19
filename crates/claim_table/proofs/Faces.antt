-- What views say of a node after each kind of step.
use Rattle.std.proofs.Common.{◌≡◌, ◌≢◌, ℕ, suc, ◌+◌, ◌≤◌, ◌==◌, Bool, true, false, ◌||◌, List, ◌∷◌, Some, None, refl, sym, ap, ◌∙◌, inl, inr, eq-eqb, ne_eqb, true≢false, arith, if◌then◌else◌}
use Rattle.claim_table.specs.declared.word.Word.{Word}
use Rattle.claim_table.specs.declared.word.Word.TheVariants.{Free, Claimed, Built, Failed, Reading, Skipped, Kept, Ignored, GivenUp}
use Rattle.claim_table.specs.declared.view.Task.{Task}
use Rattle.claim_table.specs.declared.view.View.{View}
use Rattle.claim_table.specs.Words.{is_good, is_bad, is_claimed, is_reading, is_skipped, is_kept_word, is_ignored_word, is_given_up, was_claimed}
use Rattle.claim_table.specs.Views.{one, held, times, Face, face, IsSo}
use Rattle.claim_table.specs.Rule.{all_good, some_bad}
use Rattle.claim_table.proofs.Placed.{Owes}
use Rattle.claim_table.proofs.Words.{is_ended}
use Rattle.bulk_model.specs.Installs.{has}
use Rattle.claim_table.specs.Changes.{put_if, after_look, after_claim, after_end, after_skip, after_begin, after_close}

-- two faces are one where their parts are
pub same-face : (f g : Face) → f.holds ≡ g.holds → f.reads ≡ g.reads → f.built ≡ g.built → f.bad ≡ g.bad → f.claims ≡ g.claims → f.given ≡ g.given → f ≡ g
same-face f g a b c d e h i = record { holds = a i; reads = b i; built = c i; bad = d i; claims = e i; given = h i }

apart : (n k : ℕ) → k ≢ n → (n == k) ≡ false
apart n k ne = ne_eqb n k (λ e. ne (sym e))

same : (n : ℕ) → (n == n) ≡ true
same n = eq-eqb n n refl

pub put-else : (b : Bool) (n k : ℕ) (ns : List ℕ) → k ≢ n → has (put_if b n ns) k ≡ has ns k
put-else true n k ns ne = ap (λ b. b || has ns k) (apart n k ne)
put-else false n k ns ne = refl

pub put-here : (b : Bool) (n : ℕ) (ns : List ℕ) → (has ns n ≡ true → b ≡ true) → has (put_if b n ns) n ≡ true → b ≡ true
put-here true n ns old e = refl
put-here false n ns old e = old e

or-least : (a b : Bool) → one b ≤ one (a || b)
or-least true true = omega arith
or-least true false = omega arith
or-least false b = omega arith

pub put-least : (b : Bool) (n k : ℕ) (ns : List ℕ) → one (has ns k) ≤ one (has (put_if b n ns) k)
put-least true n k ns = or-least (n == k) (has ns k)
put-least false n k ns = omega arith

pub put-one : (b : Bool) (n : ℕ) (ns : List ℕ) → one b ≤ one (has (put_if b n ns) n)
put-one true n ns = let e : one (has (n ∷ ns) n) ≡ 1 = ap (λ b. one (b || has ns n)) (same n) in omega arith
put-one false n ns = omega arith

held-else : (n k : ℕ) → k ≢ n → held (Some n) k ≡ false
held-else n k ne = apart n k ne

times-else : (n k : ℕ) (ns : List ℕ) → k ≢ n → times (n ∷ ns) k ≡ times ns k
times-else n k ns ne = ap (λ b. if b then suc (times ns k) else times ns k) (apart n k ne)

pub times-here : (n : ℕ) (ns : List ℕ) → times (n ∷ ns) n ≡ suc (times ns n)
times-here n ns = ap (λ b. if b then suc (times ns n) else times ns n) (same n)

-- where a claim may end
record Ends (word : Word) : Type 0 where
  kept : is_kept_word word ≡ false
  ignored : is_ignored_word word ≡ false
  claimed : is_claimed word ≡ false
  reading : is_reading word ≡ false
  was : was_claimed word ≡ true
  skipped : is_skipped word ≡ false
  somehow : one (is_good word) + (one (is_bad word) + one (is_given_up word)) ≡ 1

ends : (word : Word) → is_ended word ≡ true → Ends word
ends Built e = record { kept = refl; ignored = refl; claimed = refl; reading = refl; was = refl; skipped = refl; somehow = refl }
ends Failed e = record { kept = refl; ignored = refl; claimed = refl; reading = refl; was = refl; skipped = refl; somehow = refl }
ends GivenUp e = record { kept = refl; ignored = refl; claimed = refl; reading = refl; was = refl; skipped = refl; somehow = refl }
ends Free e = absurd (true≢false (sym e))
ends Claimed e = absurd (true≢false (sym e))
ends Reading e = absurd (true≢false (sym e))
ends Skipped e = absurd (true≢false (sym e))
ends Kept e = absurd (true≢false (sym e))
ends Ignored e = absurd (true≢false (sym e))

none-of : (b : Bool) → (b ≡ true → false ≡ true) → one b ≡ 0
none-of true f = absurd (true≢false (sym (f refl)))
none-of false f = refl

module _ (t : Task) (words : List ℕ) (n : ℕ) (v : View) where
  pub looks-owed : (word : Word) → IsSo word (face v n) → Owes t words n word word v (after_look n word v)
  looks-owed word so = record {
    good = λ e. e;
    bad = λ e. e;
    given = λ e. e;
    kept = refl;
    ignored = refl;
    task = refl;
    shares = refl;
    else = λ k ne. same-face (face (after_look n word v) k) (face v k) refl refl (put-else (is_good word) n k v.built ne) (put-else (is_bad word) n k v.bad ne) refl refl;
    holds = refl;
    reads = refl;
    claims = refl;
    known = record {
      built = put-here (is_good word) n v.built so.built;
      bad = put-here (is_bad word) n v.bad so.bad;
      given = so.given;
      claims = let x = put-least (is_good word) n n v.built in let y = put-least (is_bad word) n n v.bad in let z = so.claims in omega arith;
    };
    after = λ e. inl e;
    skipped = λ e. inl e;
  }

  pub claims-owed : v.holds ≡ None → times v.claims n ≡ 0 → all_good t words n ≡ true → IsSo Free (face v n) → Owes t words n Free Claimed v (after_claim n v)
  claims-owed idle fresh ready so =
      let off : (k : ℕ) → held v.holds k ≡ false = λ (k : ℕ). ap (λ h. held h k) idle in
      let off_here : one (held v.holds n) ≡ 0 = ap one (off n) in
      let on_here : one (held (Some n) n) ≡ 1 = ap one (same n) in
      let count : times (n ∷ v.claims) n ≡ suc (times v.claims n) = times-here n v.claims in
      record {
        good = λ e. e;
        bad = λ e. e;
        given = λ e. e;
        kept = refl;
        ignored = refl;
        task = refl;
        shares = refl;
        else = λ k ne. same-face (face (after_claim n v) k) (face v k) (held-else n k ne ∙ sym (off k)) refl refl refl (times-else n k v.claims ne) refl;
        holds = omega arith;
        reads = refl;
        claims = omega arith;
        known = record { built = so.built; bad = so.bad; given = so.given; claims = omega arith };
        after = λ _. inr ready;
        skipped = λ e. absurd (true≢false (sym e));
      }

  pub ends-owed : (word : Word) → is_ended word ≡ true → v.holds ≡ Some n → IsSo Claimed (face v n) → Owes t words n Claimed word v (after_end n word v)
  ends-owed word fits mine so =
      let on : (k : ℕ) → held v.holds k ≡ (n == k) = λ (k : ℕ). ap (λ h. held h k) mine in
      let on_here : one (held v.holds n) ≡ 1 = ap one (on n ∙ same n) in
      let w : View = after_end n word v in
      let q : Ends word = ends word fits in
      let no_built : one (has v.built n) ≡ 0 = none-of (has v.built n) so.built in
      let no_bad : one (has v.bad n) ≡ 0 = none-of (has v.bad n) so.bad in
      let no_given : one (has v.given n) ≡ 0 = none-of (has v.given n) so.given in
      let claimed_none : one (is_claimed word) ≡ 0 = ap one q.claimed in
      let reading_none : one (is_reading word) ≡ 0 = ap one q.reading in
      let claimed_once : one (was_claimed word) ≡ 1 = ap one q.was in
      record {
        good = λ e. absurd (true≢false (sym e));
        bad = λ e. absurd (true≢false (sym e));
        given = λ e. absurd (true≢false (sym e));
        kept = q.kept;
        ignored = q.ignored;
        task = refl;
        shares = refl;
        else = λ k ne. same-face (face w k) (face v k) (sym (on k ∙ apart n k ne)) refl (put-else (is_good word) n k v.built ne) (put-else (is_bad word) n k v.bad ne) refl (put-else (is_given_up word) n k v.given ne);
        holds = omega arith;
        reads = omega arith;
        claims = omega arith;
        known = record {
          built = put-here (is_good word) n v.built (λ e. absurd (true≢false (sym (so.built e))));
          bad = put-here (is_bad word) n v.bad (λ e. absurd (true≢false (sym (so.bad e))));
          given = put-here (is_given_up word) n v.given (λ e. absurd (true≢false (sym (so.given e))));
          claims = let x = put-one (is_good word) n v.built in let y = put-one (is_bad word) n v.bad in let z = put-one (is_given_up word) n v.given in let sum = q.somehow in let old = so.claims in omega arith;
        };
        after = λ _. inl refl;
        skipped = λ e. absurd (true≢false (sym e ∙ q.skipped));
      }

  pub skips-owed : some_bad t words n ≡ true → IsSo Free (face v n) → Owes t words n Free Skipped v (after_skip n v)
  skips-owed reason so = record {
    good = λ e. e;
    bad = λ e. absurd (true≢false (sym e));
    given = λ e. e;
    kept = refl;
    ignored = refl;
    task = refl;
    shares = refl;
    else = λ k ne. same-face (face (after_skip n v) k) (face v k) refl refl refl (put-else true n k v.bad ne) refl refl;
    holds = refl;
    reads = refl;
    claims = refl;
    known = record { built = so.built; bad = λ _. refl; given = so.given; claims = let x = put-least true n n v.bad in let old = so.claims in omega arith };
    after = λ e. absurd (true≢false (sym e));
    skipped = λ _. inr reason;
  }

  pub begins-owed : v.reads ≡ None → IsSo Built (face v n) → Owes t words n Built Reading v (after_begin n v)
  begins-owed idle so =
      let off : (k : ℕ) → held v.reads k ≡ false = λ (k : ℕ). ap (λ h. held h k) idle in
      let off_here : one (held v.reads n) ≡ 0 = ap one (off n) in
      let on_here : one (held (Some n) n) ≡ 1 = ap one (same n) in
      record {
        good = λ e. e;
        bad = λ e. e;
        given = λ e. e;
        kept = refl;
        ignored = refl;
        task = refl;
        shares = refl;
        else = λ k ne. same-face (face (after_begin n v) k) (face v k) refl (held-else n k ne ∙ sym (off k)) (put-else true n k v.built ne) refl refl refl;
        holds = refl;
        reads = omega arith;
        claims = refl;
        known = record { built = λ _. refl; bad = so.bad; given = so.given; claims = let x = put-least true n n v.built in let old = so.claims in omega arith };
        after = λ _. inl refl;
        skipped = λ e. absurd (true≢false (sym e));
      }

  pub closes-owed : v.reads ≡ Some n → IsSo Reading (face v n) → Owes t words n Reading Built v (after_close n v)
  closes-owed mine so =
      let on : (k : ℕ) → held v.reads k ≡ (n == k) = λ (k : ℕ). ap (λ h. held h k) mine in
      let on_here : one (held v.reads n) ≡ 1 = ap one (on n ∙ same n) in
      record {
        good = λ e. e;
        bad = λ e. e;
        given = λ e. e;
        kept = refl;
        ignored = refl;
        task = refl;
        shares = refl;
        else = λ k ne. same-face (face (after_close n v) k) (face v k) refl (sym (on k ∙ apart n k ne)) refl refl refl refl;
        holds = refl;
        reads = omega arith;
        claims = refl;
        known = record { built = so.built; bad = so.bad; given = so.given; claims = so.claims };
        after = λ _. inl refl;
        skipped = λ e. absurd (true≢false (sym e));
      }
