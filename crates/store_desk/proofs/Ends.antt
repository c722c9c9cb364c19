-- The desk as it is made and as it is closed.
use Rattle.std.proofs.Common.{◌≡◌, ◌≢◌, ℕ, ◌+◌, ◌≤◌, ◌==◌, Bool, true, false, ◌||◌, List, [], ◌∷◌, replicate, length, nat_lt, slice_index, Option, Some, None, refl, sym, ap, subst, ◌∙◌, inr, arith}
use mathlib.Core.Option.{some, some-injective}
use Rattle.std.proofs.lemmas.Bool.Decides.{nat_tests}
use Rattle.std.proofs.lemmas.List.{append-nil, length-replicate}
use Rattle.store_desk.proofs.Marks.{none-marked, newly-none}
use lib.ListN.{get_elem?}
use Rattle.atomic_table.specs.Table.{Final, Seen, opening}
use Rattle.store_desk.specs.declared.view.Origin.{Origin}
use Rattle.store_desk.specs.declared.view.View.{View}
use Rattle.store_desk.specs.declared.view.Held.{Held}
use Rattle.store_desk.specs.Told.{Lore}
use Rattle.store_desk.specs.Rule.{all_shares, nobody, beginner, first_view, Fits, Ruled}
use Rattle.bulk_base.specs.Totals.{total, At}
use Rattle.store_desk.specs.Rule.Place.{free, taken, empty}
use Rattle.store_desk.specs.Seats.{IsClosed, IsFirst, front}
use Rattle.bulk_base.proofs.Totals.{total-two, total-alone, alone}
use Rattle.bulk_model.specs.Installs.{has}
use Rattle.store_desk.proofs.Puts.{written-same}
use Rattle.store_desk.proofs.Turns.{filled}
use Rattle.store_desk.specs.Changes.{after_give}
use Rattle.bulk_model.specs.Flags.{flag}
use Rattle.store_desk.specs.Marks.{one, times, newly}
use Rattle.store_desk.specs.Written.{IsSound}

-- what stands in a list is found there
has-of : (n : ℕ) (ns : List ℕ) → 1 ≤ times n ns → has ns n ≡ true
has-of n [] h = absurd (omega arith)
has-of n (x ∷ xs) h = by-test (x == n) (has-of n xs) h
  where
    by-test : (b : Bool) → (1 ≤ times n xs → has xs n ≡ true) → 1 ≤ one b + times n xs → (b || has xs n) ≡ true
    by-test true more g = refl
    by-test false more g = more (omega arith)

module _ {X : Type 0} (l : Lore X) (o : Origin) where
  pub begins : Ruled {X = X} l o (opening (2 ∷ []) (replicate 1 None) (first_view o))
  begins = record {
    shares = refl;
    turns = refl;
    place = empty refl refl;
    fits = λ i u e. subst (Fits o) (alone (first_view o) u i e).0 (record { about = λ _. refl; spent = λ nil. absurd (omega arith); first = λ _. omega arith; since = omega arith });
    home = λ k e. absurd (cc);
    away = λ i u e t. absurd (let off : false ≡ u.turn = ap (λ (x : View). x.turn) (alone (first_view o) u i e).0 in cc);
    marks = inr (record { turn = false; only = refl; word = refl });
  }

  pub closes : (id : ℕ) (v : View) (words : List ℕ) (slots : List (Option (Held X))) → v.shares ≡ all_shares → v.mark ≡ true → v.turn ≡ false
      → Final (Seen (Ruled l o) id v) words slots → (h : Held X) × (get_elem? slots 0 ≡ some (Some h)) × IsClosed l o v h.store h.saved
  closes id v words slots all mark off final =
      let s = final.0 in
      let r : Ruled l o s = final.1.0 in
      let at : At s.views id v = final.1.1 in
      let spent : (j : ℕ) (u : View) → At s.views j u → j ≢ id → u ≡ nobody = λ j (u : View) there ne. (r.fits j u there).spent (let f : View → ℕ = λ (x : View). x.shares in let two : f v + f u ≤ total f s.views = total-two f s.views id j v u at there (λ e. ne (sym e)) in let sum : total f s.views ≡ all_shares = r.shares in omega arith) in
      let only : (f : View → ℕ) → f nobody ≡ 0 → total f s.views ≡ f v = λ (f : View → ℕ) nil. total-alone f s.views id v at (λ j u there ne. ap f (spent j u there ne) ∙ nil) in
      let turns : total (λ u. one u.turn) s.views ≡ 0 = only (λ (u : View). one u.turn) refl ∙ ap one off in
      elim r.place [
        | free h ew eh ↦ (
          h,
          final.4 0 (Some h) (ap (λ hs. get_elem? hs 0) eh),
          (let a = (r.home h eh).1 in
              let sound : IsSound l o h = (r.home h eh).0 in
              let mine : (n : ℕ) → flag h.tried n ≡ true → has v.mine n ≡ true = λ n e. has-of n v.mine (let f : View → ℕ = λ (u : View). times n u.mine in let some_mine : 1 ≤ total f s.views = a.tried n e in let same : total f s.views ≡ f v = only f refl in omega arith) in record {
                places = sound.rooms;
                known = a.known id v at;
                closed = sound.closed;
                written = λ tells. written-same l o h.saved h.saved (flag h.tried) (has v.mine) (l.journal h.store) (l.journal h.store) (l.content h.store) (l.content h.store) (sound.written tells) refl refl mine (λ k e. e);
                seen = a.seen id v at;
                still = λ calm. a.still (only (λ (u : View). one u.rose) refl ∙ ap one calm);
              }),
        )
        | taken ew eh ↦ absurd (let one_turn : total (λ u. one u.turn) s.views ≡ 1 = r.turns ∙ ap (λ (ws : List ℕ). one (slice_index ws 0 == 1)) ew in omega arith)
        | empty ew eh ↦ absurd ((filled l o s id v r at mark).word ew)
      ]

  -- the same as the calls of a close tell it
  pub slot-told : (id : ℕ) (v u : View) (words : List ℕ) (slots : List (Option (Held X))) (x : Option (Held X)) → u ≡ v → u.mark ≡ true → u.turn ≡ false → v.shares ≡ all_shares
      → Final (Seen (Ruled l o) id v) words slots → get_elem? slots 0 ≡ some x → (h : Held X) × (x ≡ Some h) × IsClosed l o v h.store h.saved
  slot-told id v u words slots x same mark off all final is =
      let c = closes id v words slots all (ap (λ (y : View). y.mark) (sym same) ∙ mark) (ap (λ (y : View). y.turn) (sym same) ∙ off) final in
      (c.0, some-injective x (Some c.0) (sym is ∙ c.1), c.2)

  -- what a desk is made with
  pub first-sound : (h : Held X) (count : ℕ) → count ≡ length o.plan.jobs → h.saved ≡ replicate count false → h.tried ≡ replicate count false → l.journal h.store ≡ o.journal → l.content h.store ≡ o.content → IsSound l o h
  first-sound h count size saved tried journal content = record {
    rooms = ap length saved ∙ length-replicate count false ∙ size;
    places = ap length tried ∙ length-replicate count false ∙ size;
    closed = λ n e. absurd (let nil : flag h.saved n ≡ false = ap (λ (xs : List Bool). flag xs n) saved ∙ none-marked count n in cc);
    written = λ _. record {
      puts = [];
      since = journal ∙ sym (append-nil o.journal);
      replays = content;
      ordered = tt;
      saved_put = λ n e. absurd (let nil : flag h.saved n ≡ false = ap (λ (xs : List Bool). flag xs n) saved ∙ none-marked count n in cc);
      put_tried = λ n e. absurd (cc);
    };
  }

  -- the first seat
  pub first-seat : (h : Held X) (count : ℕ) (views : List View) → h.saved ≡ replicate count false → h.tried ≡ replicate count false → l.faults h.store ≡ o.first → views ≡ after_give l.faults (beginner o true) h ∷ [] → IsFirst o (front views)
  first-seat h count views saved tried same is =
      let e : front views ≡ after_give l.faults (beginner o true) h = ap front is in
      subst (IsFirst o) (sym e) (record {
        origin = refl;
        shares = refl;
        seen = same;
        since = refl;
        known = λ n. ap (λ (xs : List Bool). flag xs n) saved ∙ none-marked count n;
        mine = ap (λ (xs : List Bool). newly 0 [] xs) tried ∙ newly-none count 0;
        rose = ap (λ (k : ℕ). nat_lt o.first k) same ∙ below-none o.first;
      })
    where
      below-none : (n : ℕ) → nat_lt n n ≡ false
      below-none n = grind (arith, nat_tests)
