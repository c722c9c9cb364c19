-- The steps that take the turn and give it back keep the rule.
use Rattle.std.proofs.Common.{◌≡◌, ◌⊎◌, ℕ, zero, suc, ◌+◌, ◌≤◌, ◌==◌, Bool, true, false, ◌||◌, List, [], ◌∷◌, set, slice_index, Option, Some, None, refl, sym, ap, subst, ◌∙◌, inl, inr, ⊎_elim, nat_lt, if◌then◌else◌, arith}
use mathlib.Core.Option.{some, none, some-ne-none}
use mathlib.Core.Option as maybe
use prog.Atomic.{either}
use Rattle.std.proofs.lemmas.Bool.Decides.{nat_tests}
use Rattle.atomic_table.specs.Table.{State, Me, Act, Valid, Allows, stepped, keeps, takes, gives, carried_after, rest}
use Rattle.atomic_table.proofs.Lists.{at_set, set_again}
use Rattle.store_desk.specs.declared.view.Origin.{Origin}
use Rattle.store_desk.specs.declared.view.View.{View}
use Rattle.store_desk.specs.declared.view.Held.{Held}
use Rattle.store_desk.specs.Told.{Lore}
use Rattle.store_desk.specs.Rule.{all_shares, beginner, first_view, Fits, Above, AllMarked, IsFresh, IsFilled, Ruled}
use Rattle.bulk_base.specs.Totals.{total, At}
use Rattle.store_desk.specs.Rule.Place.{free, taken, empty}
use Rattle.bulk_base.proofs.Totals.{total-set, total-least, each-set, alone}
use Rattle.store_desk.proofs.Marks.{newly-has, times-append}
use Rattle.bulk_model.specs.Flags.{flag, Within}
use Rattle.store_desk.specs.Marks.{one, times, newly}
use Rattle.store_desk.specs.Written.{IsSound}
use Rattle.store_desk.specs.Changes.{after_take, after_give}
use Rattle.store_desk.specs.Steps.{TakeTurn, takes_then, first_takes_then, gives_then}

-- a state of the table
abbrev pub at_words : {X : Type 0} → List ℕ → List (maybe.Option (Option (Held X))) → List View → State (Option (Held X)) View
at_words words homes views = record { words = words; homes = homes; views = views }

some_of : {A : Type 0} {x y : A} → Some x ≡ Some y → x ≡ y
some_of e = cc

one-below : (b : Bool) → one b ≤ 0 → b ≡ false
one-below true h = absurd (omega arith)
one-below false h = refl

-- where the sum of turns is 0 no view has one
pub no-turn : (views : List View) (i : ℕ) (v : View) → total (λ u. one u.turn) views ≡ 0 → At views i v → v.turn ≡ false
no-turn views i v nil at = let least : one v.turn ≤ total (λ u. one u.turn) views = total-least (λ u. one u.turn) views i v at in one-below v.turn (omega arith)

-- a change of a view that shows no more, tried the same and has no new rise
pub above-set : (o : Origin) (count : ℕ) (saved called : List Bool) (views : List View) (i : ℕ) (v w : View)
    → At views i v → w.seen ≤ count → Within w.known saved → w.mine ≡ v.mine → w.rose ≡ v.rose
    → Above o count saved called views → Above o count saved called (set views i w)
above-set o count saved called views i v w at seen known mine rose a = record {
  seen = each-set (λ (u : View). u.seen ≤ count) views i w a.seen seen;
  known = each-set (λ (u : View). Within u.known saved) views i w a.known known;
  still = λ nil. let f : View → ℕ = λ (u : View). one u.rose in let sum : total f (set views i w) + f v ≡ total f views + f w = total-set f views i v w at in let same : f w ≡ f v = ap one rose in let none2 : total f (set views i w) ≡ 0 = nil in a.still (omega arith);
  tried = λ n e. let f : View → ℕ = λ (u : View). times n u.mine in let sum : total f (set views i w) + f v ≡ total f views + f w = total-set f views i v w at in let same : f w ≡ f v = ap (times n) mine in let old : 1 ≤ total f views = a.tried n e in omega arith;
}

module _ {X : Type 0} (l : Lore X) (o : Origin) where
  -- a view with the mark stands where every view has it
  pub filled : (s : State (Option (Held X)) View) (i : ℕ) (v : View) → Ruled l o s → At s.views i v → v.mark ≡ true → IsFilled s.words s.views
  filled s i v r at mark =
      ⊎_elim (λ f. f) (λ f. let here : At (beginner o f.turn ∷ []) i v = subst (λ (vs : List View). At vs i v) f.only at in let same : beginner o f.turn ≡ v = (alone (beginner o f.turn) v i here).0 in absurd (let e : false ≡ true = ap (λ (u : View). u.mark) same ∙ mark in cc)) r.marks

  -- the turn is taken with the store
  pub takes-free : (views : List View) (id : ℕ) (v : View) (h : Held X)
      → 1 ≤ v.shares → v.mark ≡ true
      → Ruled l o (at_words (0 ∷ []) (some (Some h) ∷ []) views) → At views id v
      → Ruled l o (at_words (1 ∷ []) (none ∷ []) (set views id (after_take l.faults v h)))
  takes-free views id v h share mark r at =
      let w : View = after_take l.faults v h in
      let fit : Fits o v = r.fits id v at in
      let above : Above o (l.faults h.store) h.saved h.tried views = (r.home h refl).1 in
      let filled_before : IsFilled (0 ∷ []) views = filled (at_words (0 ∷ []) (some (Some h) ∷ []) views) id v r at mark in
      let after : Above o (l.faults h.store) h.saved h.tried (set views id w) = above-set o (l.faults h.store) h.saved h.tried views id v w at (omega arith) (λ n e. e) refl refl above in
      let turns : total (λ u. one u.turn) views ≡ 0 = r.turns in
      let seen : v.seen ≤ l.faults h.store = above.seen id v at in
      record {
        shares = let f : View → ℕ = λ (u : View). u.shares in let sum : total f (set views id w) + f v ≡ total f views + f w = total-set f views id v w at in let old : total f views ≡ all_shares = r.shares in omega arith;
        turns = let f : View → ℕ = λ (u : View). one u.turn in let sum : total f (set views id w) + f v ≡ total f views + f w = total-set f views id v w at in let off : f v ≡ 0 = ap one (no-turn views id v turns at) in omega arith;
        place = taken refl refl;
        fits = each-set (Fits o) views id w r.fits (record {
          about = fit.about;
          spent = λ nil. absurd (omega arith);
          first = λ some_share. let f1 : o.first ≤ v.since = fit.first share in let f2 : v.since ≤ v.seen = fit.since in omega arith;
          since = omega arith;
        });
        home = λ k e. absurd (cc);
        away = λ j u there turn. ⊎_elim (λ t. subst (λ (x : View). Above o x.seen x.known x.heard (set views id w)) t.1 after) (λ t. absurd (let off : u.turn ≡ false = no-turn views j u turns t.1 in cc)) (at_set views id j w u there);
        marks = inl (record { marked = each-set (λ (u : View). u.mark ≡ true) views id w filled_before.marked mark; word = λ e. absurd (cc) });
      }

  opened-above : Above o o.first [] [] (beginner o true ∷ [])
  opened-above = record {
    seen = λ i u e. subst (λ (x : View). x.seen ≤ o.first) (alone (beginner o true) u i e).0 (omega arith);
    known = λ i u e. subst (λ (x : View). Within x.known []) (alone (beginner o true) u i e).0 (λ n t. t);
    still = λ _. refl;
    tried = λ n e. absurd (cc);
  }

  opened-first : Ruled {X = X} l o (at_words (1 ∷ []) (none ∷ []) (beginner o true ∷ []))
  opened-first = record {
    shares = refl;
    turns = refl;
    place = taken refl refl;
    fits = λ i u e. subst (Fits o) (alone (beginner o true) u i e).0 (record { about = λ _. refl; spent = λ nil. absurd (omega arith); first = λ _. omega arith; since = omega arith });
    home = λ k e. absurd (cc);
    away = λ i u e t. subst (λ (x : View). Above o x.seen x.known x.heard (beginner o true ∷ [])) (alone (beginner o true) u i e).0 opened-above;
    marks = inr (record { turn = true; only = refl; word = refl });
  }

  only-set : (b v w : View) (id : ℕ) → At (b ∷ []) id v → set (b ∷ []) id w ≡ w ∷ []
  only-set b v w zero at = refl
  only-set b v w (suc id) at = absurd (some-ne-none v (sym at))

  -- the first turn, from an empty slot
  pub first-takes-empty : (views : List View) (id : ℕ) (b v : View) → views ≡ b ∷ [] → At views id v
      → Ruled {X = X} l o (at_words (1 ∷ []) (none ∷ []) (set views id (beginner o true)))
  first-takes-empty views id b v only at =
      let here : At (b ∷ []) id v = subst (λ (vs : List View). At vs id v) only at in
      let e : set views id (beginner o true) ≡ beginner o true ∷ [] = ap (λ (vs : List View). set vs id (beginner o true)) only ∙ only-set b v (beginner o true) id here in
      subst (λ (vs : List View). Ruled {X = X} l o (at_words (1 ∷ []) (none ∷ []) vs)) (sym e) opened-first

  known-or-not : (b : Bool) → (b ≡ true) ⊎ (b ≡ false)
  known-or-not true = inl refl
  known-or-not false = inr refl

  or-none : (a b : Bool) → one (a || b) ≤ 0 → (a ≡ false) × (b ≡ false)
  or-none true b h = absurd (omega arith)
  or-none false true h = absurd (omega arith)
  or-none false false h = (refl, refl)

  gives-above : (views : List View) (id : ℕ) (v : View) (h : Held X)
      → v.seen ≤ l.faults h.store → Within v.known h.saved
      → Above o v.seen v.known v.heard views → At views id v
      → Above o (l.faults h.store) h.saved h.tried (set views id (after_give l.faults v h))
  gives-above views id v h later more a at =
      let w : View = after_give l.faults v h in record {
        seen = each-set (λ (u : View). u.seen ≤ l.faults h.store) views id w (λ j u t. let below : u.seen ≤ v.seen = a.seen j u t in omega arith) (omega arith);
        known = each-set (λ (u : View). Within u.known h.saved) views id w (λ j u t n e. more n (a.known j u t n e)) (λ n e. e);
        still = λ nil.
            let f : View → ℕ = λ (u : View). one u.rose in
            let sum : total f (set views id w) + f v ≡ total f views + f w = total-set f views id v w at in
            let least : f v ≤ total f views = total-least f views id v at in
            let none_now : total f (set views id w) ≡ 0 = nil in
            let off : f w ≤ 0 = omega arith in
            let parts = or-none v.rose (nat_lt v.seen (l.faults h.store)) off in
            let calm : f v ≡ 0 = ap one parts.0 in
            let before : v.seen ≡ o.first = a.still (omega arith) in
            let stays : nat_lt v.seen (l.faults h.store) ≡ false = parts.1 in
            grind (arith, nat_tests);
        tried = λ n e.
            let f : View → ℕ = λ (u : View). times n u.mine in
            let sum : total f (set views id w) + f v ≡ total f views + f w = total-set f views id v w at in
            let grown : f w ≡ f v + times n (newly 0 v.heard h.tried) = times-append n v.mine (newly 0 v.heard h.tried) in
            let least : f v ≤ total f views = total-least f views id v at in
            ⊎_elim (λ t. let old : 1 ≤ total f views = a.tried n t in omega arith) (λ t. let new : 1 ≤ times n (newly 0 v.heard h.tried) = newly-has v.heard h.tried n t e in omega arith) (known-or-not (flag v.heard n));
      }

  marked-after : (words : List ℕ) (views : List View) (id : ℕ) (v w : View) → IsFilled words views ⊎ IsFresh o words views → At views id v → w.mark ≡ true → AllMarked (set views id w)
  marked-after words views id v w marks at mark j u there =
      ⊎_elim (λ f. each-set (λ (x : View). x.mark ≡ true) views id w f.marked mark j u there)
      (λ f. ⊎_elim (λ t. subst (λ (x : View). x.mark ≡ true) t.1 mark)
      (λ t.
      let b : View = beginner o f.turn in
      let first : At (b ∷ []) id v = subst (λ (vs : List View). At vs id v) f.only at in
      let second : At (b ∷ []) j u = subst (λ (vs : List View). At vs j u) f.only t.1 in
      absurd (t.0 ((alone b u j second).1 ∙ sym (alone b v id first).1)))
      (at_set views id j w u there))
      marks

  -- the turn is given back with a store
  pub gives-taken : (views : List View) (id : ℕ) (v : View) (h : Held X)
      → 1 ≤ v.shares → v.turn ≡ true → IsSound l o h → v.seen ≤ l.faults h.store → Within v.known h.saved
      → Ruled l o (at_words (1 ∷ []) (none ∷ []) views) → At views id v
      → Ruled l o (at_words (0 ∷ []) (some (Some h) ∷ []) (set views id (after_give l.faults v h)))
  gives-taken views id v h share turn sound later more r at =
      let w : View = after_give l.faults v h in
      let fit : Fits o v = r.fits id v at in
      let above = gives-above views id v h later more (r.away id v at turn) at in
      let f : View → ℕ = λ (u : View). one u.turn in
      let sum : total f (set views id w) + f v ≡ total f views + f w = total-set f views id v w at in
      let taken_before : total f views ≡ 1 = r.turns in
      let mine : f v ≡ 1 = ap one turn in
      let off : f w ≡ 0 = refl in
      let free_now : total f (set views id w) ≡ 0 = omega arith in
      record {
        shares = let g : View → ℕ = λ (u : View). u.shares in let all : total g (set views id w) + g v ≡ total g views + g w = total-set g views id v w at in let old : total g views ≡ all_shares = r.shares in omega arith;
        turns = free_now;
        place = free h refl refl;
        fits = each-set (Fits o) views id w r.fits (record {
          about = fit.about;
          spent = λ nil. absurd (omega arith);
          first = fit.first;
          since = let below : v.since ≤ v.seen = fit.since in omega arith;
        });
        home = λ k e. let same : h ≡ k = cc in subst (λ (x : Held X). IsSound l o x × Above o (l.faults x.store) x.saved x.tried (set views id w)) same (sound, above);
        away = λ j u there t. absurd (let none_now : u.turn ≡ false = no-turn (set views id w) j u free_now there in cc);
        marks = inl (record { marked = marked-after (1 ∷ []) views id v w r.marks at refl; word = λ e. absurd (cc) });
      }

  -- what an exchange that wants the turn owes
  pub takes-allowed : (slots id : ℕ) (v : View) → 1 ≤ v.shares → v.mark ≡ true → Allows (Ruled l o) slots id (v, []) 0 (λ n. either (n == 0) 1 n) (takes_then l (v, []))
  takes-allowed slots id v share mark s r len at small =
      let Goal : List ℕ → List (maybe.Option (Option (Held X))) → Type 0 = λ ws hs. Ruled l o (at_words ws hs s.views) → (w : View) × (a : Act (Option (Held X))) × Valid hs [] a × Ruled l o (stepped (at_words ws hs s.views) 0 (either (slice_index ws 0 == 0) 1 (slice_index ws 0)) id [] w a) × takes_then l (v, []) (slice_index ws 0) (w, carried_after [] a) in
      elim r.place [
        | free h ew eh ↦
            let here : Goal (0 ∷ []) (some (Some h) ∷ []) = λ q. (
              after_take l.faults v h,
              takes 0 (Some h),
              refl,
              takes-free s.views id v h share mark q at,
              (
                (λ ne. absurd (ne refl)),
                (λ _. record {
                  held = h;
                  sound = λ p e. let same : o ≡ p = some_of ((sym ((q.fits id v at).about share)) ∙ e) in subst (λ (x : Origin). IsSound l x h) same (q.home h refl).0;
                  later = (q.home h refl).1.seen id v at;
                  known = (q.home h refl).1.known id v at;
                  is = refl;
                }),
              ),
            ) in
            subst (λ (ws : List ℕ). Goal ws s.homes) (sym ew) (subst (λ (hs : List (maybe.Option (Option (Held X)))). Goal (0 ∷ []) hs) (sym eh) here) r
        | taken ew eh ↦
            let here : Goal (1 ∷ []) (none ∷ []) = λ q. (v, keeps, tt, subst (λ (vs : List View). Ruled l o (at_words (1 ∷ []) (none ∷ []) vs)) (sym (set_again s.views id v at)) q, ((λ _. record { is = refl }), (λ e. absurd (omega arith)))) in
            subst (λ (ws : List ℕ). Goal ws s.homes) (sym ew) (subst (λ (hs : List (maybe.Option (Option (Held X)))). Goal (1 ∷ []) hs) (sym eh) here) r
        | empty ew eh ↦ absurd ((filled s id v r at mark).word ew)
      ]

  -- what giving the turn back owes
  pub gives-allowed : (slots id : ℕ) (v : View) (h : Held X) → 1 ≤ v.shares → v.turn ≡ true → IsSound l o h → v.seen ≤ l.faults h.store → Within v.known h.saved
      → Allows (Ruled l o) slots id (v, (0, Some h) ∷ []) 0 (λ _. 0) (λ _. gives_then l (v, (0, Some h) ∷ []) 0)
  gives-allowed slots id v h share turn sound later more s r len at small =
      let Goal : List ℕ → List (maybe.Option (Option (Held X))) → Type 0 = λ ws hs. Ruled l o (at_words ws hs s.views) → (w : View) × (a : Act (Option (Held X))) × Valid hs ((0, Some h) ∷ []) a × Ruled l o (stepped (at_words ws hs s.views) 0 0 id ((0, Some h) ∷ []) w a) × gives_then l (v, (0, Some h) ∷ []) 0 (w, carried_after ((0, Some h) ∷ []) a) in
      elim r.place [
        | free k ew eh ↦ absurd (let nil : total (λ u. one u.turn) s.views ≡ 0 = r.turns ∙ ap (λ (ws : List ℕ). one (slice_index ws 0 == 1)) ew in let off : v.turn ≡ false = no-turn s.views id v nil at in cc)
        | taken ew eh ↦
            let here : Goal (1 ∷ []) (none ∷ []) = λ q. (after_give l.faults v h, gives, tt, gives-taken s.views id v h share turn sound later more q at, record { held = h; slot = refl; is = refl }) in
            subst (λ (ws : List ℕ). Goal ws s.homes) (sym ew) (subst (λ (hs : List (maybe.Option (Option (Held X)))). Goal (1 ∷ []) hs) (sym eh) here) r
        | empty ew eh ↦ absurd (let nil : total (λ u. one u.turn) s.views ≡ 0 = r.turns ∙ ap (λ (ws : List ℕ). one (slice_index ws 0 == 1)) ew in let off : v.turn ≡ false = no-turn s.views id v nil at in cc)
      ]

  -- what the first turn owes
  pub first-takes-allowed : (slots id : ℕ) → Allows (Ruled {X = X} l o) slots id (first_view o, []) 0 (λ n. either (n == 2) 1 n) (first_takes_then (first_view o, []))
  first-takes-allowed slots id s r len at small =
      let Goal : List ℕ → List (maybe.Option (Option (Held X))) → Type 0 = λ ws hs. (w : View) × (a : Act (Option (Held X))) × Valid hs [] a × Ruled l o (stepped (at_words ws hs s.views) 0 (either (slice_index ws 0 == 2) 1 (slice_index ws 0)) id [] w a) × first_takes_then (first_view o, []) (slice_index ws 0) (w, carried_after [] a) in
      ⊎_elim
      (λ f. absurd (let e : false ≡ true = f.marked id (first_view o) at in cc))
      (λ f.
      let b : View = beginner o f.turn in
      let first : At (b ∷ []) id (first_view o) = subst (λ (vs : List View). At vs id (first_view o)) f.only at in
      let off : f.turn ≡ false = ap (λ (u : View). u.turn) (alone b (first_view o) id first).0 in
      let ew : s.words ≡ 2 ∷ [] = f.word ∙ ap (λ (t : Bool). (if t then 1 else 2) ∷ []) off in
      elim r.place [
        | free k e eh ↦ absurd (cc)
        | taken e eh ↦ absurd (cc)
        | empty e eh ↦
            let here : Goal (2 ∷ []) (some None ∷ []) = (beginner o true, takes 0 None, refl, first-takes-empty s.views id b (first_view o) f.only at, record { word = refl; is = refl }) in
            subst (λ (ws : List ℕ). Goal ws s.homes) (sym e) (subst (λ (hs : List (maybe.Option (Option (Held X)))). Goal (2 ∷ []) hs) (sym eh) here)
      ])
      r.marks

  -- the same for a seat as the calls give it
  pub takes-owed : (slots id : ℕ) (me : Me (Option (Held X)) View) → 1 ≤ me.0.shares → me.0.mark ≡ true → me.1 ≡ [] → Allows (Ruled l o) slots id me 0 (λ n. either (n == 0) 1 n) (takes_then l me)
  takes-owed slots id me share mark bare =
      subst (λ (c : List (ℕ × Option (Held X))). Allows (Ruled l o) slots id (me.0, c) 0 (λ n. either (n == 0) 1 n) (takes_then l (me.0, c))) (sym bare) (takes-allowed slots id me.0 share mark)

  pub filled-slot : (old new : Me (Option (Held X)) View) (h : Held X) → old.1 ≡ (0, None) ∷ [] → new ≡ (old.0, (0, Some h) ∷ rest old.1) → ◌≡◌ {A = Me (Option (Held X)) View} new (old.0, (0, Some h) ∷ [])
  filled-slot old new h empty_slot e =
      let tail : rest old.1 ≡ [] = ap (λ (c : List (ℕ × Option (Held X))). rest c) empty_slot in
      subst (λ (c : List (ℕ × Option (Held X))). ◌≡◌ {A = Me (Option (Held X)) View} new (old.0, (0, Some h) ∷ c)) tail e

  pub gives-owed : (slots id : ℕ) (old new : Me (Option (Held X)) View) (h : Held X) → old.1 ≡ (0, None) ∷ [] → new ≡ (old.0, (0, Some h) ∷ rest old.1)
      → 1 ≤ old.0.shares → old.0.turn ≡ true → IsSound l o h → old.0.seen ≤ l.faults h.store → Within old.0.known h.saved
      → Allows (Ruled l o) slots id new 0 (λ _. 0) (λ _. gives_then l new 0)
  gives-owed slots id old new h empty_slot e share turn sound later more =
      subst (λ (m : Me (Option (Held X)) View). Allows (Ruled l o) slots id m 0 (λ _. 0) (λ _. gives_then l m 0)) (sym (filled-slot old new h empty_slot e)) (gives-allowed slots id old.0 h share turn sound later more)

  abbrev slot_of : List (ℕ × Option (Held X)) → Option (Held X)
  slot_of [] = None
  slot_of (x ∷ xs) = x.1

  pub takes-owed-as : (slots id : ℕ) (old me : Me (Option (Held X)) View) → ◌≡◌ {A = Me (Option (Held X)) View} me old → 1 ≤ old.0.shares → old.0.mark ≡ true → old.1 ≡ [] → Allows (Ruled l o) slots id me 0 (λ n. either (n == 0) 1 n) (takes_then l me)
  takes-owed-as slots id old me same share mark bare = subst (λ (m : Me (Option (Held X)) View). Allows (Ruled l o) slots id m 0 (λ n. either (n == 0) 1 n) (takes_then l m)) (sym same) (takes-owed slots id old share mark bare)

  pub took-as : (old me after : Me (Option (Held X)) View) (found : ℕ) → ◌≡◌ {A = Me (Option (Held X)) View} me old → takes_then l me found after → found ≡ 0 → TakeTurn l old after
  took-as old me after found same told zero_found = subst (λ (m : Me (Option (Held X)) View). TakeTurn l m after) same (told.1 zero_found)

  -- the slot that was taken
  pub took-slot : (before after : Me (Option (Held X)) View) → (t : TakeTurn l before after) → after.1 ≡ (0, Some t.held) ∷ rest after.1
  took-slot before after t = subst (λ (m : Me (Option (Held X)) View). m.1 ≡ (0, Some t.held) ∷ rest m.1) (sym t.is) refl

  pub took-held : (before after : Me (Option (Held X)) View) (x : Option (Held X)) (h : Held X) → (t : TakeTurn l before after) → after.1 ≡ (0, x) ∷ rest after.1 → x ≡ Some h → t.held ≡ h
  took-held before after x h t e is = let first : Some t.held ≡ x = ap slot_of (sym (took-slot before after t) ∙ e) in some_of (first ∙ is)

  -- what is known after the turn was given back
  pub gives-told : (me after : Me (Option (Held X)) View) (v : View) (h : Held X) → ◌≡◌ {A = Me (Option (Held X)) View} me (v, (0, Some h) ∷ []) → gives_then l me 0 after → ◌≡◌ {A = Me (Option (Held X)) View} after (after_give l.faults v h, [])
  gives-told me after v h e told =
      let k : Held X = told.held in
      let slot : (0, Some k) ∷ [] ≡ (0, Some h) ∷ [] = sym told.slot ∙ ap (λ (m : Me (Option (Held X)) View). m.1) e in
      let same : k ≡ h = some_of (ap slot_of slot) in
      let view : me.0 ≡ v = ap (λ (m : Me (Option (Held X)) View). m.0) e in
      told.is ∙ subst (λ (x : Held X). ◌≡◌ {A = Me (Option (Held X)) View} (after_give l.faults me.0 k, []) (after_give l.faults me.0 x, [])) same refl ∙ ap (λ (u : View). let r : Me (Option (Held X)) View = (after_give l.faults u h, []) in r) view

  pub first-takes-owed : (slots id : ℕ) (o2 : Origin) (me : Me (Option (Held X)) View) → o2 ≡ o → ◌≡◌ {A = Me (Option (Held X)) View} me (first_view o2, []) → Allows (Ruled {X = X} l o) slots id me 0 (λ n. either (n == 2) 1 n) (first_takes_then me)
  first-takes-owed slots id o2 me same is =
      let e : ◌≡◌ {A = Me (Option (Held X)) View} me (first_view o, []) = subst (λ (p : Origin). ◌≡◌ {A = Me (Option (Held X)) View} me (first_view p, [])) same is in
      subst (λ (m : Me (Option (Held X)) View). Allows (Ruled {X = X} l o) slots id m 0 (λ n. either (n == 2) 1 n) (first_takes_then m)) (sym e) (first-takes-allowed slots id)
