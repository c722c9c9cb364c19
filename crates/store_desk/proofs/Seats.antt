-- A split and a join keep the rule.
use Rattle.std.proofs.Common.{◌≡◌, ◌≢◌, ℕ, ◌+◌, ◌≤◌, Bool, true, false, ◌||◌, List, [], ◌∷◌, ◌++◌, set, Option, refl, sym, ap, subst, ◌∙◌, inl, arith}
use Rattle.atomic_table.specs.Table.{State, Splits, Joins}
use Rattle.atomic_table.proofs.Lists.{set_else}
use Rattle.store_desk.specs.declared.view.Origin.{Origin}
use Rattle.store_desk.specs.declared.view.View.{View}
use Rattle.store_desk.specs.declared.view.Held.{Held}
use Rattle.store_desk.specs.Told.{Lore}
use Rattle.store_desk.specs.Rule.{nobody, Fits, Above, AllMarked, IsFilled, Ruled}
use Rattle.bulk_base.specs.Totals.{total, At}
use Rattle.bulk_base.proofs.Totals.{total-set, total-snoc, total-two, each-set, each-snoc}
use Rattle.store_desk.proofs.Marks.{either-within, times-append}
use Rattle.store_desk.proofs.Turns.{at_words, filled}
use Rattle.bulk_model.specs.Flags.{Within}
use Rattle.store_desk.specs.Marks.{one, times}
use Rattle.store_desk.specs.Changes.{first_part, second_part, together}

-- other views that have and know together what these do
record Covers (o : Origin) (old new : List View) : Type 0 where
  seen : (c : ℕ) → ((i : ℕ) (v : View) → At old i v → v.seen ≤ c) → (i : ℕ) (v : View) → At new i v → v.seen ≤ c
  known : (saved : List Bool) → ((i : ℕ) (v : View) → At old i v → Within v.known saved) → (i : ℕ) (v : View) → At new i v → Within v.known saved
  turn : (i : ℕ) (v : View) → At new i v → v.turn ≡ true → (j : ℕ) × At old j v
  fits : ((i : ℕ) (v : View) → At old i v → Fits o v) → (i : ℕ) (v : View) → At new i v → Fits o v
  marked : AllMarked old → AllMarked new
  shares : total (λ v. v.shares) new ≡ total (λ v. v.shares) old
  turns : total (λ v. one v.turn) new ≡ total (λ v. one v.turn) old
  rose : total (λ v. one v.rose) new ≡ 0 → total (λ v. one v.rose) old ≡ 0
  tried : (n : ℕ) → total (λ v. times n v.mine) old ≤ total (λ v. times n v.mine) new

above-covers : (o : Origin) (count : ℕ) (saved called : List Bool) (old new : List View) → Covers o old new → Above o count saved called old → Above o count saved called new
above-covers o count saved called old new c a = record {
  seen = c.seen count a.seen;
  known = c.known saved a.known;
  still = λ nil. a.still (c.rose nil);
  tried = λ n e. let before : 1 ≤ total (λ v. times n v.mine) old = a.tried n e in let more = c.tried n in omega arith;
}

recast : {X : Type 0} (l : Lore X) (o : Origin) (s : State (Option (Held X)) View) (new : List View) → Ruled l o s → IsFilled s.words s.views → Covers o s.views new → Ruled l o (at_words s.words s.homes new)
recast l o s new r filled_before c = record {
  shares = c.shares ∙ r.shares;
  turns = c.turns ∙ r.turns;
  place = r.place;
  fits = c.fits r.fits;
  home = λ h e. ((r.home h e).0, above-covers o (l.faults h.store) h.saved h.tried s.views new c (r.home h e).1);
  away = λ i v at turn. let there = c.turn i v at turn in above-covers o v.seen v.known v.heard s.views new c (r.away there.0 v there.1 turn);
  marks = inl (record { marked = c.marked filled_before.marked; word = filled_before.word });
}

split-covers : (o : Origin) (views : List View) (id : ℕ) (v : View) → At views id v → 2 ≤ v.shares → v.turn ≡ false → v.mark ≡ true → Covers o views (set views id (first_part v) ++ second_part v ∷ [])
split-covers o views id v at two off mark =
    let a : View = first_part v in let b : View = second_part v in
    let sum : (f : View → ℕ) → total f (set views id a ++ b ∷ []) + f v ≡ (total f views + f a) + f b = λ (f : View → ℕ). let p : total f (set views id a) + f v ≡ total f views + f a = total-set f views id v a at in let q : total f (set views id a ++ b ∷ []) ≡ total f (set views id a) + f b = total-snoc f (set views id a) b in omega arith in
    record {
      seen = λ c h. each-snoc (λ (u : View). u.seen ≤ c) (set views id a) b (each-set (λ (u : View). u.seen ≤ c) views id a h (h id v at)) (h id v at);
      known = λ c h. each-snoc (λ (u : View). Within u.known c) (set views id a) b (each-set (λ (u : View). Within u.known c) views id a h (h id v at)) (h id v at);
      turn = let P : View → Type 0 = λ (u : View). u.turn ≡ true → (j : ℕ) × At views j u in each-snoc P (set views id a) b (each-set P views id a (λ j u t _. (j, t)) (λ e. absurd (cc))) (λ e. absurd (cc));
      fits = λ h. let fit : Fits o v = h id v at in let some_share : 1 ≤ v.shares = omega arith in each-snoc (Fits o) (set views id a) b
          (each-set (Fits o) views id a h (record { about = λ _. fit.about some_share; spent = λ nil. absurd (omega arith); first = λ _. fit.first some_share; since = fit.since }))
          (record { about = λ _. fit.about some_share; spent = λ nil. absurd (omega arith); first = λ _. fit.first some_share; since = fit.since });
      marked = λ h. each-snoc (λ (u : View). u.mark ≡ true) (set views id a) b (each-set (λ (u : View). u.mark ≡ true) views id a h mark) mark;
      shares = let f : View → ℕ = λ (u : View). u.shares in let p : total f (set views id a ++ b ∷ []) + f v ≡ (total f views + f a) + f b = sum f in omega arith;
      turns = let f : View → ℕ = λ (u : View). one u.turn in let p : total f (set views id a ++ b ∷ []) + f v ≡ (total f views + f a) + f b = sum f in let z : f v ≡ 0 = ap one off in let y : f a ≡ 0 = ap one off in let x : f b ≡ 0 = ap one off in omega arith;
      rose = λ nil. let f : View → ℕ = λ (u : View). one u.rose in let p : total f (set views id a ++ b ∷ []) + f v ≡ (total f views + f a) + f b = sum f in let same : f a ≡ f v = refl in let z : total f (set views id a ++ b ∷ []) ≡ 0 = nil in omega arith;
      tried = λ n. let f : View → ℕ = λ (u : View). times n u.mine in let p : total f (set views id a ++ b ∷ []) + f v ≡ (total f views + f a) + f b = sum f in let same : f a ≡ f v = refl in omega arith;
    }

or-least : (a b : Bool) → (one a ≤ one (a || b)) × (one b ≤ one (a || b))
or-least true true = (omega arith, omega arith)
or-least true false = (omega arith, omega arith)
or-least false true = (omega arith, omega arith)
or-least false false = (omega arith, omega arith)

join-covers : (o : Origin) (views : List View) (id other : ℕ) (v w : View) → At views id v → At views other w → other ≢ id
    → 1 ≤ v.shares → 1 ≤ w.shares → v.turn ≡ false → w.turn ≡ false → v.mark ≡ true
    → Covers o views (set (set views id (together v w)) other nobody)
join-covers o views id other v w at there ne some_v some_w off_v off_w mark =
    let b : View = together v w in
    let there2 : At (set views id b) other w = set_else views id other b ne ∙ there in
    let sum : (f : View → ℕ) → (total f (set (set views id b) other nobody) + f w) + f v ≡ (total f views + f b) + f nobody = λ (f : View → ℕ). let p : total f (set views id b) + f v ≡ total f views + f b = total-set f views id v b at in let q : total f (set (set views id b) other nobody) + f w ≡ total f (set views id b) + f nobody = total-set f (set views id b) other w nobody there2 in omega arith in
    let each : (P : View → Type 0) → ((j : ℕ) (u : View) → At views j u → P u) → P b → P nobody → (j : ℕ) (u : View) → At (set (set views id b) other nobody) j u → P u = λ (P : View → Type 0) h x y. each-set P (set views id b) other nobody (each-set P views id b h x) y in
    record {
      seen = λ c h. each (λ (u : View). u.seen ≤ c) h (let x : v.seen ≤ c = h id v at in let y : w.seen ≤ c = h other w there in omega arith) (omega arith);
      known = λ c h. each (λ (u : View). Within u.known c) h (either-within v.known w.known c (h id v at) (h other w there)) (λ n e. absurd (cc));
      turn = let P : View → Type 0 = λ (u : View). u.turn ≡ true → (j : ℕ) × At views j u in each P (λ j u t _. (j, t)) (λ e. absurd (cc)) (λ e. absurd (cc));
      fits = λ h. let fit : Fits o v = h id v at in let fit2 : Fits o w = h other w there in each (Fits o) h
          (record { about = λ _. fit.about some_v; spent = λ nil. absurd (omega arith); first = λ _. fit.first some_v; since = let x : v.since ≤ v.seen = fit.since in omega arith })
          (record { about = λ e. absurd (omega arith); spent = λ _. refl; first = λ e. absurd (omega arith); since = omega arith });
      marked = λ h. each (λ (u : View). u.mark ≡ true) h mark refl;
      shares = let f : View → ℕ = λ (u : View). u.shares in let p : (total f (set (set views id b) other nobody) + f w) + f v ≡ (total f views + f b) + f nobody = sum f in omega arith;
      turns = let f : View → ℕ = λ (u : View). one u.turn in let p : (total f (set (set views id b) other nobody) + f w) + f v ≡ (total f views + f b) + f nobody = sum f in let z : f v ≡ 0 = ap one off_v in let y : f w ≡ 0 = ap one off_w in let x : f b ≡ 0 = ap one off_v in omega arith;
      rose = λ nil.
          let f : View → ℕ = λ (u : View). one u.rose in
          let p : (total f (set (set views id b) other nobody) + f w) + f v ≡ (total f views + f b) + f nobody = sum f in
          let z : total f (set (set views id b) other nobody) ≡ 0 = nil in
          let two : f v + f w ≤ total f views = total-two f views id other v w at there (λ e. ne (sym e)) in
          let x : f v ≤ f b = (or-least v.rose w.rose).0 in let y : f w ≤ f b = (or-least v.rose w.rose).1 in omega arith;
      tried = λ n. let f : View → ℕ = λ (u : View). times n u.mine in let p : (total f (set (set views id b) other nobody) + f w) + f v ≡ (total f views + f b) + f nobody = sum f in let both : f b ≡ f v + f w = times-append n v.mine w.mine in omega arith;
    }

module _ {X : Type 0} (l : Lore X) (o : Origin) where
  pub splits-allowed : (id : ℕ) (v : View) → 2 ≤ v.shares → v.turn ≡ false → v.mark ≡ true → Splits (Ruled {X = X} l o) id v (first_part v) (second_part v)
  splits-allowed id v two off mark s r at = recast l o s (set s.views id (first_part v) ++ second_part v ∷ []) r (filled l o s id v r at mark) (split-covers o s.views id v at two off mark)

  pub joins-allowed : (id other : ℕ) (v w : View) → 1 ≤ v.shares → 1 ≤ w.shares → v.turn ≡ false → w.turn ≡ false → v.mark ≡ true → Joins (Ruled {X = X} l o) id v other w (together v w) nobody
  joins-allowed id other v w some_v some_w off_v off_w mark s r at ne there =
      recast l o s (set (set s.views id (together v w)) other nobody) r (filled l o s id v r at mark)
      (join-covers o s.views id other v w at (sym (set_else s.views id other (together v w) ne) ∙ there) ne some_v some_w off_v off_w mark)

  -- the same for seats as the calls give them
  pub splits-owed : (id : ℕ) (v u w : View) → v ≡ u → u ≡ w → 2 ≤ v.shares → u.turn ≡ false → u.mark ≡ true → Splits (Ruled {X = X} l o) id w (first_part w) (second_part w)
  splits-owed id v u w same next two off mark =
      splits-allowed id w (subst (λ (x : View). 2 ≤ x.shares) (same ∙ next) two) (ap (λ (x : View). x.turn) (sym next) ∙ off) (ap (λ (x : View). x.mark) (sym next) ∙ mark)

  pub joins-owed : (id other : ℕ) (v w v2 w2 : View) → v ≡ v2 → w ≡ w2 → 1 ≤ v.shares → 1 ≤ w.shares → v.turn ≡ false → w.turn ≡ false → v.mark ≡ true → Joins (Ruled {X = X} l o) id v2 other w2 (together v2 w2) nobody
  joins-owed id other v w v2 w2 same_v same_w some_v some_w off_v off_w mark =
      joins-allowed id other v2 w2 (subst (λ (x : View). 1 ≤ x.shares) same_v some_v) (subst (λ (x : View). 1 ≤ x.shares) same_w some_w)
      (ap (λ (x : View). x.turn) (sym same_v) ∙ off_v) (ap (λ (x : View). x.turn) (sym same_w) ∙ off_w) (ap (λ (x : View). x.mark) (sym same_v) ∙ mark)
