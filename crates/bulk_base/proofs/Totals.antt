-- Sums over views, and what holds of each view after one was changed.
use Rattle.std.proofs.Common.{◌≡◌, ◌≢◌, ℕ, zero, suc, ◌+◌, ◌≤◌, List, [], ◌∷◌, ◌++◌, ◌⊎◌, inl, inr, set, refl, sym, ap, subst, ⊎_elim, arith}
use mathlib.Core.Option.{some-injective, some-ne-none}
use lib.ListN.{get_elem?}
use Rattle.bulk_base.specs.Totals.{total, At}

module _ {V : Type 0} where
  -- what stands at a place after one place was written
  at_set : (views : List V) (i j : ℕ) (v u : V) → At (set views i v) j u → (v ≡ u) ⊎ At views j u
  at_set [] i j v u e = absurd (some-ne-none u (sym e))
  at_set (x ∷ xs) zero zero v u e = inl (some-injective v u e)
  at_set (x ∷ xs) zero (suc j) v u e = inr e
  at_set (x ∷ xs) (suc i) zero v u e = inr e
  at_set (x ∷ xs) (suc i) (suc j) v u e = at_set xs i j v u e

  -- and after one was put behind all
  at_snoc : (views : List V) (v u : V) (j : ℕ) → At (views ++ v ∷ []) j u → At views j u ⊎ (v ≡ u)
  at_snoc [] v u zero e = inr (some-injective v u e)
  at_snoc [] v u (suc j) e = absurd (some-ne-none u (sym e))
  at_snoc (x ∷ xs) v u zero e = inl e
  at_snoc (x ∷ xs) v u (suc j) e = at_snoc xs v u j e

  pub total-set : (f : V → ℕ) (views : List V) (i : ℕ) (v w : V) → At views i v → total f (set views i w) + f v ≡ total f views + f w
  total-set f [] i v w e = absurd (some-ne-none v (sym e))
  total-set f (x ∷ xs) zero v w e = let same : f x ≡ f v = ap f (some-injective x v e) in omega arith
  total-set f (x ∷ xs) (suc i) v w e = let rest : total f (set xs i w) + f v ≡ total f xs + f w = total-set f xs i v w e in omega arith

  pub total-snoc : (f : V → ℕ) (views : List V) (v : V) → total f (views ++ v ∷ []) ≡ total f views + f v
  total-snoc f [] v = omega arith
  total-snoc f (x ∷ xs) v = let rest : total f (xs ++ v ∷ []) ≡ total f xs + f v = total-snoc f xs v in omega arith

  pub total-least : (f : V → ℕ) (views : List V) (i : ℕ) (v : V) → At views i v → f v ≤ total f views
  total-least f [] i v e = absurd (some-ne-none v (sym e))
  total-least f (x ∷ xs) zero v e = let same : f x ≡ f v = ap f (some-injective x v e) in omega arith
  total-least f (x ∷ xs) (suc i) v e = let rest : f v ≤ total f xs = total-least f xs i v e in omega arith

  pub total-two : (f : V → ℕ) (views : List V) (i j : ℕ) (v w : V) → At views i v → At views j w → i ≢ j → f v + f w ≤ total f views
  total-two f [] i j v w e h ne = absurd (some-ne-none v (sym e))
  total-two f (x ∷ xs) zero zero v w e h ne = absurd (ne refl)
  total-two f (x ∷ xs) zero (suc j) v w e h ne = let same : f x ≡ f v = ap f (some-injective x v e) in let rest : f w ≤ total f xs = total-least f xs j w h in omega arith
  total-two f (x ∷ xs) (suc i) zero v w e h ne = let same : f x ≡ f w = ap f (some-injective x w h) in let rest : f v ≤ total f xs = total-least f xs i v e in omega arith
  total-two f (x ∷ xs) (suc i) (suc j) v w e h ne = let rest : f v + f w ≤ total f xs = total-two f xs i j v w e h (λ same. ne (ap suc same)) in omega arith

  pub total-one : (f : V → ℕ) (v : V) → total f (v ∷ []) ≡ f v
  total-one f v = omega arith

  -- what holds of each view and of the new one holds of each view afterwards
  pub each-set : (P : V → Type 0) (views : List V) (i : ℕ) (w : V) → ((j : ℕ) (u : V) → At views j u → P u) → P w → (j : ℕ) (u : V) → At (set views i w) j u → P u
  each-set P views i w old new j u e = ⊎_elim (λ t. subst P t new) (λ t. old j u t) (at_set views i j w u e)

  pub each-snoc : (P : V → Type 0) (views : List V) (w : V) → ((j : ℕ) (u : V) → At views j u → P u) → P w → (j : ℕ) (u : V) → At (views ++ w ∷ []) j u → P u
  each-snoc P views w old new j u e = ⊎_elim (λ t. old j u t) (λ t. subst P t new) (at_snoc views w u j e)

  -- in a list of one view each view is that one
  pub alone : (v u : V) (i : ℕ) → At (v ∷ []) i u → (v ≡ u) × (i ≡ 0)
  alone v u zero e = (some-injective v u e, refl)
  alone v u (suc i) e = absurd (some-ne-none u (sym e))

  -- where no view has any, the sum is 0
  pub total-none : (f : V → ℕ) (views : List V) → ((j : ℕ) (u : V) → At views j u → f u ≡ 0) → total f views ≡ 0
  total-none f [] h = refl
  total-none f (x ∷ xs) h = let here : f x ≡ 0 = h 0 x refl in let rest : total f xs ≡ 0 = total-none f xs (λ j u e. h (suc j) u e) in omega arith

  -- where the others have none, the sum is that of one view
  pub total-alone : (f : V → ℕ) (views : List V) (i : ℕ) (v : V) → At views i v → ((j : ℕ) (u : V) → At views j u → j ≢ i → f u ≡ 0) → total f views ≡ f v
  total-alone f [] i v at h = absurd (some-ne-none v (sym at))
  total-alone f (x ∷ xs) zero v at h = let same : f x ≡ f v = ap f ((alone x v 0 at).0) in let rest : total f xs ≡ 0 = total-none f xs (λ j u e. h (suc j) u e (λ z. omega arith)) in omega arith
  total-alone f (x ∷ xs) (suc i) v at h = let here : f x ≡ 0 = h 0 x refl (λ z. omega arith) in let rest : total f xs ≡ f v = total-alone f xs i v at (λ j u e ne. h (suc j) u e (λ z. ne (omega arith))) in omega arith
