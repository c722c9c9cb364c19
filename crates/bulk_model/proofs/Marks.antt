-- What a mark changes.
use Rattle.std.proofs.Common.{◌≡◌, ◌⊎◌, ℕ, zero, suc, ◌<◌, Bool, true, false, List, [], ◌∷◌, length, set, replicate, refl, ap, inl, inr, arith}
use Rattle.bulk_model.specs.Flags.{flag, Within}

pub none-marked : (n k : ℕ) → flag (replicate n false) k ≡ false
none-marked zero k = refl
none-marked (suc n) zero = refl
none-marked (suc n) (suc k) = none-marked n k

pub set-marked : (xs : List Bool) (n k : ℕ) → flag (set xs n true) k ≡ true → (k ≡ n) ⊎ (flag xs k ≡ true)
set-marked [] n k e = inr e
set-marked (x ∷ xs) zero zero e = inl refl
set-marked (x ∷ xs) zero (suc k) e = inr e
set-marked (x ∷ xs) (suc n) zero e = inr e
set-marked (x ∷ xs) (suc n) (suc k) e = elim (set-marked xs n k e) [ inl s ↦ inl (ap suc s) | inr s ↦ inr s ]

pub set-within : (xs : List Bool) (n : ℕ) → Within xs (set xs n true)
set-within [] n k e = e
set-within (x ∷ xs) zero zero e = refl
set-within (x ∷ xs) zero (suc k) e = e
set-within (x ∷ xs) (suc n) zero e = e
set-within (x ∷ xs) (suc n) (suc k) e = set-within xs n k e

pub set-here : (xs : List Bool) (n : ℕ) → n < length xs → flag (set xs n true) n ≡ true
set-here [] n h = absurd (omega arith)
set-here (x ∷ xs) zero h = refl
set-here (x ∷ xs) (suc n) h = set-here xs n (omega arith)
