-- Tests at places below a bound.
use Rattle.std.proofs.Common.{◌≡◌, ℕ, ◌+◌, ◌<◌, Bool, true, false, arith, ap, ◌∙◌, inl, inr, zero, suc}
use Rattle.std.proofs.lemmas.Bool.{cases_lt}
use Rattle.port_name.specs.PackageForm.{some_below}

-- a test that passes at a place below the bound passes somewhere below it
pub some_below-at : (test : ℕ → Bool) (n k : ℕ) → k < n → test k ≡ true → some_below test n ≡ true
some_below-at test zero k l t = absurd (omega arith)
some_below-at test (suc n) k l t = elim (cases_lt k n) [
  | inl lt ↦ (let before = some_below-at test n k lt t in grind arith)
  | inr ge ↦ (let e : k ≡ n = omega arith in let here : test n ≡ true = ap test (omega arith) ∙ t in grind arith)
]

pub some_below-next : (test : ℕ → Bool) (n : ℕ) → some_below test n ≡ false → test n ≡ false → some_below test (n + 1) ≡ false
some_below-next test n before here = let e : n + 1 ≡ suc n = omega arith in rw e (grind arith)
