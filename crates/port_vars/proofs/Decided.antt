-- What the tests of the definitions mean.
use Rattle.std.proofs.Common.{◌≡◌, ℕ, ◌<◌, ◌≤◌, Bool, true, false, nat_le, arith}
use Rattle.std.specs.Prelude.{◌&&◌}
use Rattle.std.proofs.lemmas.Bool.Decides.{nat_tests}

pub and_first : (a b : Bool) → (a && b) ≡ true → a ≡ true
and_first a b p = grind arith

pub and_second : (a b : Bool) → (a && b) ≡ true → b ≡ true
and_second a b p = grind arith

pub le_true : (m n : ℕ) → m ≤ n → nat_le m n ≡ true
le_true m n l = grind (arith, nat_tests)

pub le_false : (m n : ℕ) → n < m → nat_le m n ≡ false
le_false m n l = grind (arith, nat_tests)
