-- The first bytes of a text that grows piece by piece.
use Rattle.std.proofs.Common.{◌≡◌, ℕ, ◌<◌, ◌≤◌, List, ◌++◌, length, take, arith, ◌∙◌, sym, ap, inl, inr}
use Rattle.std.proofs.lemmas.List.{append_assoc, take_all, take-take, length-take, length-append, take-append-le}
use Rattle.std.proofs.lemmas.Bool.{cases_lt}
use Rattle.bulk_base.specs.Text.{IsText}
use Rattle.port_vars.proofs.TextParts.{IsText-append}

pub take-take-append : (n : ℕ) (a b : List ℕ) → take n (take n a ++ b) ≡ take n (a ++ b)
take-take-append n a b = elim (cases_lt n (length a)) [
  | inl l ↦ take-append-le n (take n a) b (omega (arith, length-take n a)) ∙ take-take n n a (omega arith) ∙ sym (take-append-le n a b (omega arith))
  | inr g ↦ ap (λ x. take n (x ++ b)) (take_all n a (omega arith))
]

-- a piece is put at the end, then the rest
pub first_then : (n : ℕ) (a b c new : List ℕ) → new ≡ take n (a ++ b) → take n (new ++ c) ≡ take n (a ++ (b ++ c))
first_then n a b c new e = ap (λ x. take n (x ++ c)) e ∙ take-take-append n (a ++ b) c ∙ ap (take n) (append_assoc a b c)

-- while nothing is cut off, texts joined are a text
pub first_is_text : (n : ℕ) (a b new : List ℕ) → new ≡ take n (a ++ b) → (length a < n → IsText a) → IsText b → length new < n → IsText new
first_is_text n a b new e h k short =
    let size : length new ≡ length (take n (a ++ b)) = ap length e in
    let few : length (a ++ b) ≤ n = omega (arith, length-take n (a ++ b)) in
    let all : new ≡ a ++ b = e ∙ take_all n (a ++ b) few in
    rw all (IsText-append a b (h (omega (arith, length-append a b, ap length all))) k)
