-- A separator behind elements that are none.
use Rattle.std.proofs.Common.{◌≡◌, ℕ, ◌+◌, Bool, true, List, ◌∷◌, ◌++◌, take, drop, ◌∙◌, ap}
use Rattle.std.specs.List.{before_first, after_first}
use Rattle.std.proofs.Math.Seq.{take-append_seam, drop-append-add}
use Rattle.bulk_base.proofs.Places.{none, place_behind}

pub before_separator : (p : ℕ → Bool) (xs : List ℕ) (y : ℕ) (ys : List ℕ) → none p xs ≡ true → p y ≡ true → before_first p (xs ++ y ∷ ys) ≡ xs
before_separator p xs y ys h hit = ap (λ n. take n (xs ++ y ∷ ys)) (place_behind p xs y ys h hit) ∙ take-append_seam xs (y ∷ ys)

pub after_separator : (p : ℕ → Bool) (xs : List ℕ) (y : ℕ) (ys : List ℕ) → none p xs ≡ true → p y ≡ true → after_first p (xs ++ y ∷ ys) ≡ ys
after_separator p xs y ys h hit = ap (λ n. drop (n + 1) (xs ++ y ∷ ys)) (place_behind p xs y ys h hit) ∙ drop-append-add xs (y ∷ ys) 1
