-- Two lists compared place by place.
use Rattle.std.proofs.Common.{◌≡◌, ℕ, suc, ◌+◌, ◌<◌, ◌≤◌, Bool, true, false, List, [], ◌∷◌, length, get_or, drop, refl, ap, ap₂, sym, ◌∙◌}
use Rattle.std.specs.Prelude.{◌&&◌}
use Rattle.std.specs.Cmp.Lexicographic.{pointwise}
use Rattle.std.proofs.lemmas.Bool.{and_right}
use Rattle.std.proofs.lemmas.List.{drop_more, drop_all}

module _ {A B : Type 0} (E : A → B → Bool) where
  -- lists of different lengths differ
  pub lengths_differ : (xs : List A) (ys : List B) → (length xs ≡ length ys → ⊥) → pointwise E xs ys ≡ false
  lengths_differ [] [] h = absurd (h refl)
  lengths_differ [] (y ∷ ys) h = refl
  lengths_differ (x ∷ xs) [] h = refl
  lengths_differ (x ∷ xs) (y ∷ ys) h = and_right (E x y) (pointwise E xs ys) (lengths_differ xs ys (λ e. h (ap suc e)))

  here : (xs : List A) (ys : List B) (i : ℕ) (x : A) (y : B) → i < length xs → i < length ys → x ≡ get_or xs i x → y ≡ get_or ys i y
      → pointwise E (drop i xs) (drop i ys) ≡ (E x y && pointwise E (drop (i + 1) xs) (drop (i + 1) ys))
  here xs ys i x y lx ly ex ey =
      ap₂ (pointwise E) (drop_more xs i x lx ∙ ap (λ z. z ∷ drop (i + 1) xs) (sym ex)) (drop_more ys i y ly ∙ ap (λ z. z ∷ drop (i + 1) ys) (sym ey))

  -- two more that are alike
  pub alike : (xs : List A) (ys : List B) (i : ℕ) (x : A) (y : B) → i < length xs → i < length ys → x ≡ get_or xs i x → y ≡ get_or ys i y → E x y ≡ true
      → pointwise E xs ys ≡ pointwise E (drop i xs) (drop i ys) → pointwise E xs ys ≡ pointwise E (drop (i + 1) xs) (drop (i + 1) ys)
  alike xs ys i x y lx ly ex ey h e =
      e ∙ here xs ys i x y lx ly ex ey ∙ ap (λ b. b && pointwise E (drop (i + 1) xs) (drop (i + 1) ys)) h

  -- two that are not
  pub unlike : (xs : List A) (ys : List B) (i : ℕ) (x : A) (y : B) → i < length xs → i < length ys → x ≡ get_or xs i x → y ≡ get_or ys i y → E x y ≡ false
      → pointwise E xs ys ≡ pointwise E (drop i xs) (drop i ys) → pointwise E xs ys ≡ false
  unlike xs ys i x y lx ly ex ey h e =
      e ∙ here xs ys i x y lx ly ex ey ∙ ap (λ b. b && pointwise E (drop (i + 1) xs) (drop (i + 1) ys)) h

  -- all were alike
  pub all_alike : (xs : List A) (ys : List B) (i : ℕ) → length xs ≤ i → length ys ≤ i
      → pointwise E xs ys ≡ pointwise E (drop i xs) (drop i ys) → pointwise E xs ys ≡ true
  all_alike xs ys i lx ly e = e ∙ ap₂ (pointwise E) (drop_all i xs lx) (drop_all i ys ly)
