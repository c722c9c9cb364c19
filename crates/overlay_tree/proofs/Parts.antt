-- Parts of a path and of what is below it.
use Rattle.std.proofs.Common.{◌≡◌, ℕ, ◌+◌, ◌<◌, ◌≤◌, Bool, true, false, List, [], ◌∷◌, ◌++◌, length, take, drop, zero, suc, arith, ap, sym, ◌∙◌, refl, subst, cond, nat_eq, eqb-true}
use Rattle.std.specs.Prelude.{not, ◌&&◌, ◌==◌, nat_lt, count_by, filter}
use Rattle.std.specs.List.{position_or_len, starts_with}
use Rattle.std.proofs.lemmas.Bool.{and_from, and_parts}
use Rattle.std.proofs.lemmas.Bool.Decides.{nat_tests}
use Rattle.std.proofs.lemmas.List.Sums.{length-filter}
use Rattle.bulk_base.specs.Path.{is_below, joined}
use Rattle.overlay_tree.specs.Places.{first, behind, before_slash, is_slash}

first_step : (x : ℕ) (rest : List ℕ) (b : Bool) → is_slash x ≡ b → first (x ∷ rest) ≡ cond b [] (x ∷ first rest)
first_step x rest true e = ap (λ t. take (cond (not t) (1 + position_or_len is_slash rest) 0) (x ∷ rest)) e
first_step x rest false e =
    let n : ℕ = position_or_len is_slash rest in
    let more : 1 + n ≡ suc n = omega arith in
    ap (λ t. take (cond (not t) (1 + n) 0) (x ∷ rest)) e ∙ ap (λ k. take k (x ∷ rest)) more

behind_step : (x : ℕ) (rest : List ℕ) (b : Bool) → is_slash x ≡ b → behind (x ∷ rest) ≡ cond b rest (behind rest)
behind_step x rest true e = ap (λ t. drop (cond (not t) (1 + position_or_len is_slash rest) 0 + 1) (x ∷ rest)) e
behind_step x rest false e =
    let n : ℕ = position_or_len is_slash rest in
    let more : 1 + n + 1 ≡ suc (n + 1) = omega arith in
    ap (λ t. drop (cond (not t) (1 + n) 0 + 1) (x ∷ rest)) e ∙ ap (λ k. drop k (x ∷ rest)) more

-- the first part stays the same in what is below
pub first-append : (path rest : List ℕ) → first (path ++ 47 ∷ rest) ≡ first path
first-append [] rest = refl
first-append (x ∷ path) rest =
    elim (is_slash x) as (λ b. is_slash x ≡ b → first (x ∷ path ++ 47 ∷ rest) ≡ first (x ∷ path)) [
      | true ↦ λ e. (first_step x (path ++ 47 ∷ rest) true e ∙ sym (first_step x path true e))
      | false ↦ λ e. (first_step x (path ++ 47 ∷ rest) false e ∙ ap (λ f. x ∷ f) (first-append path rest) ∙ sym (first_step x path false e))
    ] refl

-- and so does what stands behind it, with the rest at its end
pub behind-append : (path more : List ℕ) → 0 < length (behind path) → behind (path ++ more) ≡ behind path ++ more
behind-append [] more l = absurd (omega arith)
behind-append (x ∷ path) more l =
    elim (is_slash x) as (λ b. is_slash x ≡ b → behind (x ∷ path ++ more) ≡ behind (x ∷ path) ++ more) [
      | true ↦ λ e. (behind_step x (path ++ more) true e ∙ ap (λ t. t ++ more) (sym (behind_step x path true e)))
      | false ↦ λ e. (let some : 0 < length (behind path) = subst (λ t. 0 < length t) (behind_step x path false e) l in
          behind_step x (path ++ more) false e ∙ behind-append path more some ∙ ap (λ t. t ++ more) (sym (behind_step x path false e)))
    ] refl

-- slashes
abbrev pub slashes : List ℕ → ℕ
slashes path = count_by is_slash path

slashes_step : (x : ℕ) (rest : List ℕ) (b : Bool) → is_slash x ≡ b → slashes (x ∷ rest) ≡ cond b (1 + slashes rest) (slashes rest)
slashes_step x rest true e =
    sym (length-filter is_slash (x ∷ rest)) ∙ ap (λ b. length (cond b (x ∷ filter is_slash rest) (filter is_slash rest))) e ∙ omega (arith, length-filter is_slash rest)
slashes_step x rest false e =
    sym (length-filter is_slash (x ∷ rest)) ∙ ap (λ b. length (cond b (x ∷ filter is_slash rest) (filter is_slash rest))) e ∙ length-filter is_slash rest

pub slashes-behind : (path : List ℕ) → 0 < length (behind path) → slashes path ≡ 1 + slashes (behind path)
slashes-behind [] l = absurd (omega arith)
slashes-behind (x ∷ path) l =
    elim (is_slash x) as (λ b. is_slash x ≡ b → slashes (x ∷ path) ≡ 1 + slashes (behind (x ∷ path))) [
      | true ↦ λ e. (slashes_step x path true e ∙ ap (λ t. 1 + slashes t) (sym (behind_step x path true e)))
      | false ↦ λ e. (let some : 0 < length (behind path) = subst (λ t. 0 < length t) (behind_step x path false e) l in
          slashes_step x path false e ∙ slashes-behind path some ∙ ap (λ t. 1 + slashes t) (sym (behind_step x path false e)))
    ] refl

pub slashes-append : (path rest : List ℕ) → slashes (path ++ 47 ∷ rest) ≡ slashes path + (1 + slashes rest)
slashes-append [] rest = omega (arith, slashes_step 47 rest true refl)
slashes-append (x ∷ path) rest =
    elim (is_slash x) as (λ b. is_slash x ≡ b → slashes (x ∷ path ++ 47 ∷ rest) ≡ slashes (x ∷ path) + (1 + slashes rest)) [
      | true ↦ λ e. (slashes_step x (path ++ 47 ∷ rest) true e ∙ omega (arith, slashes-append path rest, slashes_step x path true e))
      | false ↦ λ e. (slashes_step x (path ++ 47 ∷ rest) false e ∙ omega (arith, slashes-append path rest, slashes_step x path false e))
    ] refl

-- ---- what stands before a slash

front_zero : (x : ℕ) (path : List ℕ) (b : Bool) → is_slash x ≡ b → before_slash zero (x ∷ path) ≡ cond b [] (x ∷ before_slash zero path)
front_zero x path b e = ap (λ t. cond t [] (x ∷ before_slash zero path)) e

front_suc : (n x : ℕ) (path : List ℕ) (b : Bool) → is_slash x ≡ b → before_slash (suc n) (x ∷ path) ≡ cond b (x ∷ before_slash n path) (x ∷ before_slash (suc n) path)
front_suc n x path b e = ap (λ t. cond t (x ∷ before_slash n path) (x ∷ before_slash (suc n) path)) e

below_cons : (x : ℕ) (folder path : List ℕ) → is_below folder path ≡ true → is_below (x ∷ folder) (x ∷ path) ≡ true
below_cons x folder path h = and_from _ _ (grind (arith, nat_tests)) h

below_slash : (x : ℕ) (path : List ℕ) → is_slash x ≡ true → is_below [] (x ∷ path) ≡ true
below_slash x path e = and_from _ _ (let s : x ≡ 47 = eqb-true x 47 e in grind (arith, nat_tests)) refl

-- a path with more slashes is below what stands before the slash behind these
pub below_front : (n : ℕ) (path : List ℕ) → n < slashes path → is_below (before_slash n path) path ≡ true
below_front n [] l = absurd (omega arith)
below_front zero (x ∷ path) l =
    elim (is_slash x) as (λ b. is_slash x ≡ b → is_below (before_slash zero (x ∷ path)) (x ∷ path) ≡ true) [
      | true ↦ λ e. (ap (λ f. is_below f (x ∷ path)) (front_zero x path true e) ∙ below_slash x path e)
      | false ↦ λ e. (ap (λ f. is_below f (x ∷ path)) (front_zero x path false e)
          ∙ below_cons x (before_slash zero path) path (below_front zero path (omega (arith, slashes_step x path false e))))
    ] refl
below_front (suc n) (x ∷ path) l =
    elim (is_slash x) as (λ b. is_slash x ≡ b → is_below (before_slash (suc n) (x ∷ path)) (x ∷ path) ≡ true) [
      | true ↦ λ e. (ap (λ f. is_below f (x ∷ path)) (front_suc n x path true e)
          ∙ below_cons x (before_slash n path) path (below_front n path (omega (arith, slashes_step x path true e))))
      | false ↦ λ e. (ap (λ f. is_below f (x ∷ path)) (front_suc n x path false e)
          ∙ below_cons x (before_slash (suc n) path) path (below_front (suc n) path (omega (arith, slashes_step x path false e))))
    ] refl

-- and it stays the same where the path goes on
pub same_front : (n : ℕ) (path more : List ℕ) → n < slashes path → before_slash n (path ++ more) ≡ before_slash n path
same_front n [] more l = absurd (omega arith)
same_front zero (x ∷ path) more l =
    elim (is_slash x) as (λ b. is_slash x ≡ b → before_slash zero (x ∷ path ++ more) ≡ before_slash zero (x ∷ path)) [
      | true ↦ λ e. (front_zero x (path ++ more) true e ∙ sym (front_zero x path true e))
      | false ↦ λ e. (front_zero x (path ++ more) false e ∙ ap (λ f. x ∷ f) (same_front zero path more (omega (arith, slashes_step x path false e))) ∙ sym (front_zero x path false e))
    ] refl
same_front (suc n) (x ∷ path) more l =
    elim (is_slash x) as (λ b. is_slash x ≡ b → before_slash (suc n) (x ∷ path ++ more) ≡ before_slash (suc n) (x ∷ path)) [
      | true ↦ λ e. (front_suc n x (path ++ more) true e ∙ ap (λ f. x ∷ f) (same_front n path more (omega (arith, slashes_step x path true e))) ∙ sym (front_suc n x path true e))
      | false ↦ λ e. (front_suc n x (path ++ more) false e ∙ ap (λ f. x ∷ f) (same_front (suc n) path more (omega (arith, slashes_step x path false e))) ∙ sym (front_suc n x path false e))
    ] refl

-- ---- below a path is below its front

below_tail : (x y : ℕ) (folder path : List ℕ) → is_below (x ∷ folder) (y ∷ path) ≡ true → (nat_eq x y ≡ true) × (is_below folder path ≡ true)
below_tail x y folder path h = and_parts (nat_eq x y) (is_below folder path) h

begins_with_slash : (x : ℕ) (folder path : List ℕ) → is_slash x ≡ true → is_below (x ∷ folder) path ≡ true → is_below [] path ≡ true
begins_with_slash x folder [] e h = absurd cc
begins_with_slash x folder (y ∷ path) e h =
    let s : x ≡ 47 = eqb-true x 47 e in
    let t : x ≡ y = eqb-true x y (below_tail x y folder path h).0 in
    below_slash y path (subst (λ z. is_slash z ≡ true) t e)

below_step : (x : ℕ) (folder front path : List ℕ) → ((tail : List ℕ) → is_below folder tail ≡ true → is_below front tail ≡ true) → is_below (x ∷ folder) path ≡ true → is_below (x ∷ front) path ≡ true
below_step x folder front [] up h = absurd cc
below_step x folder front (y ∷ path) up h = let t = below_tail x y folder path h in and_from _ _ t.0 (up path t.1)

-- what is below a path is below each of its fronts
pub below_to_front : (n : ℕ) (folder path : List ℕ) → is_below folder path ≡ true → is_below (before_slash n folder) path ≡ true
below_to_front zero [] path h = h
below_to_front (suc n) [] path h = h
below_to_front zero (x ∷ folder) path h =
    elim (is_slash x) as (λ b. is_slash x ≡ b → is_below (before_slash zero (x ∷ folder)) path ≡ true) [
      | true ↦ λ e. (ap (λ f. is_below f path) (front_zero x folder true e) ∙ begins_with_slash x folder path e h)
      | false ↦ λ e. (ap (λ f. is_below f path) (front_zero x folder false e) ∙ below_step x folder (before_slash zero folder) path (below_to_front zero folder) h)
    ] refl
below_to_front (suc n) (x ∷ folder) path h =
    elim (is_slash x) as (λ b. is_slash x ≡ b → is_below (before_slash (suc n) (x ∷ folder)) path ≡ true) [
      | true ↦ λ e. (ap (λ f. is_below f path) (front_suc n x folder true e) ∙ below_step x folder (before_slash n folder) path (below_to_front n folder) h)
      | false ↦ λ e. (ap (λ f. is_below f path) (front_suc n x folder false e) ∙ below_step x folder (before_slash (suc n) folder) path (below_to_front (suc n) folder) h)
    ] refl

-- and what is below the front of something below a folder is below the folder's front
pub front_to_front : (n : ℕ) (folder rest path : List ℕ) → is_below (before_slash n (folder ++ 47 ∷ rest)) path ≡ true → is_below (before_slash n folder) path ≡ true
front_to_front zero [] rest path h = h
front_to_front (suc n) [] rest path h = begins_with_slash 47 (before_slash n rest) path refl h
front_to_front zero (x ∷ folder) rest path h =
    elim (is_slash x) as (λ b. is_slash x ≡ b → is_below (before_slash zero (x ∷ folder)) path ≡ true) [
      | true ↦ λ e. (ap (λ f. is_below f path) (front_zero x folder true e) ∙ sym (ap (λ f. is_below f path) (front_zero x (folder ++ 47 ∷ rest) true e)) ∙ h)
      | false ↦ λ e. (ap (λ f. is_below f path) (front_zero x folder false e)
          ∙ below_step x (before_slash zero (folder ++ 47 ∷ rest)) (before_slash zero folder) path (front_to_front zero folder rest)
          (sym (ap (λ f. is_below f path) (front_zero x (folder ++ 47 ∷ rest) false e)) ∙ h))
    ] refl
front_to_front (suc n) (x ∷ folder) rest path h =
    elim (is_slash x) as (λ b. is_slash x ≡ b → is_below (before_slash (suc n) (x ∷ folder)) path ≡ true) [
      | true ↦ λ e. (ap (λ f. is_below f path) (front_suc n x folder true e)
          ∙ below_step x (before_slash n (folder ++ 47 ∷ rest)) (before_slash n folder) path (front_to_front n folder rest)
          (sym (ap (λ f. is_below f path) (front_suc n x (folder ++ 47 ∷ rest) true e)) ∙ h))
      | false ↦ λ e. (ap (λ f. is_below f path) (front_suc n x folder false e)
          ∙ below_step x (before_slash (suc n) (folder ++ 47 ∷ rest)) (before_slash (suc n) folder) path (front_to_front (suc n) folder rest)
          (sym (ap (λ f. is_below f path) (front_suc n x (folder ++ 47 ∷ rest) false e)) ∙ h))
    ] refl

-- below is transitive
pub below_below : (a b c : List ℕ) → is_below a b ≡ true → is_below b c ≡ true → is_below a c ≡ true
below_below a [] c h k = absurd (nothing_below a h)
  where
    nothing_below : (a : List ℕ) → is_below a [] ≡ true → ⊥
    nothing_below [] h = cc
    nothing_below (x ∷ a) h = cc
below_below [] (y ∷ b) [] h k = absurd cc
below_below [] (y ∷ b) (z ∷ c) h k =
    let s = and_parts (nat_eq 47 y) true h in
    let t = below_tail y z b c k in
    let e : y ≡ z = eqb-true y z t.0 in
    subst (λ w. is_below [] (w ∷ c) ≡ true) e (and_from _ _ s.0 refl)
below_below (x ∷ a) (y ∷ b) [] h k = absurd cc
below_below (x ∷ a) (y ∷ b) (z ∷ c) h k =
    let s = below_tail x y a b h in
    let t = below_tail y z b c k in
    let e : y ≡ z = eqb-true y z t.0 in
    and_from _ _ (subst (λ w. nat_eq x w ≡ true) e s.0) (below_below a b c s.1 t.1)
