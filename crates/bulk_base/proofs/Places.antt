-- The first element that passes.
use Rattle.std.proofs.Common.{◌≡◌, ℕ, ◌+◌, ◌<◌, ◌≤◌, Bool, true, false, List, [], ◌∷◌, ◌++◌, length, get_or, take, drop, arith, ◌∙◌, ap, ltb, refl, sym}
use Rattle.std.specs.Prelude.{cond, Option, Some, None, unwrap_or, not}
use Rattle.std.specs.List.{position_or_len, position, list_all}
use Rattle.std.proofs.lemmas.List.Sums.{prefix_len-le-length}
use Rattle.std.proofs.lemmas.List.{length-take, take-append-drop, drop_more}
use Rattle.std.proofs.lemmas.Bool.Decides.{nat_tests}
use Rattle.std.proofs.lemmas.Bool.{and_parts}

chosen : (b : Bool) (n m : ℕ) → n ≤ m → ltb n m ≡ b → unwrap_or (cond b (Some n) None) m ≡ n
chosen true n m l e = refl
chosen false n m l e = let high : m ≤ n = grind (arith, nat_tests) in omega arith

pub place_or_length : {X : Type 0} (p : X → Bool) (r : Option ℕ) (xs : List X) → r ≡ cond (ltb (position_or_len p xs) (length xs)) (Some (position_or_len p xs)) None
    → unwrap_or r (length xs) ≡ position_or_len p xs
place_or_length p r xs e =
    ap (λ o. unwrap_or o (length xs)) e
    ∙ chosen (ltb (position_or_len p xs) (length xs)) (position_or_len p xs) (length xs) (prefix_len-le-length (λ x. not (p x)) xs) refl

-- no element passes
abbrev pub none : {X : Type 0} → (X → Bool) → List X → Bool
none p xs = list_all (λ x. not (p x)) xs

pub place_none : {X : Type 0} (p : X → Bool) (xs : List X) → none p xs ≡ true → position_or_len p xs ≡ length xs
place_none p [] h = refl
place_none p (x ∷ xs) h =
    let parts = and_parts (not (p x)) (none p xs) h in
    ap (λ b. cond b (1 + position_or_len p xs) 0) parts.0 ∙ ap (λ n. 1 + n) (place_none p xs parts.1) ∙ omega arith

pub place_behind : {X : Type 0} (p : X → Bool) (xs : List X) (y : X) (ys : List X) → none p xs ≡ true → p y ≡ true → position_or_len p (xs ++ y ∷ ys) ≡ length xs
place_behind p [] y ys h hit = ap (λ b. cond (not b) (1 + position_or_len p ys) 0) hit
place_behind p (x ∷ xs) y ys h hit =
    let parts = and_parts (not (p x)) (none p xs) h in
    ap (λ b. cond b (1 + position_or_len p (xs ++ y ∷ ys)) 0) parts.0 ∙ ap (λ n. 1 + n) (place_behind p xs y ys parts.1 hit) ∙ omega arith

by_place : {X : Type 0} (p : X → Bool) (xs : List X) (at : ℕ) → position_or_len p xs ≡ at → at < length xs → position p xs ≡ Some at
by_place p xs at e l =
    let below : ltb (position_or_len p xs) (length xs) ≡ true = grind (arith, nat_tests) in
    ap (λ b. cond b (Some (position_or_len p xs)) None) below ∙ ap Some e

past_place : {X : Type 0} (p : X → Bool) (xs : List X) → position_or_len p xs ≡ length xs → position p xs ≡ None
past_place p xs e =
    let high : ltb (position_or_len p xs) (length xs) ≡ false = grind (arith, nat_tests) in
    ap (λ b. cond b (Some (position_or_len p xs)) None) high

-- none before a place passes, and the element there does
pub position_here : {X : Type 0} (p : X → Bool) (xs : List X) (at : ℕ) (x : X) → at < length xs → x ≡ get_or xs at x → none p (take at xs) ≡ true → p x ≡ true → position p xs ≡ Some at
position_here p xs at x l e clear hit =
    let whole : xs ≡ take at xs ++ x ∷ drop (at + 1) xs = sym (take-append-drop at xs) ∙ ap (λ r. take at xs ++ r) (drop_more xs at x l ∙ ap (λ y. y ∷ drop (at + 1) xs) (sym e)) in
    let size : length (take at xs) ≡ at = omega (arith, length-take at xs) in
    by_place p xs at (ap (position_or_len p) whole ∙ place_behind p (take at xs) x (drop (at + 1) xs) clear hit ∙ size) l

pub position_none : {X : Type 0} (p : X → Bool) (xs : List X) → none p xs ≡ true → position p xs ≡ None
position_none p xs h = past_place p xs (place_none p xs h)
