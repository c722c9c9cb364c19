-- A pattern matches a name by the test exactly where there is a way to cut the name along the pattern.
use Rattle.std.proofs.Common.{◌≡◌, ◌∙◌, ℕ, ◌+◌, Bool, true, false, List, [], ◌∷◌, ◌++◌, length, take, drop, ap, subst, sym, refl, cond, arith, length-append}
use Rattle.std.specs.Prelude.{◌==◌, ◌&&◌, ◌||◌, bytes_eq, IsTrue, ◌↔◌}
use Rattle.std.specs.List.{list_any, concat, range_with_len}
use Rattle.std.proofs.lemmas.Bool.{and_parts, and_from, eqb-true, eq-eqb}
use Rattle.std.proofs.lemmas.Slice.Eq.{bytes_eq-Decides}
use Rattle.std.proofs.lemmas.List.{take-append-drop}
use Rattle.std.proofs.Math.Seq.{drop-append_seam}
use Rattle.bulk_base.proofs.Members.{Member, any_member, member_any, below_range}
use Rattle.conf_file.specs.Pattern.{Matches, is_along, stands_for}
use Rattle.plan_maker.specs.Boosts.{begins_with, is_match}

abbrev star_match : List ℕ → List ℕ → Bool
star_match pattern name = list_any (λ count. is_match pattern (drop count name)) (range_with_len 0 (length name + 1))

-- ---- the test finds a way

more_pieces : (p : ℕ) (piece : List ℕ) (pattern name rest : List ℕ) → stands_for p piece ≡ true → piece ++ rest ≡ name → Matches pattern rest → Matches (p ∷ pattern) name
more_pieces p piece pattern name rest s e m = record {
  pieces = piece ∷ m.pieces;
  along = and_from (stands_for p piece) (is_along pattern m.pieces) s m.along;
  whole = ap (λ r. piece ++ r) m.whole ∙ e;
}

star_stands : (p : ℕ) (piece : List ℕ) → (p == 42) ≡ true → stands_for p piece ≡ true
star_stands p piece e = ap (λ b. cond b true (cond (p == 63) (length piece == 1) (bytes_eq piece (p ∷ [])))) e

byte_stands : (p c : ℕ) → (p == 42) ≡ false → ((p == 63) || (p == c)) ≡ true → stands_for p (c ∷ []) ≡ true
byte_stands p c e h =
    ap (λ b. cond b true (cond (p == 63) (length (c ∷ []) == 1) (bytes_eq (c ∷ []) (p ∷ [])))) e
    ∙ elim (p == 63) as (λ b. (b || (p == c)) ≡ true → cond b (length (c ∷ []) == 1) (bytes_eq (c ∷ []) (p ∷ [])) ≡ true) [
      | true ↦ λ k. refl
      | false ↦ λ k. (bytes_eq-Decides (c ∷ []) (p ∷ [])).1 (ap (λ x. x ∷ []) (sym (eqb-true p c k)))
    ] h

one_way : (p : ℕ) (pattern name : List ℕ) → (p == 42) ≡ false → (begins_with p name && is_match pattern (drop 1 name)) ≡ true → ((rest : List ℕ) → is_match pattern rest ≡ true → Matches pattern rest)
    → Matches (p ∷ pattern) name
one_way p pattern [] e h rec = absurd (cc)
one_way p pattern (c ∷ name) e h rec =
    let both = and_parts ((p == 63) || (p == c)) (is_match pattern name) h in
    more_pieces p (c ∷ []) pattern (c ∷ name) name (byte_stands p c e both.0) refl (rec name both.1)

pub finds : (pattern name : List ℕ) → is_match pattern name ≡ true → Matches pattern name
finds [] name h = record { pieces = []; along = refl; whole = sym ((bytes_eq-Decides name []).0 h) }
finds (p ∷ pattern) name h =
    elim (p == 42) as (λ b. (p == 42) ≡ b → cond b (star_match pattern name) (begins_with p name && is_match pattern (drop 1 name)) ≡ true → Matches (p ∷ pattern) name) [
      | true ↦ λ e k.
          let m : Member (λ count. is_match pattern (drop count name)) (range_with_len 0 (length name + 1)) = any_member _ _ k in
          more_pieces p (take m.one name) pattern name (drop m.one name) (star_stands p (take m.one name) e) (take-append-drop m.one name) (finds pattern (drop m.one name) m.does)
      | false ↦ λ e k. one_way p pattern name e k (finds pattern)
    ] refl h

-- ---- a way is found by the test

one_piece : (p : ℕ) (piece : List ℕ) → cond (p == 63) (length piece == 1) (bytes_eq piece (p ∷ [])) ≡ true → (c : ℕ) × (piece ≡ c ∷ []) × (((p == 63) || (p == c)) ≡ true)
one_piece p piece h =
    elim (p == 63) as (λ b. (p == 63) ≡ b → cond b (length piece == 1) (bytes_eq piece (p ∷ [])) ≡ true → (c : ℕ) × (piece ≡ c ∷ []) × ((b || (p == c)) ≡ true)) [
      | true ↦ λ e k. alone piece (eqb-true (length piece) 1 k)
      | false ↦ λ e k. (p, (bytes_eq-Decides piece (p ∷ [])).0 k, eq-eqb p p refl)
    ] refl h
  where
    alone : (xs : List ℕ) → length xs ≡ 1 → (c : ℕ) × (xs ≡ c ∷ []) × (true ≡ true)
    alone [] e = absurd (omega arith)
    alone (c ∷ []) e = (c, refl, refl)
    alone (c ∷ d ∷ more) e = absurd (omega arith)

star_found : (pattern piece rest name : List ℕ) → piece ++ rest ≡ name → is_match pattern rest ≡ true → star_match pattern name ≡ true
star_found pattern piece rest name e h =
    let size : length name ≡ length piece + length rest = ap length (sym e) ∙ length-append piece rest in
    let left : drop (length piece) name ≡ rest = ap (drop (length piece)) (sym e) ∙ drop-append_seam piece rest in
    member_any (λ count. is_match pattern (drop count name)) (range_with_len 0 (length name + 1)) (length piece) (below_range (length name + 1) (length piece) (omega arith))
    (ap (is_match pattern) left ∙ h)

byte_found : (p c : ℕ) (pattern rest piece name : List ℕ) → piece ≡ c ∷ [] → ((p == 63) || (p == c)) ≡ true → piece ++ rest ≡ name → is_match pattern rest ≡ true → (begins_with p name && is_match pattern (drop 1 name)) ≡ true
byte_found p c pattern rest piece name one s e h =
    let is : c ∷ rest ≡ name = sym (ap (λ x. x ++ rest) one) ∙ e in
    subst (λ n. (begins_with p n && is_match pattern (drop 1 n)) ≡ true) is (and_from _ _ s h)

pub found : (pattern : List ℕ) (pieces : List (List ℕ)) (name : List ℕ) → is_along pattern pieces ≡ true → concat pieces ≡ name → is_match pattern name ≡ true
found [] [] name h e = (bytes_eq-Decides name []).1 (sym e)
found [] (piece ∷ pieces) name h e = absurd (cc)
found (p ∷ pattern) [] name h e = absurd (cc)
found (p ∷ pattern) (piece ∷ pieces) name h e =
    let both = and_parts (stands_for p piece) (is_along pattern pieces) h in
    let rest : is_match pattern (concat pieces) ≡ true = found pattern pieces (concat pieces) both.1 refl in
    elim (p == 42) as (λ b. cond b true (cond (p == 63) (length piece == 1) (bytes_eq piece (p ∷ []))) ≡ true → cond b (star_match pattern name) (begins_with p name && is_match pattern (drop 1 name)) ≡ true) [
      | true ↦ λ k. star_found pattern piece (concat pieces) name e rest
      | false ↦ λ k. let one = one_piece p piece k in byte_found p one.0 pattern (concat pieces) piece name one.1 one.2 e rest
    ] both.0

same_bool : (a b : Bool) → (a ≡ true → b ≡ true) → (b ≡ true → a ≡ true) → a ≡ b
same_bool true b f g = sym (f refl)
same_bool false true f g = g refl
same_bool false false f g = refl

pub match_is : (r : Bool) (pattern name : List ℕ) → IsTrue r ↔ Matches pattern name → r ≡ is_match pattern name
match_is r pattern name h = same_bool r (is_match pattern name) (λ e. let m : Matches pattern name = h.0 e in found pattern m.pieces name m.along m.whole) (λ e. h.1 (finds pattern name e))
