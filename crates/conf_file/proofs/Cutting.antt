-- The test of a pattern says whether there is a way to cut the name, and a pattern is cut at its first star.
use Rattle.std.proofs.Common.{◌≡◌, ℕ, ◌+◌, Bool, true, false, List, [], ◌∷◌, ◌++◌, length, take, drop, cond, arith, ◌∙◌, ap, sym, refl, suc}
use Rattle.std.specs.Prelude.{◌==◌, ◌&&◌, ◌||◌, not, bytes_eq, IsTrue, ◌↔◌}
use Rattle.std.specs.List.{concat, position_or_len, list_any, before_first, after_first}
use Rattle.std.proofs.lemmas.List.{take-append-drop}
use Rattle.std.proofs.lemmas.Bool.Decides.{nat_tests}
use Rattle.std.proofs.lemmas.Bool.{and_parts, and_from, eqb-true}
use Rattle.bulk_base.specs.Marks.{is_mark, front, back}
use Rattle.conf_file.specs.Pattern.{Matches, stands_for, is_along, begins, FitsNowhereBefore, IsBehindFirst}
use Rattle.conf_file.proofs.Starred.{some_rest, one_byte, matched, starred, is_plain, some_rest-first, first_decides, fits_nowhere, head_decides, head_other, whole}

some_case : (f : List ℕ → Bool) (b : ℕ) (name : List ℕ) (t : Bool) → f (b ∷ name) ≡ t → (t || some_rest f name) ≡ true
    → (some_rest f name ≡ true → (n : ℕ) × (f (drop n name) ≡ true)) → (n : ℕ) × (f (drop n (b ∷ name)) ≡ true)
some_case f b name true e k later = (0, e)
some_case f b name false e k later = let found = later k in (suc found.0, found.1)

some_rest_at : (f : List ℕ → Bool) (name : List ℕ) → some_rest f name ≡ true → (n : ℕ) × (f (drop n name) ≡ true)
some_rest_at f [] h = (0, h)
some_rest_at f (b ∷ name) h = some_case f b name (f (b ∷ name)) refl h (some_rest_at f name)

stands_for_byte : (p b : ℕ) → (p == 42) ≡ false → ((p == 63) || (p == b)) ≡ true → stands_for p (b ∷ []) ≡ true
stands_for_byte p b e h = grind (arith, nat_tests)

byte_stands : (p b : ℕ) → (p == 42) ≡ false → stands_for p (b ∷ []) ≡ true → ((p == 63) || (p == b)) ≡ true
byte_stands p b e h = grind (arith, nat_tests)

by_byte : (p : ℕ) (pattern name : List ℕ) → (p == 42) ≡ false → one_byte p (matched pattern) name ≡ true
    → ((rest : List ℕ) → matched pattern rest ≡ true → Matches pattern rest) → Matches (p ∷ pattern) name
by_byte p pattern [] e k later = absurd (cc)
by_byte p pattern (b ∷ name) e k later =
    let parts = and_parts ((p == 63) || (p == b)) (matched pattern name) k in
    let rest = later name parts.1 in
    record {
      pieces = (b ∷ []) ∷ rest.pieces;
      along = and_from (stands_for p (b ∷ [])) (is_along pattern rest.pieces) (stands_for_byte p b e parts.0) rest.along;
      whole = ap (λ more. b ∷ more) rest.whole;
    }

by_kind : (p : ℕ) (pattern name : List ℕ) (t : Bool) → (p == 42) ≡ t → cond t (some_rest (matched pattern) name) (one_byte p (matched pattern) name) ≡ true
    → ((rest : List ℕ) → matched pattern rest ≡ true → Matches pattern rest) → Matches (p ∷ pattern) name
by_kind p pattern name true e k later =
    let at = some_rest_at (matched pattern) name k in
    let rest = later (drop at.0 name) at.1 in
    record {
      pieces = take at.0 name ∷ rest.pieces;
      along = and_from (stands_for p (take at.0 name)) (is_along pattern rest.pieces) (ap (λ t. cond t true (cond (p == 63) (length (take at.0 name) == 1) (bytes_eq (take at.0 name) (p ∷ [])))) e) rest.along;
      whole = ap (λ more. take at.0 name ++ more) rest.whole ∙ take-append-drop at.0 name;
    }
by_kind p pattern name false e k later = by_byte p pattern name e k later

Matches-matched : (pattern name : List ℕ) → matched pattern name ≡ true → Matches pattern name
Matches-matched [] [] h = record { pieces = []; along = refl; whole = refl }
Matches-matched [] (b ∷ name) h = absurd (omega (arith, eqb-true (length (b ∷ name)) 0 h))
Matches-matched (p ∷ pattern) name h = by_kind p pattern name (p == 42) refl h (Matches-matched pattern)

or_later : (a b : Bool) → b ≡ true → (a || b) ≡ true
or_later a b e = grind arith

some_rest-append : (f : List ℕ → Bool) (piece name : List ℕ) → f name ≡ true → some_rest f (piece ++ name) ≡ true
some_rest-append f [] name h = some_rest-first f name h
some_rest-append f (b ∷ piece) name h = or_later (f (b ∷ (piece ++ name))) (some_rest f (piece ++ name)) (some_rest-append f piece name h)

one_along : (p : ℕ) (pattern piece rest : List ℕ) → (p == 42) ≡ false → stands_for p piece ≡ true → matched pattern rest ≡ true → one_byte p (matched pattern) (piece ++ rest) ≡ true
one_along p pattern [] rest e k later = absurd (grind (arith, nat_tests))
one_along p pattern (b ∷ []) rest e k later = and_from ((p == 63) || (p == b)) (matched pattern rest) (byte_stands p b e k) later
one_along p pattern (b ∷ c ∷ more) rest e k later = absurd (grind (arith, nat_tests))

kind_along : (p : ℕ) (pattern piece rest : List ℕ) (t : Bool) → (p == 42) ≡ t → stands_for p piece ≡ true → matched pattern rest ≡ true
    → cond t (some_rest (matched pattern) (piece ++ rest)) (one_byte p (matched pattern) (piece ++ rest)) ≡ true
kind_along p pattern piece rest true e k later = some_rest-append (matched pattern) piece rest later
kind_along p pattern piece rest false e k later = one_along p pattern piece rest e k later

along_matched : (pattern : List ℕ) (pieces : List (List ℕ)) → is_along pattern pieces ≡ true → matched pattern (concat pieces) ≡ true
along_matched [] [] h = refl
along_matched [] (piece ∷ pieces) h = absurd (cc)
along_matched (p ∷ pattern) [] h = absurd (cc)
along_matched (p ∷ pattern) (piece ∷ pieces) h =
    let parts = and_parts (stands_for p piece) (is_along pattern pieces) h in
    kind_along p pattern piece (concat pieces) (p == 42) refl parts.0 (along_matched pattern pieces parts.1)

matched-Matches : (pattern name : List ℕ) → Matches pattern name → matched pattern name ≡ true
matched-Matches pattern name h = ap (matched pattern) (sym h.whole) ∙ along_matched pattern h.pieces h.along

-- what a result that is the test's says of a match
pub decides : (result : Bool) (pattern name : List ℕ) → result ≡ matched pattern name → IsTrue result ↔ Matches pattern name
decides result pattern name e = (λ h. Matches-matched pattern name (sym e ∙ h), λ h. e ∙ matched-Matches pattern name h)

-- and the other way round
pub decided : (result : Bool) (pattern name : List ℕ) → IsTrue result ↔ Matches pattern name → result ≡ matched pattern name
decided result pattern name h = by_result result (matched pattern name) (λ e. matched-Matches pattern name (h.0 e)) (λ e. h.1 (Matches-matched pattern name e)) where
  by_result : (a b : Bool) → (a ≡ true → b ≡ true) → (b ≡ true → a ≡ true) → a ≡ b
  by_result true b f g = sym (f refl)
  by_result false true f g = g refl
  by_result false false f g = refl

one_plus : (n : ℕ) → 1 + n ≡ suc n
one_plus n = omega arith

one_behind : (n : ℕ) → suc (n + 1) ≡ 1 + n + 1
one_behind n = omega arith

-- a pattern at its first star
front_case : (p : ℕ) (pattern : List ℕ) (t : Bool) → (p == 42) ≡ t → is_plain (take (position_or_len (is_mark 42) pattern) pattern) ≡ true
    → is_plain (take (cond (not t) (1 + position_or_len (is_mark 42) pattern) 0) (p ∷ pattern)) ≡ true
front_case p pattern true e h = refl
front_case p pattern false e h = ap (λ n. is_plain (take n (p ∷ pattern))) (one_plus (position_or_len (is_mark 42) pattern)) ∙ and_from (not (p == 42)) (is_plain (take (position_or_len (is_mark 42) pattern) pattern)) (ap not e) h

pub plain_front : (pattern : List ℕ) → is_plain (before_first (is_mark 42) pattern) ≡ true
plain_front [] = refl
plain_front (p ∷ pattern) = front_case p pattern (p == 42) refl (plain_front pattern)

star_case : (p : ℕ) (pattern : List ℕ) (t : Bool) → (p == 42) ≡ t → (t || list_any (is_mark 42) pattern) ≡ true
    → (list_any (is_mark 42) pattern ≡ true → pattern ≡ take (position_or_len (is_mark 42) pattern) pattern ++ 42 ∷ drop (position_or_len (is_mark 42) pattern + 1) pattern)
    → (p ∷ pattern) ≡ take (cond (not t) (1 + position_or_len (is_mark 42) pattern) 0) (p ∷ pattern) ++ 42 ∷ drop (cond (not t) (1 + position_or_len (is_mark 42) pattern) 0 + 1) (p ∷ pattern)
star_case p pattern true e k later = ap (λ q. q ∷ pattern) (eqb-true p 42 e)
star_case p pattern false e k later =
    let n = position_or_len (is_mark 42) pattern in
    ap (λ rest. p ∷ rest) (later k)
    ∙ ap (λ m. take m (p ∷ pattern) ++ 42 ∷ drop (n + 1) pattern) (sym (one_plus n))
    ∙ ap (λ m. take (1 + n) (p ∷ pattern) ++ 42 ∷ drop m (p ∷ pattern)) (one_behind n)

pub at_star : (pattern : List ℕ) → list_any (is_mark 42) pattern ≡ true → pattern ≡ before_first (is_mark 42) pattern ++ 42 ∷ after_first (is_mark 42) pattern
at_star [] h = absurd (cc)
at_star (p ∷ pattern) h = star_case p pattern (p == 42) refl h (at_star pattern)

none_case : (t u v : Bool) → (t || u) ≡ false → (u ≡ false → v ≡ true) → (not t && v) ≡ true
none_case t u v h f = let rest : u ≡ false = grind arith in let all : v ≡ true = f rest in grind arith

pub no_star : (pattern : List ℕ) → list_any (is_mark 42) pattern ≡ false → is_plain pattern ≡ true
no_star [] h = refl
no_star (p ∷ pattern) h = none_case (p == 42) (list_any (is_mark 42) pattern) (is_plain pattern) h (no_star pattern)

cut_at : (pattern piece tail : List ℕ) → list_any (is_mark 42) pattern ≡ true → piece ≡ front 42 pattern → tail ≡ back 42 pattern → pattern ≡ piece ++ 42 ∷ tail
cut_at pattern piece tail h p t = at_star pattern h ∙ ap (λ x. x ++ 42 ∷ back 42 pattern) (sym p) ∙ ap (λ x. piece ++ 42 ∷ x) (sym t)

plain_piece : (pattern piece : List ℕ) → piece ≡ front 42 pattern → is_plain piece ≡ true
plain_piece pattern piece p = ap is_plain p ∙ plain_front pattern

-- behind a star: what stands behind the first place where the next piece fits decides, and nothing where it fits nowhere
pub star_goes_on : (pattern name piece tail rest : List ℕ) → list_any (is_mark 42) pattern ≡ true → piece ≡ front 42 pattern → tail ≡ back 42 pattern → IsBehindFirst piece name rest
    → starred tail rest ≡ starred pattern name
star_goes_on pattern name piece tail rest h p t b =
    ap (starred tail) b.behind ∙ sym (first_decides piece tail name b.place (plain_piece pattern piece p) b.first b.here) ∙ ap (λ x. starred x name) (sym (cut_at pattern piece tail h p t))

pub star_ends : (pattern name piece tail : List ℕ) → list_any (is_mark 42) pattern ≡ true → piece ≡ front 42 pattern → tail ≡ back 42 pattern → FitsNowhereBefore piece name (length name + 1)
    → starred pattern name ≡ false
star_ends pattern name piece tail h p t none = ap (λ x. starred x name) (cut_at pattern piece tail h p t) ∙ fits_nowhere piece tail name (plain_piece pattern piece p) none

-- before the first star
pub head_goes_on : (pattern name piece tail rest : List ℕ) → list_any (is_mark 42) pattern ≡ true → piece ≡ front 42 pattern → tail ≡ back 42 pattern → begins piece name ≡ true
    → rest ≡ drop (length piece) name → starred tail rest ≡ matched pattern name
head_goes_on pattern name piece tail rest h p t e r =
    sym (head_decides piece tail name rest (plain_piece pattern piece p) e r) ∙ ap (λ x. matched x name) (sym (cut_at pattern piece tail h p t))

pub head_ends : (pattern name piece tail : List ℕ) → list_any (is_mark 42) pattern ≡ true → piece ≡ front 42 pattern → tail ≡ back 42 pattern → begins piece name ≡ false → false ≡ matched pattern name
head_ends pattern name piece tail h p t e =
    sym (ap (λ x. matched x name) (cut_at pattern piece tail h p t) ∙ head_other piece tail name (plain_piece pattern piece p) e)

-- without a star
pub plain_whole : (pattern name : List ℕ) → list_any (is_mark 42) pattern ≡ false → (length pattern == length name) ≡ true → begins pattern name ≡ matched pattern name
plain_whole pattern name h e = sym (whole pattern name (no_star pattern h) ∙ ap (λ t. t && begins pattern name) e)

pub plain_other : (pattern name : List ℕ) → list_any (is_mark 42) pattern ≡ false → (length pattern == length name) ≡ false → false ≡ matched pattern name
plain_other pattern name h e = sym (whole pattern name (no_star pattern h) ∙ ap (λ t. t && begins pattern name) e)

pub same_match : (a b c d : List ℕ) → a ≡ c → b ≡ d → matched a b ≡ matched c d
same_match a b c d e f = ap (λ x. matched x b) e ∙ ap (matched c) f
