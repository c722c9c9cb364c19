-- Patterns as a test: behind a `*` the first place that fits decides.
use Rattle.std.proofs.Common.{◌≡◌, ℕ, ◌+◌, ◌-◌, ◌<◌, ◌≤◌, Bool, true, false, List, [], ◌∷◌, ◌++◌, length, get_or, drop, cond, arith, ◌∙◌, ap, sym, refl, zero, suc, nat_le, inl, inr, ◌⊎◌}
use Rattle.std.specs.Prelude.{◌==◌, ◌&&◌, ◌||◌, not}
use Rattle.std.specs.List.{list_all}
use Rattle.std.proofs.lemmas.List.{drop-drop, drop_more, drop_all}
use Rattle.std.proofs.lemmas.Bool.Decides.{nat_tests}
use Rattle.std.proofs.lemmas.Bool.{and_parts, and_from, cases_order}
use Rattle.conf_file.specs.Pattern.{begins, ends, FitsNowhereBefore}

-- one of the names that are left when bytes are taken off the front passes
abbrev pub some_rest : (List ℕ → Bool) → List ℕ → Bool
some_rest f [] = f []
some_rest f (b ∷ name) = f (b ∷ name) || some_rest f name

abbrev pub one_byte : ℕ → (List ℕ → Bool) → List ℕ → Bool
one_byte p f [] = false
one_byte p f (b ∷ name) = ((p == 63) || (p == b)) && f name

-- whether a pattern matches
abbrev pub matched : List ℕ → List ℕ → Bool
matched [] name = length name == 0
matched (p ∷ pattern) name = cond (p == 42) (some_rest (matched pattern) name) (one_byte p (matched pattern) name)

-- whether `*` and a pattern behind it match
abbrev pub starred : List ℕ → List ℕ → Bool
starred pattern name = some_rest (matched pattern) name

-- no byte is a star
abbrev pub is_plain : List ℕ → Bool
is_plain piece = list_all (λ p. not (p == 42)) piece

-- what is false of all that is left of a name
rest_of : (f : List ℕ → Bool) (name : List ℕ) → some_rest f name ≡ false → some_rest f (drop 1 name) ≡ false
rest_of f [] h = h
rest_of f (b ∷ name) h = later (f (b ∷ name)) (some_rest f name) h where
  later : (a b : Bool) → (a || b) ≡ false → b ≡ false
  later a b h = grind arith

no_star_here : {A : Type 0} (t : Bool) (x y : A) → not t ≡ true → cond t x y ≡ y
no_star_here true x y h = absurd (cc)
no_star_here false x y h = refl

with_byte : (here a b c : Bool) → a ≡ (b && c) → (here && a) ≡ ((here && b) && c)
with_byte here a b c e = grind arith

-- a plain piece and what is behind it
begins_then : (piece tail name : List ℕ) → is_plain piece ≡ true
    → matched (piece ++ 42 ∷ tail) name ≡ (begins piece name && starred tail (drop (length piece) name))
begins_then [] tail name h = refl
begins_then (p ∷ piece) tail [] h = no_star_here (p == 42) (some_rest (matched (piece ++ 42 ∷ tail)) []) false (and_parts (not (p == 42)) (is_plain piece) h).0
begins_then (p ∷ piece) tail (b ∷ name) h =
    no_star_here (p == 42) (some_rest (matched (piece ++ 42 ∷ tail)) (b ∷ name)) (((p == 63) || (p == b)) && matched (piece ++ 42 ∷ tail) name) (and_parts (not (p == 42)) (is_plain piece) h).0
    ∙ with_byte ((p == 63) || (p == b)) (matched (piece ++ 42 ∷ tail) name) (begins piece name) (starred tail (drop (length piece) name))
    (begins_then piece tail name (and_parts (not (p == 42)) (is_plain piece) h).1)

one_less : (n b : ℕ) (name : List ℕ) → drop n name ≡ drop 1 (drop n (b ∷ name))
one_less n b name = sym (drop-drop 1 n (b ∷ name) ∙ ap (λ k. drop k (b ∷ name)) (let more : n + 1 ≡ suc n = omega arith in more))

second_false : (a b : Bool) → b ≡ false → (a && b) ≡ false
second_false a b e = grind arith

neither : (m a s r : Bool) → m ≡ (a && s) → s ≡ false → r ≡ false → (m || r) ≡ false
neither m a s r e f g = grind arith

-- where what is behind a piece fails at the front, it fails behind the piece at each later place
never : (piece tail name : List ℕ) → is_plain piece ≡ true → starred tail (drop (length piece) name) ≡ false → starred (piece ++ 42 ∷ tail) name ≡ false
never piece tail [] h e = begins_then piece tail [] h ∙ second_false (begins piece []) (starred tail (drop (length piece) [])) e
never piece tail (b ∷ name) h e =
    neither (matched (piece ++ 42 ∷ tail) (b ∷ name)) (begins piece (b ∷ name)) (starred tail (drop (length piece) (b ∷ name))) (starred (piece ++ 42 ∷ tail) name)
    (begins_then piece tail (b ∷ name) h) e
    (never piece tail name h (ap (starred tail) (one_less (length piece) b name) ∙ rest_of (matched tail) (drop (length piece) (b ∷ name)) e))

pub some_rest-first : (f : List ℕ → Bool) (name : List ℕ) → f name ≡ true → some_rest f name ≡ true
some_rest-first f [] h = h
some_rest-first f (b ∷ name) h = ap (λ t. t || some_rest f name) h

-- where a piece stands for the first bytes, what is behind these decides
here_decides : (piece tail name : List ℕ) → is_plain piece ≡ true → begins piece name ≡ true → starred (piece ++ 42 ∷ tail) name ≡ starred tail (drop (length piece) name)
here_decides piece tail name h e = by_rest (starred tail (drop (length piece) name)) refl where
  by_rest : (t : Bool) → starred tail (drop (length piece) name) ≡ t → starred (piece ++ 42 ∷ tail) name ≡ t
  by_rest true r = some_rest-first (matched (piece ++ 42 ∷ tail)) name (begins_then piece tail name h ∙ and_from (begins piece name) (starred tail (drop (length piece) name)) e r)
  by_rest false r = never piece tail name h r

differ : (t : Bool) → t ≡ true → t ≡ false → ⊥
differ t e f = cc

not_here : (m a s r : Bool) → m ≡ (a && s) → a ≡ false → (m || r) ≡ r
not_here m a s r e f = grind arith

-- the first place at which a piece fits decides
pub first_decides : (piece tail name : List ℕ) (at : ℕ) → is_plain piece ≡ true → FitsNowhereBefore piece name at → begins piece (drop at name) ≡ true
    → starred (piece ++ 42 ∷ tail) name ≡ starred tail (drop (length piece) (drop at name))
first_decides piece tail name zero h before here = here_decides piece tail name h here
first_decides piece tail [] (suc at) h before here = absurd (differ (begins piece []) here (before 0 (omega arith)))
first_decides piece tail (b ∷ name) (suc at) h before here =
    not_here (matched (piece ++ 42 ∷ tail) (b ∷ name)) (begins piece (b ∷ name)) (starred tail (drop (length piece) (b ∷ name))) (starred (piece ++ 42 ∷ tail) name)
    (begins_then piece tail (b ∷ name) h) (before 0 (omega arith))
    ∙ first_decides piece tail name at h (λ k l. before (suc k) (omega arith)) here

first_false : (a b : Bool) → a ≡ false → (a && b) ≡ false
first_false a b e = grind arith

-- where a piece fits nowhere, nothing matches
pub fits_nowhere : (piece tail name : List ℕ) → is_plain piece ≡ true → FitsNowhereBefore piece name (length name + 1) → starred (piece ++ 42 ∷ tail) name ≡ false
fits_nowhere piece tail [] h before = begins_then piece tail [] h ∙ first_false (begins piece []) (starred tail (drop (length piece) [])) (before 0 (omega arith))
fits_nowhere piece tail (b ∷ name) h before =
    not_here (matched (piece ++ 42 ∷ tail) (b ∷ name)) (begins piece (b ∷ name)) (starred tail (drop (length piece) (b ∷ name))) (starred (piece ++ 42 ∷ tail) name)
    (begins_then piece tail (b ∷ name) h) (before 0 (omega arith))
    ∙ fits_nowhere piece tail name h (λ k l. before (suc k) (omega arith))

-- a pattern with a star behind a plain piece matches what begins with the piece, where the rest matches
pub head_decides : (piece tail name rest : List ℕ) → is_plain piece ≡ true → begins piece name ≡ true → rest ≡ drop (length piece) name → matched (piece ++ 42 ∷ tail) name ≡ starred tail rest
head_decides piece tail name rest h e r =
    begins_then piece tail name h ∙ ap (λ t. t && starred tail (drop (length piece) name)) e ∙ ap (starred tail) (sym r)

pub head_other : (piece tail name : List ℕ) → is_plain piece ≡ true → begins piece name ≡ false → matched (piece ++ 42 ∷ tail) name ≡ false
head_other piece tail name h e = begins_then piece tail name h ∙ first_false (begins piece name) (starred tail (drop (length piece) name)) e

with_size : (here a l c : Bool) → a ≡ (l && c) → (here && a) ≡ (l && (here && c))
with_size here a l c e = grind arith

one_longer : (p b : ℕ) (piece name : List ℕ) → (length piece == length name) ≡ (length (p ∷ piece) == length (b ∷ name))
one_longer p b piece name = grind (arith, nat_tests)

-- a plain pattern matches what is as long as it and begins with it
pub whole : (piece name : List ℕ) → is_plain piece ≡ true → matched piece name ≡ ((length piece == length name) && begins piece name)
whole [] [] h = refl
whole [] (b ∷ name) h = grind (arith, nat_tests)
whole (p ∷ piece) [] h =
    no_star_here (p == 42) (some_rest (matched piece) []) false (and_parts (not (p == 42)) (is_plain piece) h).0
    ∙ sym (second_false (length (p ∷ piece) == 0) false refl)
whole (p ∷ piece) (b ∷ name) h =
    no_star_here (p == 42) (some_rest (matched piece) (b ∷ name)) (((p == 63) || (p == b)) && matched piece name) (and_parts (not (p == 42)) (is_plain piece) h).0
    ∙ with_size ((p == 63) || (p == b)) (matched piece name) (length piece == length name) (begins piece name) (whole piece name (and_parts (not (p == 42)) (is_plain piece) h).1)
    ∙ ap (λ t. t && (((p == 63) || (p == b)) && begins piece name)) (one_longer p b piece name)

at_nothing : (l : ℕ) (here all : Bool) → all ≡ here → ((l == 0) && here) ≡ (nat_le l 0 && all)
at_nothing l here all e = grind (arith, nat_tests)

by_size : (l n : ℕ) (here there all : Bool) → (l ≡ suc n → all ≡ here) → (l < suc n → all ≡ there) → (l ≡ suc n) ⊎ ((l < suc n) ⊎ (suc n < l))
    → (((l == suc n) && here) || (nat_le l n && there)) ≡ (nat_le l (suc n) && all)
by_size l n here there all f g (inl e) = let same : all ≡ here = f e in grind (arith, nat_tests)
by_size l n here there all f g (inr (inl k)) = let same : all ≡ there = g k in grind (arith, nat_tests)
by_size l n here there all f g (inr (inr k)) = grind (arith, nat_tests)

none_more : (l n : ℕ) → l ≡ suc n → suc n - l ≡ 0
none_more l n e = omega arith

one_more : (l n : ℕ) → l < suc n → suc n - l ≡ suc (n - l)
one_more l n k = omega arith

-- behind a star a plain pattern matches what ends with it
pub at_end : (piece name : List ℕ) → is_plain piece ≡ true → starred piece name ≡ ends piece name
at_end piece [] h =
    whole piece [] h ∙ at_nothing (length piece) (begins piece []) (begins piece (drop (0 - length piece) [])) (ap (begins piece) (drop_all (0 - length piece) [] (omega arith)))
at_end piece (b ∷ name) h =
    ap (λ t. t || starred piece name) (whole piece (b ∷ name) h)
    ∙ ap (λ t. ((length piece == suc (length name)) && begins piece (b ∷ name)) || t) (at_end piece name h)
    ∙ by_size (length piece) (length name) (begins piece (b ∷ name)) (begins piece (drop (length name - length piece) name)) (begins piece (drop (suc (length name) - length piece) (b ∷ name)))
    (λ e. ap (λ n. begins piece (drop n (b ∷ name))) (none_more (length piece) (length name) e))
    (λ k. ap (λ n. begins piece (drop n (b ∷ name))) (one_more (length piece) (length name) k))
    (cases_order (length piece) (suc (length name)))

pub begins_short : (piece name : List ℕ) → begins piece name ≡ true → length piece ≤ length name
begins_short [] name h = omega arith
begins_short (p ∷ piece) [] h = absurd (cc)
begins_short (p ∷ piece) (b ∷ name) h = omega (arith, begins_short piece name (and_parts ((p == 63) || (p == b)) (begins piece name) h).1)

pub begins_long : (piece name : List ℕ) → length name < length piece → begins piece name ≡ false
begins_long [] name l = absurd (omega arith)
begins_long (p ∷ piece) [] l = refl
begins_long (p ∷ piece) (b ∷ name) l = second_false ((p == 63) || (p == b)) (begins piece name) (begins_long piece name (omega arith))

pub begins_more : (piece name : List ℕ) (at : ℕ) → at < length piece → at < length name → ((get_or piece at 0 == 63) || (get_or piece at 0 == get_or name at 0)) ≡ true
    → begins (drop (at + 1) piece) (drop (at + 1) name) ≡ begins (drop at piece) (drop at name)
begins_more piece name at l k e =
    sym (ap (λ x. begins x (drop at name)) (drop_more piece at 0 l) ∙ ap (begins (get_or piece at 0 ∷ drop (at + 1) piece)) (drop_more name at 0 k)
    ∙ ap (λ t. t && begins (drop (at + 1) piece) (drop (at + 1) name)) e)

pub begins_other : (piece name : List ℕ) (at : ℕ) → at < length piece → at < length name → ((get_or piece at 0 == 63) || (get_or piece at 0 == get_or name at 0)) ≡ false
    → begins (drop at piece) (drop at name) ≡ false
begins_other piece name at l k e =
    ap (λ x. begins x (drop at name)) (drop_more piece at 0 l) ∙ ap (begins (get_or piece at 0 ∷ drop (at + 1) piece)) (drop_more name at 0 k)
    ∙ ap (λ t. t && begins (drop (at + 1) piece) (drop (at + 1) name)) e
