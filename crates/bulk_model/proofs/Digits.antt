-- The text of a digest is 64 lower-case hexadecimal digits, and each such text is the text of one digest.
use Rattle.std.proofs.Common.{◌≡◌, ℕ, ◌+◌, ◌*◌, ◌/◌, ◌%◌, ◌<◌, Bool, true, false, List, [], ◌∷◌, length, get_or, zero, suc, arith, refl, ap, ap₂, sym, subst, ◌∙◌, inl, inr}
use Rattle.std.specs.Prelude.{◌==◌, ◌&&◌, ◌||◌, not, nat_lt, nat_le, Option, Some, None, is_some, unwrap_or, Result, Ok, Err, MatchResult}
use Rattle.std.specs.List.{list_all}
use Rattle.std.proofs.lemmas.Bool.{and_parts, and_from, cases_lt, eqb-true}
use Rattle.std.proofs.lemmas.Bool.Decides.{nat_tests}
use Rattle.std.proofs.lemmas.List.Sums.{AllPass-from_list_all}
use Rattle.hex.specs.declared.error.FromHexError.{FromHexError}
use Rattle.hex.specs.Hex.{◌>>=◌, encode_with, encode_lower, lower_digits, IsBytes, hex_digit_value, is_hex_digit, digit_or_error, pair_value, decode_pairs, decode_sized}
use Rattle.hex.proofs.HexLemmas.{decode_of-digits, decode_of-even, decode_sized-twice}
use Rattle.bulk_base.specs.Text.{is_text, is_plain_text, is_text_byte}
use Rattle.bulk_base.proofs.TextTests.{is_text-plain}
use Rattle.bulk_model.specs.Digests.{is_hex_byte, is_digest as is_digest_text}

-- ---- a digest's text is a text

digit_at : (k : ℕ) → k < 16 → is_hex_byte (get_or lower_digits k 0) ≡ true
digit_at k l = AllPass-from_list_all is_hex_byte lower_digits refl k 0 l

pub hex_bytes : (xs : List ℕ) → IsBytes xs → list_all is_hex_byte (encode_lower xs) ≡ true
unfolding encode_with
hex_bytes [] h = refl
hex_bytes (b ∷ rest) h =
    let small : b < 256 = h 0 in
    and_from _ _ (digit_at (b / 16) (omega (arith, small))) (and_from _ _ (digit_at (b % 16) (omega arith)) (hex_bytes rest (λ i. h (suc i))))

-- ---- what holds of each lower-case digit, which computes

abbrev value : ℕ → ℕ
value b = unwrap_or (hex_digit_value b) 99

abbrev is_right : ℕ → Bool
is_right b = is_some (hex_digit_value b) && (nat_lt (value b) 16 && ((get_or lower_digits (value b) 0 == b) && (nat_lt b 128 && is_text_byte b)))

abbrev are_right : ℕ → Bool
are_right zero = true
are_right (suc n) = (not (is_hex_byte n) || is_right n) && are_right n

implied : (test right : Bool) → test ≡ true → (not test || right) ≡ true → right ≡ true
implied true right t h = h
implied false right t h = absurd cc

right_below : (n b : ℕ) → are_right n ≡ true → b < n → is_hex_byte b ≡ true → is_right b ≡ true
right_below zero b all l h = absurd (omega arith)
right_below (suc n) b all l h =
    let parts = and_parts (not (is_hex_byte n) || is_right n) (are_right n) all in
    elim (cases_lt b n) [
      | inl below ↦ right_below n b parts.1 below h
      | inr top ↦
          let e : n ≡ b = omega (arith, l, top) in
          implied (is_hex_byte b) (is_right b) h (subst (λ k. (not (is_hex_byte k) || is_right k) ≡ true) e parts.0)
    ]

small : (b : ℕ) → is_hex_byte b ≡ true → b < 128
small b h = grind (arith, nat_tests)

right : (b : ℕ) → is_hex_byte b ≡ true → is_right b ≡ true
right b h = right_below 128 b refl (small b h) h

some_value : (o : Option ℕ) → is_some o ≡ true → o ≡ Some (unwrap_or o 99)
some_value (Some v) h = refl
some_value None h = absurd cc

pub record IsDigit (b : ℕ) : Type 0 where
  pub some : hex_digit_value b ≡ Some (value b)
  pub low : value b < 16
  pub again : get_or lower_digits (value b) 0 ≡ b

pub is_digit : (b : ℕ) → is_hex_byte b ≡ true → IsDigit b
is_digit b h =
    let parts = and_parts (is_some (hex_digit_value b)) _ (right b h) in
    let more = and_parts (nat_lt (value b) 16) _ parts.1 in
    let last = and_parts (get_or lower_digits (value b) 0 == b) _ more.1 in
    record { some = some_value (hex_digit_value b) parts.0; low = grind (arith, nat_tests); again = eqb-true _ _ last.0 }

plain_byte : (b : ℕ) → is_hex_byte b ≡ true → (nat_lt b 128 && is_text_byte b) ≡ true
plain_byte b h =
    let parts = and_parts (is_some (hex_digit_value b)) _ (right b h) in
    let more = and_parts (nat_lt (value b) 16) _ parts.1 in
    (and_parts (get_or lower_digits (value b) 0 == b) _ more.1).1

plain : (xs : List ℕ) → list_all is_hex_byte xs ≡ true → is_plain_text xs ≡ true
plain [] h = refl
plain (b ∷ rest) h =
    let parts = and_parts (is_hex_byte b) (list_all is_hex_byte rest) h in
    and_from _ _ (plain_byte b parts.0) (plain rest parts.1)

pub is_text-hex : (xs : List ℕ) → IsBytes xs → is_text (encode_lower xs) ≡ true
is_text-hex xs h = is_text-plain (encode_lower xs) (plain (encode_lower xs) (hex_bytes xs h))

-- ---- what lower-case digits decode to has them as its text

abbrev Read : Type 0
Read = Result (List ℕ) FromHexError

abbrev before : ℕ → Read → Read
before byte rest = rest >>= λ bytes. Ok (byte ∷ bytes)

ok_is : (x y : List ℕ) → (let r : Read = Ok x in r) ≡ Ok y → x ≡ y
ok_is x y e = cc

never : (x : List ℕ) (e : FromHexError) → (let r : Read = Err e in r) ≡ Ok x → ⊥
never x e h = cc

module _ (a b : ℕ) (da : IsDigit a) (db : IsDigit b) where
  pub pair_is : (i : ℕ) → pair_value a b i ≡ Ok (value a * 16 + value b)
  pair_is i = ap₂ (λ x y. digit_or_error a i x >>= λ h. (digit_or_error b (i + 1) y >>= λ l. Ok (h * 16 + l))) da.some db.some

  high : (value a * 16 + value b) / 16 ≡ value a
  high = let l = db.low in omega arith

  low : (value a * 16 + value b) % 16 ≡ value b
  low = let l = db.low in omega arith

  pub pair_again : (rest bytes : List ℕ) → encode_lower bytes ≡ rest → encode_lower ((value a * 16 + value b) ∷ bytes) ≡ a ∷ b ∷ rest
  unfolding encode_with
  pair_again rest bytes e =
      ap₂ (λ x y. x ∷ y ∷ encode_lower bytes) (ap (λ k. get_or lower_digits k 0) high ∙ da.again) (ap (λ k. get_or lower_digits k 0) low ∙ db.again)
      ∙ ap (λ r. a ∷ b ∷ r) e

pub pairs_again : (i : ℕ) (s bytes : List ℕ) → list_all is_hex_byte s ≡ true → decode_pairs i s ≡ Ok bytes → encode_lower bytes ≡ s
unfolding decode_pairs encode_with
pairs_again i [] bytes h e = ap encode_lower (sym (ok_is [] bytes e))
pairs_again i (a ∷ []) bytes h e = absurd cc
pairs_again i (a ∷ b ∷ rest) bytes h e =
    let first = and_parts (is_hex_byte a) (is_hex_byte b && list_all is_hex_byte rest) h in
    let second = and_parts (is_hex_byte b) (list_all is_hex_byte rest) first.1 in
    let da = is_digit a first.0 in
    let db = is_digit b second.0 in
    let reads : before (value a * 16 + value b) (decode_pairs (i + 2) rest) ≡ Ok bytes =
    sym (ap (λ p. p >>= λ byte. before byte (decode_pairs (i + 2) rest)) (pair_is a b da db i)) ∙ e in
    elim (decode_pairs (i + 2) rest) as (λ r. decode_pairs (i + 2) rest ≡ r → before (value a * 16 + value b) r ≡ Ok bytes → encode_lower bytes ≡ a ∷ b ∷ rest) [
      | Ok others ↦ λ is says.
          ap encode_lower (sym (ok_is ((value a * 16 + value b) ∷ others) bytes says)) ∙ pair_again a b da db rest others (pairs_again (i + 2) rest others second.1 is)
      | Err error ↦ λ is says. absurd (never bytes error says)
    ] refl reads

-- ---- so a text in form decodes to the bytes of which it is the text

all_digits : (s : List ℕ) → list_all is_hex_byte s ≡ true → list_all is_hex_digit s ≡ true
all_digits [] h = refl
all_digits (b ∷ rest) h =
    let parts = and_parts (is_hex_byte b) (list_all is_hex_byte rest) h in
    and_from _ _ (ap is_some (is_digit b parts.0).some) (all_digits rest parts.1)

made_of : (text : List ℕ) → is_digest_text text ≡ true → list_all is_hex_byte text ≡ true
made_of text h = (and_parts (nat_le 64 (length text) && nat_le (length text) 64) (list_all is_hex_byte text) h).1

pub decoded : (text : List ℕ) → is_digest_text text ≡ true → (bytes : List ℕ) × (decode_sized text 32 ≡ Ok bytes) × (encode_lower bytes ≡ text)
decoded text h =
    let size : length text ≡ 64 = grind (arith, nat_tests) in
    let digits : list_all is_hex_byte text ≡ true = made_of text h in
    let even : length text % 2 ≡ 0 = omega arith in
    let d = decode_of-digits text even (AllPass-from_list_all is_hex_digit text (all_digits text digits)) in
    (d.0, decode_sized-twice text 32 (omega arith) ∙ d.1, pairs_again 0 text d.0 digits (sym (decode_of-even text even) ∙ d.1))

pub told : (r : Read) (bytes : List ℕ) (result : Result (Unit {0}) FromHexError) (out : List ℕ) → r ≡ Ok bytes
    → MatchResult r (λ bytes. (result ≡ Ok tt) × (out ≡ bytes)) (λ e. result ≡ Err e) → (result ≡ Ok tt) × (out ≡ bytes)
told r bytes result out e m = subst (λ r. MatchResult r (λ bytes. (result ≡ Ok tt) × (out ≡ bytes)) (λ e. result ≡ Err e)) e m

pub is_no_error : (result : Result (Unit {0}) FromHexError) (e : FromHexError) → result ≡ Ok tt → result ≡ Err e → ⊥
is_no_error result e a b = cc (sym a ∙ b)
