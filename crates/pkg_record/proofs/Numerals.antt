-- The numbers of a record's lines.
use Rattle.std.proofs.Common.{◌≡◌, ℕ, ◌<◌, ◌^◌, Bool, true, false, ltb, List, [], ◌∷◌, length, zero, suc, arith, ap, refl}
use Rattle.std.specs.Prelude.{Result, Ok, Err, OkIff, Some, None, cond, ◌&&◌}
use Rattle.std.specs.Result.{result_ok}
use Rattle.std.specs.List.{list_all}
use Rattle.std.specs.Char.{is_ascii_digit}
use Rattle.std.specs.Str.{IsUtf8, IsAscii}
use Rattle.std.specs.Str.Parse.{ParsesUnsigned, digits_value}
use Rattle.std.proofs.lemmas.Bool.Decides.{nat_tests}
use Rattle.std.proofs.lemmas.Bool.{lt-ltb}
use Rattle.std.proofs.lemmas.Str.{IsUtf8-from_ascii}
use Rattle.std.proofs.lemmas.Str.Parse.{parse_digits}
use Rattle.bulk_base.proofs.Digits.{own}
use Rattle.pkg_record.specs.Said.{is_numeral, count_of}

digits_are_ascii : (bs : List ℕ) → list_all is_ascii_digit bs ≡ true → IsAscii bs
digits_are_ascii [] h i = omega arith
digits_are_ascii (b ∷ bs) h zero = grind (arith, nat_tests)
digits_are_ascii (b ∷ bs) h (suc i) = digits_are_ascii bs (grind arith) i

pub digits_of : (bs : List ℕ) → is_numeral bs ≡ true → list_all is_ascii_digit bs ≡ true
digits_of bs h = grind arith

pub numeral_is_utf8 : (bs : List ℕ) → is_numeral bs ≡ true → IsUtf8 bs
numeral_is_utf8 bs h = IsUtf8-from_ascii bs (digits_are_ascii bs (digits_of bs h))

parsed_below : {E : Type 0} (r : Result ℕ E) (n v limit : ℕ) (b : Bool) → OkIff r ((0 < n) × (v < limit)) v → 0 < n → b ≡ true → result_ok r ≡ cond (b && ltb v limit) (Some v) None
parsed_below (Ok x) n v limit b h some e = let lt : ltb v limit ≡ true = lt-ltb v limit h.0.1 in rw (e, lt) (ap Some h.1)
parsed_below (Err x) n v limit b h some e = let ge : ltb v limit ≡ false = not_below v limit (λ l. h (some, l)) in rw (e, ge) refl
  where
    not_below : (v limit : ℕ) → ((v < limit) → ⊥) → ltb v limit ≡ false
    not_below v limit above = grind (arith, nat_tests)

pub count_parses : {E : Type 0} (bs text : List ℕ) (r : Result ℕ E) → text ≡ bs → ParsesUnsigned 64 10 text r → is_numeral bs ≡ true → result_ok r ≡ count_of bs
count_parses bs text r e h t =
    let some : 0 < length bs = grind (arith, nat_tests) in
    parsed_below r (length bs) (digits_value 10 bs) (2 ^ 64) (is_numeral bs) (parse_digits own 64 bs r (rw e at h) (digits_of bs t)) some t
