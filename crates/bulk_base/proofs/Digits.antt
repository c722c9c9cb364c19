-- The value of at most 18 digits fits 64 bits.
use Rattle.std.proofs.Common.{◌≡◌, ℕ, ◌<◌, ◌≤◌, ◌^◌, true, List, length, arith, rules, ap, sym, ◌∙◌}
use Rattle.std.proofs.lemmas.Str.Parse.{IsNumeralModel, numerals_by_value, digits_value_short}
use Rattle.std.specs.Str.Parse.{digits_value}
use Rattle.std.specs.List.{list_all}
use Rattle.std.specs.Prelude.{Result, Some, None, cond}
use Rattle.std.specs.Result.{result_ok}
use Rattle.std.specs.Str.Parse.{ParsesUnsigned}
use Rattle.std.proofs.lemmas.Str.Parse.{parse_gives}
use Rattle.std.proofs.lemmas.Bool.Decides.{nat_tests}
use Rattle.bulk_base.specs.Number.{is_number, number_of}
use Rattle.std.specs.Char.{is_ascii_digit}

pub own : IsNumeralModel (λ ds. list_all is_ascii_digit ds ≡ true) (digits_value 10)
own = numerals_by_value _ (search rules)

pub digits_value-fits : (ds : List ℕ) → list_all is_ascii_digit ds ≡ true → length ds ≤ 18 → digits_value 10 ds < 2 ^ 64
digits_value-fits ds h l = omega (arith, digits_value_short own ds 18 h l)

-- what parsing a text in the form of a number gives
pub number_parses : {E : Type 0} (bs : List ℕ) (r : Result ℕ E) → ParsesUnsigned 64 10 bs r → is_number bs ≡ true → result_ok r ≡ number_of bs
number_parses bs r h t =
    let digits : list_all is_ascii_digit bs ≡ true = grind (arith, nat_tests) in
    let some : 0 < length bs = grind (arith, nat_tests) in
    let few : length bs ≤ 18 = grind (arith, nat_tests) in
    ap result_ok (parse_gives own 64 bs r h digits some (digits_value-fits bs digits few))
    ∙ sym (ap (λ b. cond b (Some (digits_value 10 bs)) None) t)
