-- A name is a text.
use Rattle.std.proofs.Common.{◌≡◌, ℕ, ◌<◌, true, List, [], ◌∷◌, arith, zero, suc, refl, lit<}
use Rattle.std.specs.List.{list_all}
use Rattle.std.specs.Str.{IsAscii}
use Rattle.std.proofs.lemmas.Str.{IsUtf8-from_ascii}
use Rattle.std.proofs.lemmas.Bool.Decides.{nat_tests}
use Rattle.std.proofs.lemmas.Bool.{and_from}
use Rattle.bulk_base.specs.Text.{IsText, is_text_byte, has_text_bytes}
use Rattle.port_vars.specs.Reference.{is_name_byte, is_name}
use Rattle.port_vars.proofs.Decided.{and_first, and_second}

name_byte_ascii : (b : ℕ) → is_name_byte b ≡ true → b < 128
name_byte_ascii b h = grind (arith, nat_tests)

name_byte_text : (b : ℕ) → is_name_byte b ≡ true → is_text_byte b ≡ true
name_byte_text b h = grind (arith, nat_tests)

name_bytes_ascii : (text : List ℕ) → list_all is_name_byte text ≡ true → IsAscii text
name_bytes_ascii [] h i = lit< tt
name_bytes_ascii (b ∷ rest) h zero = name_byte_ascii b (and_first _ _ h)
name_bytes_ascii (b ∷ rest) h (suc i) = name_bytes_ascii rest (and_second _ _ h) i

name_bytes_text : (text : List ℕ) → list_all is_name_byte text ≡ true → has_text_bytes text ≡ true
name_bytes_text [] h = refl
name_bytes_text (b ∷ rest) h = and_from _ _ (name_byte_text b (and_first _ _ h)) (name_bytes_text rest (and_second _ _ h))

pub IsText-name : (text : List ℕ) → is_name text ≡ true → IsText text
unfolding is_name
IsText-name text h = let bytes : list_all is_name_byte text ≡ true = and_second _ _ h in (IsUtf8-from_ascii text (name_bytes_ascii text bytes), name_bytes_text text bytes)
