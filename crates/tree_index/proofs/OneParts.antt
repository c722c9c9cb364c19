-- A category, a port, and the two of them joined, are paths of one part.
use Rattle.std.proofs.Common.{◌≡◌, ℕ, ◌≤◌, Bool, true, false, List, [], ◌∷◌, ◌++◌, length, arith, ◌∙◌, ap, refl, zero, suc}
use Rattle.std.specs.Prelude.{◌&&◌, ◌||◌, ◌==◌, slice_index}
use Rattle.std.specs.List.{list_all, All}
use Rattle.std.proofs.lemmas.List.{length-append}
use Rattle.std.proofs.lemmas.List.Folds.{list_all-append}
use Rattle.std.proofs.lemmas.List.Splits.{slice_split_none}
use Rattle.std.proofs.lemmas.Bool.Decides.{nat_tests}
use Rattle.std.proofs.lemmas.Bool.{and_from}
use Rattle.bulk_base.specs.Path.{is_slash, parts, is_part, is_path}
use Rattle.bulk_base.specs.Names.{is_port_name, is_port_byte, is_alphanumeric}

port_byte_no_slash : (b : ℕ) → is_port_byte b ≡ true → is_slash b ≡ false
port_byte_no_slash b h = grind (arith, nat_tests)

no_slash : (name : List ℕ) → list_all is_port_byte name ≡ true → All (λ b. is_slash b ≡ false) name
no_slash [] h k d l = absurd (omega arith)
no_slash (b ∷ name) h zero d l = port_byte_no_slash b (grind arith)
no_slash (b ∷ name) h (suc k) d l = no_slash name (grind arith) k d (omega arith)

-- a name may begin so
abbrev begins_well : List ℕ → Bool
begins_well name = is_alphanumeric (slice_index name 0) || (slice_index name 0 == 95)

begun_is_part : (name : List ℕ) → begins_well name ≡ true → length name ≤ 200 → is_part name ≡ true
begun_is_part [] h l = grind (arith, nat_tests)
begun_is_part (b ∷ []) h l = grind (arith, nat_tests)
begun_is_part (b ∷ c ∷ []) h l = grind (arith, nat_tests)
begun_is_part (b ∷ c ∷ d ∷ more) h l = grind (arith, nat_tests)

short_path : (name : List ℕ) → length name ≤ 200 → list_all is_part (parts name) ≡ true → is_path name ≡ true
short_path name l h = grind (arith, nat_tests)

begun_is_path : (name : List ℕ) → begins_well name ≡ true → list_all is_port_byte name ≡ true → length name ≤ 200 → is_path name ≡ true
begun_is_path name h bytes l =
    short_path name l (ap (list_all is_part) (slice_split_none is_slash name (no_slash name bytes)) ∙ ap (λ b. b && true) (begun_is_part name h l))

-- what a name in form is
record HasForm (name : List ℕ) : Type 0 where
  begins : begins_well name ≡ true
  bytes : list_all is_port_byte name ≡ true
  low : 1 ≤ length name
  high : length name ≤ 64

form_of : (name : List ℕ) → is_port_name name ≡ true → HasForm name
form_of name h = record { begins = grind arith; bytes = grind arith; low = grind (arith, nat_tests); high = grind (arith, nat_tests) }

pub name_is_path : (name : List ℕ) → is_port_name name ≡ true → is_path name ≡ true
name_is_path name h = let f = form_of name h in begun_is_path name f.begins f.bytes (omega (arith, f.high))

begins_as : (front back : List ℕ) → 1 ≤ length front → begins_well (front ++ back) ≡ begins_well front
begins_as [] back l = absurd (omega arith)
begins_as (b ∷ front) back l = refl

-- a category and a port with `_` between
pub pair_is_path : (category port : List ℕ) → is_port_name category ≡ true → is_port_name port ≡ true → is_path (category ++ 95 ∷ port) ≡ true
pair_is_path category port h k =
    let f = form_of category h in
    let g = form_of port k in
    begun_is_path (category ++ 95 ∷ port)
    (begins_as category (95 ∷ port) f.low ∙ f.begins)
    (list_all-append is_port_byte category (95 ∷ port) ∙ and_from (list_all is_port_byte category) (list_all is_port_byte port) f.bytes g.bytes)
    (omega (arith, length-append category (95 ∷ port), f.high, g.high))
