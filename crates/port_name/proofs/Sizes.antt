-- What is known of parts in form.
use Rattle.std.proofs.Common.{◌≡◌, ℕ, ◌+◌, ◌≤◌, Bool, true, false, List, [], ◌∷◌, ◌++◌, length, arith, ap, ◌∙◌, refl, cond}
use Rattle.std.specs.Prelude.{not, Option, Some, None}
use Rattle.std.specs.Option.{option_map_or}
use Rattle.std.proofs.lemmas.Bool.Decides.{nat_tests}
use Rattle.bulk_base.specs.Names.{is_port_name, is_version}
use Rattle.port_name.specs.declared.fault.NamePart.{NamePart}
use Rattle.port_name.specs.declared.fault.NamePart.TheVariants.{Prefix, Portname, Suffix, Version, Revision, Epoch}
use Rattle.port_name.specs.declared.package.NameParts.{NameParts}
use Rattle.port_name.specs.Forms.{is_affix, is_counter, is_zero}
use Rattle.std.proofs.lemmas.List.{length-append}
use Rattle.port_name.specs.Package.{bad_part, is_optional_counter, shown, name_of}

-- each part is in form
pub record AreInForm (parts : NameParts) : Type 0 where
  pub prefix : is_affix parts.prefix ≡ true
  pub portname : is_port_name parts.portname ≡ true
  pub suffix : is_affix parts.suffix ≡ true
  pub version : is_version parts.version ≡ true
  pub revision : is_optional_counter parts.revision ≡ true
  pub epoch : is_optional_counter parts.epoch ≡ true

step : (b : Bool) (part : NamePart) (rest : Option NamePart) → cond (not b) (Some part) rest ≡ None → (b ≡ true) × (rest ≡ None)
step true part rest h = (refl, h)
step false part rest h = cc

pub AreInForm-from_none : (parts : NameParts) → bad_part parts ≡ None → AreInForm parts
AreInForm-from_none parts h =
    let one = step (is_affix parts.prefix) Prefix _ h in
    let two = step (is_port_name parts.portname) Portname _ one.1 in
    let three = step (is_affix parts.suffix) Suffix _ two.1 in
    let four = step (is_version parts.version) Version _ three.1 in
    let five = step (is_optional_counter parts.revision) Revision _ four.1 in
    let six = step (is_optional_counter parts.epoch) Epoch _ five.1 in
    record { prefix = one.0; portname = two.0; suffix = three.0; version = four.0; revision = five.0; epoch = six.0 }

pub affix_size : (text : List ℕ) → is_affix text ≡ true → length text ≤ 64
affix_size text h = grind (arith, nat_tests)

pub port_name_size : (text : List ℕ) → is_port_name text ≡ true → (length text ≤ 64) × (1 ≤ length text)
port_name_size text h = (grind (arith, nat_tests), grind (arith, nat_tests))

pub version_size : (text : List ℕ) → is_version text ≡ true → length text ≤ 64
version_size text h = grind (arith, nat_tests)

-- how many bytes a number takes with its mark
abbrev pub shown_size : Option (List ℕ) → ℕ
shown_size number = option_map_or (λ n. length n + 1) (shown number) 0

number_size : (text : List ℕ) (zero : Bool) → is_zero text ≡ zero → is_counter text ≡ true → option_map_or (λ n. length n + 1) (cond zero None (Some text)) 0 ≤ 10
number_size text true e h = omega arith
number_size text false e h = let short : length text ≤ 9 = grind (arith, nat_tests) in omega arith

pub shown_short : (number : Option (List ℕ)) → is_optional_counter number ≡ true → shown_size number ≤ 10
shown_short None h = omega arith
shown_short (Some text) h = number_size text (is_zero text) refl h

marked : (mark : ℕ) (number : Option (List ℕ)) → length (option_map_or (λ n. mark ∷ n) number []) ≡ option_map_or (λ n. length n + 1) number 0
marked mark None = refl
marked mark (Some text) = omega arith

pub marked_size : (mark : ℕ) (number : Option (List ℕ)) → length (option_map_or (λ n. mark ∷ n) (shown number) []) ≡ shown_size number
marked_size mark number = marked mark (shown number)

pub base_size : (parts : NameParts) → length (parts.prefix ++ parts.portname ++ parts.suffix) ≡ length parts.prefix + length parts.portname + length parts.suffix
base_size parts = length-append (parts.prefix ++ parts.portname) parts.suffix ∙ ap (λ n. n + length parts.suffix) (length-append parts.prefix parts.portname)

pub name_size : (parts : NameParts) → length (name_of parts) ≡ length parts.prefix + length parts.portname + length parts.suffix + 1 + length parts.version + shown_size parts.revision + shown_size parts.epoch
name_size parts =
    let base : List ℕ = parts.prefix ++ parts.portname ++ parts.suffix in
    let revision : List ℕ = option_map_or (λ n. 95 ∷ n) (shown parts.revision) [] in
    let epoch : List ℕ = option_map_or (λ n. 44 ∷ n) (shown parts.epoch) [] in
    omega (
      arith,
      length-append (base ++ (45 ∷ parts.version) ++ revision) epoch,
      length-append (base ++ (45 ∷ parts.version)) revision,
      length-append base (45 ∷ parts.version),
      base_size parts,
      marked_size 95 parts.revision,
      marked_size 44 parts.epoch,
    )
