-- A package's name of parts in form is a text in form.
use Rattle.std.proofs.Common.{◌≡◌, ℕ, ◌≤◌, Bool, true, false, List, [], ◌∷◌, ◌++◌, length, arith, ◌∙◌, refl, cond}
use Rattle.std.specs.Prelude.{Option, Some, None, IfSome}
use Rattle.std.specs.Option.{option_map_or}
use Rattle.std.specs.List.{list_all}
use Rattle.std.proofs.lemmas.Bool.Decides.{nat_tests}
use Rattle.std.proofs.lemmas.List.Folds.{list_all-append}
use Rattle.bulk_base.specs.Text.{is_plain_text}
use Rattle.bulk_base.specs.Names.{is_made_of, is_port_byte, is_version, is_shown_number, is_digit, IsPackageName}
use Rattle.port_name.specs.declared.package.NameParts.{NameParts}
use Rattle.port_name.specs.Forms.{is_affix, is_version_byte, is_counter, is_zero}
use Rattle.port_name.specs.Package.{bad_part, is_optional_counter, shown, name_of}
use Rattle.port_name.proofs.Plain.{is_plain_byte, together, port_bytes_plain, version_bytes_plain, digits_plain, port_name_bytes}
use Rattle.port_name.proofs.Sizes.{AreInForm, AreInForm-from_none, affix_size, port_name_size, base_size}

affix_bytes : (text : List ℕ) → is_affix text ≡ true → list_all is_port_byte text ≡ true
affix_bytes text h = grind arith

version_bytes : (text : List ℕ) → is_version text ≡ true → list_all is_version_byte text ≡ true
version_bytes text h = grind arith

shown_digits : (text : List ℕ) → is_shown_number text ≡ true → list_all is_digit text ≡ true
shown_digits text h = grind arith

abbrev base_of : NameParts → List ℕ
base_of parts = parts.prefix ++ parts.portname ++ parts.suffix

base_bytes : (parts : NameParts) → AreInForm parts → list_all is_port_byte (base_of parts) ≡ true
base_bytes parts form =
    list_all-append is_port_byte (parts.prefix ++ parts.portname) parts.suffix
    ∙ together (list_all is_port_byte (parts.prefix ++ parts.portname)) (list_all is_port_byte parts.suffix)
    (list_all-append is_port_byte parts.prefix parts.portname ∙ together (list_all is_port_byte parts.prefix) (list_all is_port_byte parts.portname) (affix_bytes parts.prefix form.prefix) (port_name_bytes parts.portname form.portname))
    (affix_bytes parts.suffix form.suffix)

-- a number that is shown is in form
number_case : (text : List ℕ) (zero : Bool) → is_zero text ≡ zero → is_counter text ≡ true → IfSome (cond zero None (Some text)) (λ n. is_shown_number n ≡ true)
number_case text true e h = tt
number_case text false e h = grind arith

shown_form : (number : Option (List ℕ)) → is_optional_counter number ≡ true → IfSome (shown number) (λ n. is_shown_number n ≡ true)
shown_form None h = tt
shown_form (Some text) h = number_case text (is_zero text) refl h

marked_plain : (mark : ℕ) (number : Option (List ℕ)) → is_plain_byte mark ≡ true → IfSome number (λ n. is_shown_number n ≡ true) → is_plain_text (option_map_or (λ n. mark ∷ n) number []) ≡ true
marked_plain mark None m h = refl
marked_plain mark (Some text) m h = together (is_plain_byte mark) (is_plain_text text) m (digits_plain text (shown_digits text h))

pub name_plain : (parts : NameParts) → bad_part parts ≡ None → is_plain_text (name_of parts) ≡ true
name_plain parts none =
    let form : AreInForm parts = AreInForm-from_none parts none in
    let revision : List ℕ = option_map_or (λ n. 95 ∷ n) (shown parts.revision) [] in
    let epoch : List ℕ = option_map_or (λ n. 44 ∷ n) (shown parts.epoch) [] in
    let front : List ℕ = base_of parts ++ (45 ∷ parts.version) in
    list_all-append is_plain_byte (front ++ revision) epoch
    ∙ together (is_plain_text (front ++ revision)) (is_plain_text epoch)
    (list_all-append is_plain_byte front revision
    ∙ together (is_plain_text front) (is_plain_text revision)
    (list_all-append is_plain_byte (base_of parts) (45 ∷ parts.version)
    ∙ together (is_plain_text (base_of parts)) (is_plain_text (45 ∷ parts.version)) (port_bytes_plain (base_of parts) (base_bytes parts form)) (version_bytes_plain parts.version (version_bytes parts.version form.version)))
    (marked_plain 95 (shown parts.revision) refl (shown_form parts.revision form.revision)))
    (marked_plain 44 (shown parts.epoch) refl (shown_form parts.epoch form.epoch))

made : (text : List ℕ) → 1 ≤ length text → length text ≤ 192 → list_all is_port_byte text ≡ true → is_made_of is_port_byte 1 192 text ≡ true
made text low high h = grind (arith, nat_tests)

pub name_in_form : (parts : NameParts) → bad_part parts ≡ None → length (name_of parts) ≤ 200 → IsPackageName (name_of parts)
name_in_form parts none short =
    let form : AreInForm parts = AreInForm-from_none parts none in
    let size = base_size parts in
    let middle = port_name_size parts.portname form.portname in
    record {
      base = base_of parts;
      version = parts.version;
      revision = shown parts.revision;
      epoch = shown parts.epoch;
      base_form = made (base_of parts) (omega (arith, size, middle.1)) (omega (arith, size, middle.0, affix_size parts.prefix form.prefix, affix_size parts.suffix form.suffix)) (base_bytes parts form);
      version_form = form.version;
      revision_form = shown_form parts.revision form.revision;
      epoch_form = shown_form parts.epoch form.epoch;
      short = short;
      spelled = refl;
    }
