-- Names in form are texts of ASCII.
use Rattle.std.proofs.Common.{◌≡◌, ℕ, Bool, true, List, [], ◌∷◌, arith, refl, nat_lt}
use Rattle.std.specs.Prelude.{◌&&◌, not}
use Rattle.std.specs.List.{list_all}
use Rattle.std.proofs.lemmas.Bool.Decides.{nat_tests}
use Rattle.std.proofs.lemmas.Bool.{and_parts}
use Rattle.bulk_base.specs.Text.{is_text_byte, is_plain_text}
use Rattle.bulk_base.specs.Path.{is_slash}
use Rattle.bulk_base.specs.Names.{is_port_byte, is_port_name, is_digit}
use Rattle.port_name.specs.Forms.{is_version_byte, is_at}

abbrev pub is_plain_byte : ℕ → Bool
is_plain_byte b = nat_lt b 128 && is_text_byte b

pub together : (a b : Bool) → a ≡ true → b ≡ true → (a && b) ≡ true
together a b p q = grind arith

pub list_all-weaken : (p q : ℕ → Bool) → ((b : ℕ) → p b ≡ true → q b ≡ true) → (xs : List ℕ) → list_all p xs ≡ true → list_all q xs ≡ true
list_all-weaken p q h [] t = refl
list_all-weaken p q h (x ∷ xs) t =
    let parts = and_parts (p x) (list_all p xs) t in
    together (q x) (list_all q xs) (h x parts.0) (list_all-weaken p q h xs parts.1)

port_byte : (b : ℕ) → is_port_byte b ≡ true → is_plain_byte b ≡ true
port_byte b h = grind (arith, nat_tests)

version_byte : (b : ℕ) → is_version_byte b ≡ true → is_plain_byte b ≡ true
version_byte b h = grind (arith, nat_tests)

digit_byte : (b : ℕ) → is_digit b ≡ true → is_plain_byte b ≡ true
digit_byte b h = grind (arith, nat_tests)

port_byte_no_slash : (b : ℕ) → is_port_byte b ≡ true → not (is_slash b) ≡ true
port_byte_no_slash b h = grind (arith, nat_tests)

port_byte_no_at : (b : ℕ) → is_port_byte b ≡ true → not (is_at b) ≡ true
port_byte_no_at b h = grind (arith, nat_tests)

pub port_bytes_plain : (text : List ℕ) → list_all is_port_byte text ≡ true → is_plain_text text ≡ true
port_bytes_plain = list_all-weaken is_port_byte is_plain_byte port_byte

pub version_bytes_plain : (text : List ℕ) → list_all is_version_byte text ≡ true → is_plain_text text ≡ true
version_bytes_plain = list_all-weaken is_version_byte is_plain_byte version_byte

pub digits_plain : (text : List ℕ) → list_all is_digit text ≡ true → is_plain_text text ≡ true
digits_plain = list_all-weaken is_digit is_plain_byte digit_byte

pub port_name_bytes : (name : List ℕ) → is_port_name name ≡ true → list_all is_port_byte name ≡ true
port_name_bytes name h = grind arith

pub port_name_plain : (name : List ℕ) → is_port_name name ≡ true → is_plain_text name ≡ true
port_name_plain name h = port_bytes_plain name (port_name_bytes name h)

pub no_slash : (name : List ℕ) → list_all is_port_byte name ≡ true → list_all (λ b. not (is_slash b)) name ≡ true
no_slash = list_all-weaken is_port_byte (λ b. not (is_slash b)) port_byte_no_slash

pub no_at : (name : List ℕ) → list_all is_port_byte name ≡ true → list_all (λ b. not (is_at b)) name ≡ true
no_at = list_all-weaken is_port_byte (λ b. not (is_at b)) port_byte_no_at
