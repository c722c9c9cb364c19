-- Names that pass the tests have the forms, and are made of bytes that neither end a line nor a word.
use Rattle.std.proofs.Common.{◌≡◌, ℕ, ◌+◌, ◌<◌, ◌≤◌, Bool, true, false, List, [], ◌∷◌, ◌++◌, length, get_or, take, drop, arith, refl, ap, sym, ◌∙◌, inl, inr, zero, suc, append_assoc, append-nil}
use Rattle.std.specs.Prelude.{◌⊎◌, ◌&&◌, ◌||◌, ◌==◌, nat_lt, nat_le, Option, Some, None, IsTrue, IfSome}
use Rattle.std.specs.Option.{option_map_or}
use Rattle.std.specs.List.{list_all, position_or_len}
use Rattle.std.proofs.lemmas.Bool.{eqb-true, and_parts}
use Rattle.std.proofs.lemmas.Bool.Decides.{nat_tests}
use Rattle.std.proofs.lemmas.List.{length-drop, take-append-drop, drop_more}
use Rattle.std.proofs.lemmas.List.Folds.{list_all-append}
use Rattle.std.proofs.lemmas.List.Sums.{split_at_first, passes_at_first}
use Rattle.bulk_base.specs.Names.{is_between, is_digit, is_lower, is_alphanumeric, is_made_of, is_port_byte, is_port_name, is_flavor, is_version, is_shown_number, is_option_name, IsOrigin, IsNode, IsPackageName, node_of}
use Rattle.port_name.proofs.Origins.{IsNode-from_test, test-from_IsOrigin}
use Rattle.bulk_base.specs.Text.{is_text, is_text_byte}
use Rattle.bulk_base.proofs.TextTests.{is_text-plain}
use Rattle.bulk_base.specs.Marks.{is_mark, front, back}
use Rattle.port_name.specs.Forms.{is_origin, is_node}
use Rattle.port_name.specs.PackageForm.{is_revised, is_full_version, is_parted_at, some_below, is_package_name}
use Rattle.bulk_model.specs.Digests.{is_hex_byte, is_digest}

-- a byte that is neither blank nor the end of a line
abbrev pub is_visible : ℕ → Bool
is_visible b = is_between 33 126 b

abbrev pub is_plain : List ℕ → Bool
is_plain text = list_all is_visible text

pub either : (a b : Bool) → (a || b) ≡ true → (a ≡ true) ⊎ (b ≡ true)
either true b t = inl refl
either false b t = inr t

pub list_all-weaken : (p q : ℕ → Bool) → ((b : ℕ) → p b ≡ true → q b ≡ true) → (xs : List ℕ) → list_all p xs ≡ true → list_all q xs ≡ true
list_all-weaken p q h [] t = refl
list_all-weaken p q h (x ∷ xs) t =
    let parts = and_parts (p x) (list_all p xs) t in
    let here = h x parts.0 in
    let rest = list_all-weaken p q h xs parts.1 in
    grind arith

pub made_of : (p : ℕ → Bool) (least most : ℕ) (text : List ℕ) → is_made_of p least most text ≡ true → (least ≤ length text) × (length text ≤ most) × (list_all p text ≡ true)
made_of p least most text h = (grind (arith, nat_tests), grind (arith, nat_tests), grind arith)

port_byte : (b : ℕ) → is_port_byte b ≡ true → is_visible b ≡ true
port_byte b h = grind (arith, nat_tests)

flavor_byte : (b : ℕ) → (is_lower b || is_digit b || (b == 95)) ≡ true → is_visible b ≡ true
flavor_byte b h = grind (arith, nat_tests)

version_byte : (b : ℕ) → (is_alphanumeric b || (b == 46) || (b == 43)) ≡ true → is_visible b ≡ true
version_byte b h = grind (arith, nat_tests)

option_byte : (b : ℕ) → (is_alphanumeric b || (b == 95) || (b == 45)) ≡ true → is_visible b ≡ true
option_byte b h = grind (arith, nat_tests)

digit_byte : (b : ℕ) → is_digit b ≡ true → is_visible b ≡ true
digit_byte b h = grind (arith, nat_tests)

pub hex_byte : (b : ℕ) → is_hex_byte b ≡ true → is_visible b ≡ true
hex_byte b h = grind (arith, nat_tests)

pub port_name : (name : List ℕ) → is_port_name name ≡ true → (0 < length name) × (is_plain name ≡ true)
port_name name h =
    let m = made_of is_port_byte 1 64 name (grind arith) in
    (omega (arith, m.0), list_all-weaken is_port_byte is_visible port_byte name m.2)

pub flavor_name : (name : List ℕ) → is_flavor name ≡ true → (0 < length name) × (is_plain name ≡ true)
flavor_name name h =
    let m = made_of (λ b. is_lower b || is_digit b || (b == 95)) 1 32 name h in
    (omega (arith, m.0), list_all-weaken _ is_visible flavor_byte name m.2)

pub version_text : (name : List ℕ) → is_version name ≡ true → (0 < length name) × (is_plain name ≡ true)
version_text name h =
    let m = made_of (λ b. is_alphanumeric b || (b == 46) || (b == 43)) 1 64 name h in
    (omega (arith, m.0), list_all-weaken _ is_visible version_byte name m.2)

pub option_name : (name : List ℕ) → is_option_name name ≡ true → (0 < length name) × (is_plain name ≡ true)
option_name name h =
    let m = made_of (λ b. is_alphanumeric b || (b == 95) || (b == 45)) 1 64 name h in
    (omega (arith, m.0), list_all-weaken _ is_visible option_byte name m.2)

pub shown_number : (name : List ℕ) → is_shown_number name ≡ true → (0 < length name) × (is_plain name ≡ true)
shown_number name h =
    let m = made_of is_digit 1 9 name (grind arith) in
    (omega (arith, m.0), list_all-weaken is_digit is_visible digit_byte name m.2)

pub base_name : (name : List ℕ) → is_made_of is_port_byte 1 192 name ≡ true → (0 < length name) × (is_plain name ≡ true)
base_name name h =
    let m = made_of is_port_byte 1 192 name h in
    (omega (arith, m.0), list_all-weaken is_port_byte is_visible port_byte name m.2)

pub digest_text : (text : List ℕ) → is_digest text ≡ true → is_plain text ≡ true
digest_text text h = list_all-weaken is_hex_byte is_visible hex_byte text (made_of is_hex_byte 64 64 text h).2

visible_text_byte : (b : ℕ) → is_visible b ≡ true → (nat_lt b 128 && is_text_byte b) ≡ true
visible_text_byte b h = grind (arith, nat_tests)

pub is_text-visible : (text : List ℕ) → is_plain text ≡ true → is_text text ≡ true
is_text-visible text h = is_text-plain text (list_all-weaken is_visible (λ b. nat_lt b 128 && is_text_byte b) visible_text_byte text h)

-- a text is what stands before a mark, the mark, and what stands behind it, where something does
pub parted : (mark : ℕ) (text : List ℕ) → 0 < length (back mark text) → text ≡ front mark text ++ mark ∷ back mark text
parted mark text some =
    let l : position_or_len (is_mark mark) text < length text = omega (arith, length-drop (position_or_len (is_mark mark) text + 1) text) in
    split_at_first (is_mark mark) text 0 l ∙ ap (λ b. front mark text ++ b ∷ back mark text) (eqb-true _ _ (passes_at_first (is_mark mark) text 0 l))

pub plain_joined : (a b : List ℕ) (mark : ℕ) → is_visible mark ≡ true → is_plain a ≡ true → is_plain b ≡ true → is_plain (a ++ mark ∷ b) ≡ true
plain_joined a b mark m p q = list_all-append is_visible a (mark ∷ b) ∙ grind arith

plain_parted : (mark : ℕ) (text : List ℕ) → is_visible mark ≡ true → 0 < length (back mark text) → is_plain (front mark text) ≡ true → is_plain (back mark text) ≡ true → is_plain text ≡ true
plain_parted mark text m some p q = ap is_plain (parted mark text some) ∙ plain_joined (front mark text) (back mark text) mark m p q

pub origin_form : (text : List ℕ) → is_origin text ≡ true → IsOrigin text
origin_form text h =
    let parts = and_parts (is_port_name (front 47 text)) (is_port_name (back 47 text)) h in
    record {
      category = front 47 text;
      port = back 47 text;
      category_form = parts.0;
      port_form = parts.1;
      spelled = parted 47 text (port_name (back 47 text) parts.1).0;
    }

pub origin_plain : (text : List ℕ) → is_origin text ≡ true → is_plain text ≡ true
origin_plain text h =
    let parts = and_parts (is_port_name (front 47 text)) (is_port_name (back 47 text)) h in
    let b = port_name (back 47 text) parts.1 in
    plain_parted 47 text refl b.0 (port_name (front 47 text) parts.0).1 b.1

pub node_form : (text : List ℕ) → is_node text ≡ true → IsNode text
node_form text h = IsNode-from_test text h

origin_plain_by : (text : List ℕ) → IsOrigin text → is_plain text ≡ true
origin_plain_by text o = origin_plain text (test-from_IsOrigin text o)

named_plain : (origin : List ℕ) (flavor : Option (List ℕ)) → IsOrigin origin → IfSome flavor (λ f. IsTrue (is_flavor f)) → is_plain (node_of origin flavor) ≡ true
named_plain origin None o h = origin_plain_by origin o
named_plain origin (Some flavor) o h = plain_joined origin flavor 64 refl (origin_plain_by origin o) (flavor_name flavor h).1

pub node_plain : (text : List ℕ) → is_node text ≡ true → is_plain text ≡ true
node_plain text h = let n = node_form text h in ap is_plain n.spelled ∙ named_plain n.origin n.flavor n.origin_form n.flavor_form

-- a part behind a mark, where there is one
abbrev pub tail_of : ℕ → Option (List ℕ) → List ℕ
tail_of mark part = option_map_or (λ p. mark ∷ p) part []

pub record IsRevised (text : List ℕ) : Type 0 where
  pub version : List ℕ
  pub revision : Option (List ℕ)
  pub version_form : is_version version ≡ true
  pub revision_form : IfSome revision (λ r. IsTrue (is_shown_number r))
  pub plain : is_plain text ≡ true
  pub spelled : text ≡ version ++ tail_of 95 revision

pub revised_parts : (text : List ℕ) → is_revised text ≡ true → IsRevised text
revised_parts text h = elim (either (is_version text) (is_version (front 95 text) && is_shown_number (back 95 text)) h) [
  | inl v ↦ record { version = text; revision = None; version_form = v; revision_form = tt; plain = (version_text text v).1; spelled = sym (append-nil text) }
  | inr f ↦
      let parts = and_parts (is_version (front 95 text)) (is_shown_number (back 95 text)) f in
      let b = shown_number (back 95 text) parts.1 in
      record {
        version = front 95 text;
        revision = Some (back 95 text);
        version_form = parts.0;
        revision_form = parts.1;
        plain = plain_parted 95 text refl b.0 (version_text (front 95 text) parts.0).1 b.1;
        spelled = parted 95 text b.0;
      }
]

pub record IsFullVersion (text : List ℕ) : Type 0 where
  pub revised : List ℕ
  pub epoch : Option (List ℕ)
  pub revised_form : IsRevised revised
  pub epoch_form : IfSome epoch (λ e. IsTrue (is_shown_number e))
  pub plain : is_plain text ≡ true
  pub spelled : text ≡ revised ++ tail_of 44 epoch

pub full_version_parts : (text : List ℕ) → is_full_version text ≡ true → IsFullVersion text
full_version_parts text h = elim (either (is_revised text) (is_revised (front 44 text) && is_shown_number (back 44 text)) h) [
  | inl r ↦
      let form = revised_parts text r in
      record { revised = text; epoch = None; revised_form = form; epoch_form = tt; plain = form.plain; spelled = sym (append-nil text) }
  | inr f ↦
      let parts = and_parts (is_revised (front 44 text)) (is_shown_number (back 44 text)) f in
      let form = revised_parts (front 44 text) parts.0 in
      let b = shown_number (back 44 text) parts.1 in
      record {
        revised = front 44 text;
        epoch = Some (back 44 text);
        revised_form = form;
        epoch_form = parts.1;
        plain = plain_parted 44 text refl b.0 form.plain b.1;
        spelled = parted 44 text b.0;
      }
]

pub some_below-place : (test : ℕ → Bool) (n : ℕ) → some_below test n ≡ true → (k : ℕ) × (k < n) × (test k ≡ true)
some_below-place test zero h = cc
some_below-place test (suc n) h = elim (either (some_below test n) (test n) h) [
  | inl before ↦ (let k = some_below-place test n before in (k.0, omega (arith, k.1), k.2))
  | inr here ↦ (n, omega arith, here)
]

-- the parts of a package's name
record IsParted (text : List ℕ) (place : ℕ) : Type 0 where
  pub base_form : is_made_of is_port_byte 1 192 (take place text) ≡ true
  pub rest_form : is_full_version (drop (place + 1) text) ≡ true
  pub spelled : text ≡ take place text ++ 45 ∷ drop (place + 1) text

parted_at : (text : List ℕ) (place : ℕ) → place < length text → is_parted_at text place ≡ true → IsParted text place
parted_at text place l h =
    let last = and_parts ((get_or text place 0 == 45) && is_made_of is_port_byte 1 192 (take place text)) (is_full_version (drop (place + 1) text)) h in
    let first = and_parts (get_or text place 0 == 45) (is_made_of is_port_byte 1 192 (take place text)) last.0 in
    record {
      base_form = first.1;
      rest_form = last.1;
      spelled = sym (take-append-drop place text) ∙ ap (λ r. take place text ++ r) (drop_more text place 0 l ∙ ap (λ b. b ∷ drop (place + 1) text) (eqb-true _ _ first.0));
    }

name_parts : (text : List ℕ) → is_package_name text ≡ true → (place : ℕ) × (length text ≤ 200) × IsParted text place
name_parts text h =
    let parts = and_parts (nat_le (length text) 200) (some_below (is_parted_at text) (length text)) h in
    let k = some_below-place (is_parted_at text) (length text) parts.1 in
    (k.0, grind (arith, nat_tests), parted_at text k.0 k.1 k.2)

regroup : (base version r e : List ℕ) → base ++ 45 ∷ (version ++ r ++ e) ≡ base ++ (45 ∷ version) ++ r ++ e
regroup base version r e =
    ap (λ l. base ++ 45 ∷ l) (append_assoc version r e)
    ∙ sym (append_assoc base (45 ∷ version) (r ++ e))
    ∙ sym (append_assoc (base ++ (45 ∷ version)) r e)

pub package_name_form : (text : List ℕ) → is_package_name text ≡ true → IsPackageName text
package_name_form text h =
    let p = name_parts text h in
    let full = full_version_parts (drop (p.0 + 1) text) p.2.rest_form in
    let version = full.revised_form.version in
    let revision = full.revised_form.revision in
    record {
      base = take p.0 text;
      version = version;
      revision = revision;
      epoch = full.epoch;
      base_form = p.2.base_form;
      version_form = full.revised_form.version_form;
      revision_form = full.revised_form.revision_form;
      epoch_form = full.epoch_form;
      short = p.1;
      spelled =
          p.2.spelled
          ∙ ap (λ l. take p.0 text ++ 45 ∷ l) (full.spelled ∙ ap (λ l. l ++ tail_of 44 full.epoch) full.revised_form.spelled)
          ∙ regroup (take p.0 text) version (tail_of 95 revision) (tail_of 44 full.epoch);
    }

pub package_name_plain : (text : List ℕ) → is_package_name text ≡ true → is_plain text ≡ true
package_name_plain text h =
    let p = name_parts text h in
    let full = full_version_parts (drop (p.0 + 1) text) p.2.rest_form in
    ap is_plain p.2.spelled ∙ plain_joined (take p.0 text) (drop (p.0 + 1) text) 45 refl (base_name (take p.0 text) p.2.base_form).1 full.plain
