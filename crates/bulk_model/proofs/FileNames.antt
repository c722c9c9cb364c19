-- Files of packages by their names.
use Rattle.std.proofs.Common.{◌≡◌, ℕ, ◌-◌, true, false, List, ◌++◌, length, drop, nat_eq, refl, ap, ◌∙◌, arith, codes}
use Rattle.std.specs.Cmp.Lexicographic.{pointwise}
use Rattle.std.proofs.Math.Seq.{drop-append_seam}
use Rattle.std.proofs.lemmas.List.{append_cancel_right, length-append}
use Rattle.std.proofs.lemmas.List.Folds.{list_all-append}
use Rattle.std.proofs.lemmas.Str.{IsUtf8-append, is_utf8-from_IsUtf8}
use Rattle.std.specs.Str.{is_utf8}
use Rattle.bulk_base.specs.Text.{is_text, is_text_byte, has_text_bytes, IsText, is_plain_text}
use Rattle.bulk_base.proofs.TextTests.{is_text-plain, IsText-from_is_text}
use Rattle.bulk_model.specs.FileNames.{package_file, is_package_file, catalogue_file}

-- a text with plain bytes behind it is a text
pub is_text-append_plain : (front back : List ℕ) → IsText front → is_plain_text back ≡ true → is_text (front ++ back) ≡ true
is_text-append_plain front back f b =
    let g : IsText back = IsText-from_is_text back (is_text-plain back b) in
    let utf8 : is_utf8 (front ++ back) ≡ true = is_utf8-from_IsUtf8 (front ++ back) (IsUtf8-append front back f.0 g.0) in
    let bytes : has_text_bytes (front ++ back) ≡ true = (let e = list_all-append is_text_byte front back in let h = f.1 in let k = g.1 in grind arith) in
    grind arith

-- the catalogue is no package's file
pub catalogue_is_none : is_package_file catalogue_file ≡ false
catalogue_is_none = refl

-- packages of different names have files of different names
pub package_file_apart : (a b : List ℕ) → package_file a ≡ package_file b → a ≡ b
package_file_apart a b e = append_cancel_right a b (codes ".pkg") e

-- and each is a package's file
pub package_file_is : (name : List ℕ) → is_package_file (package_file name) ≡ true
package_file_is name =
    let behind : length (package_file name) - length (codes ".pkg") ≡ length name = omega (arith, length-append name (codes ".pkg")) in
    ap (λ n. pointwise nat_eq (codes ".pkg") (drop n (package_file name))) behind ∙ ap (pointwise nat_eq (codes ".pkg")) (drop-append_seam name (codes ".pkg"))
