-- Names of categories and folders, byte by byte.
use Rattle.std.proofs.Common.{◌≡◌, ℕ, ◌+◌, ◌<◌, ◌≤◌, ◌/◌, ◌%◌, true, false, List, [], ◌∷◌, ◌++◌, length, refl, ap, sym, ◌∙◌, subst, arith}
use Rattle.std.specs.Prelude.{◌&&◌, nat_lt}
use Rattle.std.specs.Fmt.{decimal}
use Rattle.std.specs.List.{All, list_all}
use Rattle.std.proofs.lemmas.Bool.{and_from}
use Rattle.std.proofs.lemmas.Bool.Decides.{nat_tests}
use Rattle.std.proofs.lemmas.Fmt.{decimal_digit}
use Rattle.std.proofs.lemmas.List.Elements.{All-cons}
use Rattle.std.proofs.lemmas.List.Splits.{slice_split_none}
use Rattle.bulk_base.specs.Path.{is_slash, is_part, is_path, parts}
use Rattle.bulk_base.specs.Text.{is_plain_text, is_text_byte}
use Rattle.tree_maker.specs.Made.{category, folder}

-- the name of a category that has one digit
abbrev pub c_name : ℕ → List ℕ
c_name c = 99 ∷ (48 + c) ∷ []

-- the folder with these digits
abbrev pub p_name : ℕ → ℕ → ℕ → ℕ → List ℕ
p_name a b c d = 112 ∷ (48 + a) ∷ (48 + b) ∷ (48 + c) ∷ (48 + d) ∷ []

pub category_is : (c : ℕ) → c < 8 → category c ≡ c_name c
category_is c l = ap (λ xs. 99 ∷ xs) (decimal_digit c (omega arith))

pub folder_is : (i : ℕ) → i < 10000
    → folder i ≡ p_name (i / 1000) (i / 100 % 10) (i / 10 % 10) (i % 10)
folder_is i l =
    ap (λ xs. 112 ∷ xs ++ decimal (i / 100 % 10) ++ decimal (i / 10 % 10) ++ decimal (i % 10)) (decimal_digit (i / 1000) (omega arith))
    ∙ ap (λ xs. 112 ∷ (48 + i / 1000) ∷ xs ++ decimal (i / 10 % 10) ++ decimal (i % 10)) (decimal_digit (i / 100 % 10) (omega arith))
    ∙ ap (λ xs. 112 ∷ (48 + i / 1000) ∷ (48 + i / 100 % 10) ∷ xs ++ decimal (i % 10)) (decimal_digit (i / 10 % 10) (omega arith))
    ∙ ap (λ xs. 112 ∷ (48 + i / 1000) ∷ (48 + i / 100 % 10) ∷ (48 + i / 10 % 10) ∷ xs) (decimal_digit (i % 10) (omega arith))

no_slash : (d : ℕ) → d < 10 → is_slash (48 + d) ≡ false
no_slash d l = grind (arith, nat_tests)

plain : (d : ℕ) → d < 10 → (nat_lt (48 + d) 128 && is_text_byte (48 + d)) ≡ true
plain d l = grind (arith, nat_tests)

nothing : All (λ b. is_slash b ≡ false) []
nothing k d l = absurd (omega arith)

slashless : (b : ℕ) (bs : List ℕ) → is_slash b ≡ false → All (λ b. is_slash b ≡ false) bs
    → All (λ b. is_slash b ≡ false) (b ∷ bs)
slashless b bs h all = All-cons (λ b. is_slash b ≡ false) b bs h all

-- a name of one part
one_part : (name : List ℕ) → All (λ b. is_slash b ≡ false) name → list_all is_part (name ∷ []) ≡ true
    → list_all is_part (parts name) ≡ true
one_part name all h = ap (list_all is_part) (slice_split_none is_slash name all) ∙ h

pub category_plain : (c : ℕ) → c < 8 → is_plain_text (category c) ≡ true
category_plain c l =
    subst (λ name. is_plain_text name ≡ true) (sym (category_is c l))
    (and_from _ _ (plain c (omega arith)) refl)

pub category_path_is : (c : ℕ) → c < 8 → is_path (category c) ≡ true
category_path_is c l =
    subst (λ name. is_path name ≡ true) (sym (category_is c l))
    (one_part (c_name c) (slashless 99 ((48 + c) ∷ []) refl (slashless (48 + c) [] (no_slash c (omega arith)) nothing)) refl)

pub folder_plain : (i : ℕ) → i < 10000 → is_plain_text (folder i) ≡ true
folder_plain i l =
    subst (λ name. is_plain_text name ≡ true) (sym (folder_is i l))
    (and_from _ _ (plain (i / 1000) (omega arith))
    (and_from _ _ (plain (i / 100 % 10) (omega arith))
    (and_from _ _ (plain (i / 10 % 10) (omega arith))
    (and_from _ _ (plain (i % 10) (omega arith)) refl))))

pub folder_path_is : (i : ℕ) → i < 10000 → is_path (folder i) ≡ true
folder_path_is i l =
    subst (λ name. is_path name ≡ true) (sym (folder_is i l))
    (one_part (p_name (i / 1000) (i / 100 % 10) (i / 10 % 10) (i % 10))
    (slashless 112 ((48 + i / 1000) ∷ (48 + i / 100 % 10) ∷ (48 + i / 10 % 10) ∷ (48 + i % 10) ∷ []) refl
    (slashless (48 + i / 1000) ((48 + i / 100 % 10) ∷ (48 + i / 10 % 10) ∷ (48 + i % 10) ∷ []) (no_slash (i / 1000) (omega arith))
    (slashless (48 + i / 100 % 10) ((48 + i / 10 % 10) ∷ (48 + i % 10) ∷ []) (no_slash (i / 100 % 10) (omega arith))
    (slashless (48 + i / 10 % 10) ((48 + i % 10) ∷ []) (no_slash (i / 10 % 10) (omega arith))
    (slashless (48 + i % 10) [] (no_slash (i % 10) (omega arith)) nothing)))))
    refl)

pub category_short : (c : ℕ) → c < 8 → length (category c) ≤ 2
category_short c l = subst (λ name. length name ≤ 2) (sym (category_is c l)) (omega arith)

pub folder_short : (i : ℕ) → i < 10000 → length (folder i) ≤ 5
folder_short i l = subst (λ name. length name ≤ 5) (sym (folder_is i l)) (omega arith)
