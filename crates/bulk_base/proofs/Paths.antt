-- One path below another.
use Rattle.std.proofs.Common.{◌≡◌, ℕ, ◌+◌, ◌-◌, ◌<◌, ◌≤◌, Bool, true, false, List, [], ◌∷◌, ◌++◌, length, get_or, take, drop, arith, ◌∙◌, sym, ap, refl, nat_eq}
use Rattle.std.specs.Prelude.{cond, ◌&&◌}
use Rattle.std.specs.List.{slice_split, onto_first, list_all, starts_with}
use Rattle.std.proofs.lemmas.List.{append_assoc, length-append, length-drop, get_or_at, take_rest}
use Rattle.std.proofs.lemmas.Str.{IsCharBoundary-after_ascii, IsUtf8-drop, is_utf8-from_IsUtf8}
use Rattle.std.specs.Str.{IsCharBoundary, is_utf8}
use Rattle.bulk_base.proofs.TextBytes.{list_all-drop}
use Rattle.std.proofs.lemmas.List.Folds.{list_all-append}
use Rattle.std.proofs.lemmas.List.Splits.{length-slice_split}
use Rattle.std.proofs.Math.Bool.{and_assoc}
use Rattle.std.proofs.lemmas.Bool.Decides.{nat_tests, Decides-eqb}
use Rattle.std.proofs.lemmas.Slice.Eq.{starts_is}
use Rattle.bulk_base.specs.Text.{is_text_byte, has_text_bytes, is_text, IsText}
use Rattle.bulk_base.specs.Path.{is_slash, parts, is_part, is_path, joined, is_below}

onto_first-append : {X : Type 0} (x : X) (front back : List (List X)) → 0 < length front → onto_first x (front ++ back) ≡ onto_first x front ++ back
onto_first-append x [] back l = absurd (omega arith)
onto_first-append x (part ∷ more) back l = refl

cut_or_not : {X : Type 0} (b : Bool) (x : X) (front back : List (List X)) → 0 < length front
    → cond b ([] ∷ (front ++ back)) (onto_first x (front ++ back)) ≡ cond b ([] ∷ front) (onto_first x front) ++ back
cut_or_not true x front back l = refl
cut_or_not false x front back l = onto_first-append x front back l

-- the pieces of two lists with a separator between are those of the one and those of the other
pub slice_split-append : {X : Type 0} (p : X → Bool) (xs : List X) (y : X) (ys : List X) → p y ≡ true → slice_split p (xs ++ y ∷ ys) ≡ slice_split p xs ++ slice_split p ys
slice_split-append p [] y ys e = ap (λ b. cond b ([] ∷ slice_split p ys) (onto_first y (slice_split p ys))) e
slice_split-append p (x ∷ xs) y ys e =
    ap (λ r. cond (p x) ([] ∷ r) (onto_first x r)) (slice_split-append p xs y ys e)
    ∙ cut_or_not (p x) x (slice_split p xs) (slice_split p ys) (omega (arith, length-slice_split p xs))

-- a joined text has text bytes
pub has_text_bytes-joined : (folder rest : List ℕ) → has_text_bytes folder ≡ true → has_text_bytes rest ≡ true → has_text_bytes (joined folder rest) ≡ true
has_text_bytes-joined folder rest f r = list_all-append is_text_byte folder (47 ∷ rest) ∙ grind arith

-- a joined path that is short enough is a path
pub is_path-joined : (folder rest : List ℕ) → is_path folder ≡ true → is_path rest ≡ true → length (joined folder rest) ≤ 1024 → is_path (joined folder rest) ≡ true
is_path-joined folder rest f r short =
    let good : list_all is_part (parts (joined folder rest)) ≡ (list_all is_part (parts folder) && list_all is_part (parts rest)) =
    ap (list_all is_part) (slice_split-append is_slash folder 47 rest refl) ∙ list_all-append is_part (parts folder) (parts rest) in
    grind (arith, nat_tests)

-- the path begins with the folder and has a slash behind it
pub is_below_by_parts : (folder path : List ℕ) → is_below folder path ≡ (starts_with nat_eq path folder && nat_eq (get_or path (length folder) 0) 47)
is_below_by_parts [] [] = refl
is_below_by_parts [] (x ∷ path) = grind (arith, nat_tests)
is_below_by_parts (y ∷ folder) [] = refl
is_below_by_parts (y ∷ folder) (x ∷ path) =
    ap (λ b. nat_eq y x && b) (is_below_by_parts folder path) ∙ sym (and_assoc (nat_eq y x) (starts_with nat_eq path folder) (nat_eq (get_or path (length folder) 0) 47))

-- what is joined to a folder is below it
pub is_below-joined : (folder rest : List ℕ) → is_below folder (joined folder rest) ≡ true
is_below-joined folder rest = (starts_is Decides-eqb (joined folder rest) (joined folder []) (is_below folder (joined folder rest)) refl).1 rest (sym (append_assoc folder (47 ∷ []) rest))

-- what is below a folder is joined to it
pub below_is_joined : (folder path : List ℕ) → is_below folder path ≡ true → path ≡ joined folder (drop (length folder + 1) path)
below_is_joined folder path h =
    let size : length (joined folder []) ≡ length folder + 1 = length-append folder (47 ∷ []) in
    (starts_is Decides-eqb path (joined folder []) (is_below folder path) refl).0 h
    ∙ append_assoc folder (47 ∷ []) (drop (length (joined folder [])) path)
    ∙ ap (λ n. joined folder (drop n path)) size

-- what follows a folder in a path is a path
pub is_path-below : (folder path : List ℕ) → is_below folder path ≡ true → is_path path ≡ true → is_path (drop (length folder + 1) path) ≡ true
is_path-below folder path h form =
    let rest : List ℕ = drop (length folder + 1) path in
    let good : list_all is_part (parts path) ≡ (list_all is_part (parts folder) && list_all is_part (parts rest)) =
    ap (λ p. list_all is_part (parts p)) (below_is_joined folder path h) ∙ ap (list_all is_part) (slice_split-append is_slash folder 47 rest refl) ∙ list_all-append is_part (parts folder) (parts rest) in
    let shorter : length rest ≤ length path = omega (arith, length-drop (length folder + 1) path) in
    grind (arith, nat_tests)

-- and a text
pub is_text-below : (folder path : List ℕ) → is_below folder path ≡ true → IsText path → is_text (drop (length folder + 1) path) ≡ true
is_text-below folder path h form =
    let n : ℕ = length folder in
    let size : length path ≡ n + 1 + length (drop (n + 1) path) = ap length (below_is_joined folder path h) ∙ length-append folder (47 ∷ drop (n + 1) path) ∙ omega arith in
    let slash : get_or path n 0 ≡ 47 = ap (λ p. get_or p n 0) (below_is_joined folder path h) ∙ get_or_at folder 47 (drop (n + 1) path) 0 n refl in
    let boundary : IsCharBoundary path (n + 1) = IsCharBoundary-after_ascii path n form.0 (omega arith) (omega (arith, slash)) in
    let utf8 : is_utf8 (drop (n + 1) path) ≡ true = is_utf8-from_IsUtf8 _ (IsUtf8-drop path (n + 1) form.0 boundary) in
    let bytes : has_text_bytes (drop (n + 1) path) ≡ true = list_all-drop is_text_byte (n + 1) path form.1 in
    grind arith

-- the rest as a slice of the bytes gives it
pub rest_as_slice : (bytes path front folder : List ℕ) → bytes ≡ path → front ≡ folder → take (length bytes - (length front + 1)) (drop (length front + 1) bytes) ≡ drop (length folder + 1) path
rest_as_slice bytes path front folder e f = take_rest bytes (length front + 1) ∙ ap (λ b. drop (length front + 1) b) e ∙ ap (λ g. drop (length g + 1) path) f
