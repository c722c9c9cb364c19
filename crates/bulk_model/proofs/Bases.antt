-- A base root may underlie a build: no two of its files collide.
use Rattle.std.proofs.Common.{◌≡◌, ℕ, Bool, true, false, not, List, [], ◌∷◌, refl, ap, sym, ◌∙◌}
use Rattle.std.specs.Prelude.{◌&&◌, ◌||◌, Some, None, cond, bytes_eq}
use Rattle.std.specs.List.{list_all, list_any, AllByRecursion}
use Rattle.std.specs.List.Sorted.{IsStrictlySortedBy}
use Rattle.std.specs.Ordering.{nat_cmp, is_eq}
use Rattle.std.specs.declared.cmp.Ordering.TheVariants.{Less}
use Rattle.std.specs.Cmp.Lexicographic.{slice_cmp}
use Rattle.std.proofs.lemmas.Bool.{and_parts, and_from, false_from_ne_true, true≢false}
use Rattle.std.proofs.lemmas.Map.Text.{is_eq-slice_cmp}
use Rattle.std.proofs.lemmas.Slice.Eq.{bytes_eq-Decides}
use Rattle.bulk_base.specs.Path.{is_below, collides}
use Rattle.bulk_base.specs.declared.file.FileItem.{FileItem}
use Rattle.outside.specs.Contents.{IsAscending, has_no_folder}
use Rattle.bulk_model.specs.Bake.{first_conflict}
use Rattle.bulk_model.specs.Facts.{IsFileList, paths_of}
use Rattle.bulk_model.specs.PlanFacts.{IsBase, MayUnderlie}

-- of two paths the first comes before the second, and neither is a folder of the other
pub record IsApart (a b : List ℕ) : Type 0 where
  pub before : slice_cmp nat_cmp a b ≡ Less
  pub not_below : is_below a b ≡ false
  pub not_above : is_below b a ≡ false

abbrev AreApart : List (List ℕ) → Type 0
AreApart [] = Unit {0}
AreApart (x ∷ xs) = AllByRecursion (IsApart x) xs × AreApart xs

negated : (b : Bool) → not b ≡ true → b ≡ false
negated true h = absurd cc
negated false h = refl

abbrev clear : List ℕ → List ℕ → Bool
clear folder path = not (is_below folder path)

-- the tests of a column, and those of the rest
columns : (x : List ℕ) (xs ys : List (List ℕ)) → list_all (λ f. clear f x && list_all (clear f) xs) ys ≡ true
    → (list_all (λ f. clear f x) ys ≡ true) × (list_all (λ f. list_all (clear f) xs) ys ≡ true)
columns x xs [] h = (refl, refl)
columns x xs (y ∷ ys) h =
    let both = and_parts (clear y x && list_all (clear y) xs) (list_all (λ f. clear f x && list_all (clear f) xs) ys) h in
    let here = and_parts (clear y x) (list_all (clear y) xs) both.0 in
    let more = columns x xs ys both.1 in
    (and_from _ _ here.0 more.0, and_from _ _ here.1 more.1)

row : (x : List ℕ) (xs : List (List ℕ)) → AllByRecursion (λ y. slice_cmp nat_cmp x y ≡ Less) xs → list_all (clear x) xs ≡ true → list_all (λ f. clear f x) xs ≡ true → AllByRecursion (IsApart x) xs
row x [] less a b = tt
row x (y ∷ ys) less a b =
    let below = and_parts (clear x y) (list_all (clear x) ys) a in
    let above = and_parts (clear y x) (list_all (λ f. clear f x) ys) b in
    (record { before = less.0; not_below = negated (is_below x y) below.0; not_above = negated (is_below y x) above.0 }, row x ys less.1 below.1 above.1)

are_apart : (paths : List (List ℕ)) → IsAscending paths → has_no_folder paths ≡ true → AreApart paths
unfolding IsStrictlySortedBy
are_apart [] order h = tt
are_apart (x ∷ xs) order h =
    let both = and_parts (clear x x && list_all (clear x) xs) (list_all (λ f. clear f x && list_all (clear f) xs) xs) h in
    let rest = columns x xs xs both.1 in
    (row x xs order.0 (and_parts (clear x x) (list_all (clear x) xs) both.0).1 rest.0, are_apart xs order.1 rest.1)

-- paths that are apart do not collide
less_is_other : (a b : List ℕ) → slice_cmp nat_cmp a b ≡ Less → bytes_eq b a ≡ false
less_is_other a b h =
    let other : bytes_eq a b ≡ false = sym (is_eq-slice_cmp a b) ∙ ap is_eq h in
    false_from_ne_true (bytes_eq b a) (λ e. true≢false (sym ((bytes_eq-Decides a b).1 (sym ((bytes_eq-Decides b a).0 e))) ∙ other))

no_collision : (s f : List ℕ) → IsApart s f → collides f s ≡ false
no_collision s f a = ap (λ b. b || is_below s f || is_below f s) (less_is_other s f a.before) ∙ ap (λ b. b || is_below f s) a.not_below ∙ a.not_above

abbrev AreBefore : List (List ℕ) → List (List ℕ) → Type 0
AreBefore seen paths = AllByRecursion (λ s. AllByRecursion (IsApart s) paths) seen

none_collides : (f : List ℕ) (paths seen : List (List ℕ)) → AreBefore seen (f ∷ paths) → list_any (collides f) seen ≡ false
none_collides f paths [] h = refl
none_collides f paths (s ∷ seen) h = ap (λ b. b || list_any (collides f) seen) (no_collision s f h.0.0) ∙ none_collides f paths seen h.1

tails : (f : List ℕ) (paths seen : List (List ℕ)) → AreBefore seen (f ∷ paths) → AreBefore seen paths
tails f paths [] h = tt
tails f paths (s ∷ seen) h = (h.0.1, tails f paths seen h.1)

no_conflict : (seen : List (List ℕ)) (files : List FileItem) → AreApart (paths_of files) → AreBefore seen (paths_of files) → first_conflict seen files ≡ None
no_conflict seen [] a b = refl
no_conflict seen (file ∷ files) a b =
    ap (λ t. cond t (Some file.path) (first_conflict (file.path ∷ seen) files)) (none_collides file.path (paths_of files) seen b)
    ∙ no_conflict (file.path ∷ seen) files a.1 (a.0, tails file.path (paths_of files) seen b)

pub file_list_has_no_conflict : (most : ℕ) (files : List FileItem) → IsFileList most files → first_conflict [] files ≡ None
file_list_has_no_conflict most files f = no_conflict [] files (are_apart (paths_of files) f.order f.apart) tt

pub base_may_underlie : (files : List FileItem) → IsBase files → MayUnderlie files
base_may_underlie files b = record { apart = file_list_has_no_conflict 1024 files b.form; free = b.free }
