-- Files that are taken one after another from a listing.
use Rattle.std.proofs.Common.{◌≡◌, ℕ, ◌+◌, ◌<◌, ◌≤◌, true, List, [], ◌∷◌, ◌++◌, ap, subst, sym, ◌∙◌, refl, length, take, drop, get_or, map}
use Rattle.std.specs.Prelude.{Option, Some, None, IfSome, nat_le}
use Rattle.std.specs.Option.{option_map, option_to_list}
use Rattle.std.specs.List.{list_all, filter_map, cons_option}
use Rattle.std.proofs.lemmas.List.{at_drop_more, take_more, map-append, append_assoc, append-nil, take_all}
use Rattle.std.proofs.lemmas.List.Elements.{filter_map-append}
use Rattle.std.proofs.lemmas.List.Folds.{list_all-append}
use Rattle.std.proofs.lemmas.Bool.{le-leb, and_from}
use Rattle.bulk_base.specs.declared.file.FileItem.{FileItem}
use Rattle.bulk_model.specs.Facts.{paths_of}
use Rattle.outside.specs.Contents.{Contents, IsListing, files_below}
use Rattle.bulk_model.specs.Files.{file_at, files_in}
use Rattle.one_port.specs.RoomBuild.{cut_file, taken_at}
use Rattle.one_port.proofs.PathLists.{IsPathList, IsPathList-rest, rest_of, left_out}

-- what comes of each path so far
one_more : {X : Type 0} (o : Option X) → option_to_list o ≡ cons_option o []
one_more None = refl
one_more (Some x) = refl

pub found_in_loop : {X Y : Type 0} (h : X → Option Y) (paths : List X) (i : ℕ) (path : X) (before now : List Y) (found : Option Y) → i < length paths → path ≡ get_or paths i path
    → before ≡ filter_map h (take i paths) → found ≡ h path → now ≡ before ++ option_to_list found → now ≡ filter_map h (take (i + 1) paths)
found_in_loop h paths i path before now found l p b f n =
    n ∙ (λ t. b t ++ option_to_list (f t)) ∙ ap (λ o. filter_map h (take i paths) ++ o) (one_more (h path)) ∙ ap (λ x. filter_map h (take i paths) ++ cons_option (h x) []) p
    ∙ sym (ap (filter_map h) (take_more paths i path l) ∙ filter_map-append h (take i paths) (get_or paths i path ∷ []))

-- files cut after they are taken are those that are cut when they are taken
pub filter_map-cut : {X Y : Type 0} (cut : Y → Y) (h : X → Option Y) (xs : List X) → filter_map (λ x. option_map cut (h x)) xs ≡ map cut (filter_map h xs)
filter_map-cut cut h [] = refl
filter_map-cut cut h (x ∷ xs) =
    elim (h x) as (λ o. cons_option (option_map cut o) (filter_map (λ x. option_map cut (h x)) xs) ≡ map cut (cons_option o (filter_map h xs))) [
      | None ↦ filter_map-cut cut h xs
      | Some y ↦ ap (λ ys. cut y ∷ ys) (filter_map-cut cut h xs)
    ]

-- the files so far and the paths that are left are in order, and none is a folder of another
form_so_far : (front : List FileItem) (x : List ℕ) (back : List (List ℕ)) (found : Option FileItem) → IfSome found (λ f. f.path ≡ x) → IsPathList (paths_of front ++ x ∷ back)
    → IsPathList (paths_of (front ++ option_to_list found) ++ back)
form_so_far front x back None e h = subst (λ fs. IsPathList (paths_of fs ++ back)) (sym (append-nil front)) (left_out (paths_of front) x back h)
form_so_far front x back (Some f) e h =
    subst IsPathList (sym (ap (λ ps. ps ++ back) (map-append (λ f. f.path) front (f ∷ [])) ∙ append_assoc (paths_of front) (f.path ∷ []) back ∙ ap (λ y. paths_of front ++ y ∷ back) e)) h

pub form_in_loop : (w : List ℕ) (paths : List (List ℕ)) (i : ℕ) (path : List ℕ) (before now : List FileItem) (found : Option FileItem) → i < length paths → path ≡ get_or paths i path
    → IfSome found (λ f. f.path ≡ rest_of w path) → now ≡ before ++ option_to_list found → IsPathList (paths_of before ++ map (rest_of w) (drop i paths)) → IsPathList (paths_of now ++ map (rest_of w) (drop (i + 1) paths))
form_in_loop w paths i path before now found l p e n h =
    let next : map (rest_of w) (drop i paths) ≡ rest_of w path ∷ map (rest_of w) (drop (i + 1) paths) =
    at_drop_more (map (rest_of w)) paths i path l ∙ ap (λ x. rest_of w x ∷ map (rest_of w) (drop (i + 1) paths)) (sym p) in
    subst (λ fs. IsPathList (paths_of fs ++ map (rest_of w) (drop (i + 1) paths))) (sym n)
    (form_so_far before (rest_of w path) (map (rest_of w) (drop (i + 1) paths)) found e (subst (λ ps. IsPathList (paths_of before ++ ps)) next h))

-- and short
one_short : (most : ℕ) (found : Option FileItem) → IfSome found (λ f. length f.path ≤ most) → list_all (λ path. nat_le (length path) most) (paths_of (option_to_list found)) ≡ true
one_short most None e = refl
one_short most (Some f) e = and_from _ _ (le-leb (length f.path) most e) refl

pub short_so_far : (most : ℕ) (before now : List FileItem) (found : Option FileItem) → IfSome found (λ f. length f.path ≤ most) → now ≡ before ++ option_to_list found
    → list_all (λ path. nat_le (length path) most) (paths_of before) ≡ true → list_all (λ path. nat_le (length path) most) (paths_of now) ≡ true
short_so_far most before now found e n h =
    ap (λ fs. list_all (λ path. nat_le (length path) most) (paths_of fs)) n
    ∙ ap (list_all (λ path. nat_le (length path) most)) (map-append (λ f. f.path) before (option_to_list found))
    ∙ list_all-append (λ path. nat_le (length path) most) (paths_of before) (paths_of (option_to_list found))
    ∙ and_from _ _ h (one_short most found e)

-- the loop's start, and its end
pub form_at_start : (w folder : List ℕ) (files : List FileItem) (items paths : List (List ℕ)) → files ≡ [] → items ≡ paths → folder ≡ w → IsListing folder paths → IsPathList (paths_of files ++ map (rest_of w) items)
form_at_start w folder files items paths f e n h =
    subst IsPathList (λ k. paths_of (sym f k) ++ map (rest_of w) (sym e k)) (IsPathList-rest w paths (subst (λ v. IsListing v paths) n h))

pub all_taken : (most : ℕ) (w folder : List ℕ) (items paths : List (List ℕ)) (i : ℕ) (files : List FileItem) (old new : Contents) → length items ≤ i → items ≡ paths → folder ≡ w
    → paths ≡ files_below folder old → new ≡ old → files ≡ filter_map (taken_at most w new) (take i items) → files ≡ map (cut_file most) (files_in w old)
all_taken most w folder items paths i files old new l e n p m f =
    f ∙ ap (filter_map (taken_at most w new)) (take_all i items l ∙ e ∙ p ∙ ap (λ v. files_below v old) n)
    ∙ ap (λ v. filter_map (taken_at most w v) (files_below w old)) m
    ∙ filter_map-cut (cut_file most) (file_at w old) (files_below w old)
