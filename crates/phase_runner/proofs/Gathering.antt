-- Staged files that are gathered from a listing, one after another.
use Rattle.std.proofs.Common.{◌≡◌, ℕ, ◌+◌, ◌<◌, ◌≤◌, true, List, [], ◌∷◌, ◌++◌, ap, subst, sym, ◌∙◌, refl, arith, length, drop, get_or, map}
use Rattle.std.specs.Prelude.{nat_le, nat_lt, Option, Some, None, cond}
use Rattle.std.specs.List.{filter_map, list_all, cons_option}
use Rattle.std.proofs.lemmas.List.{at_drop_more, drop_more, append_assoc, append-nil, map-append, drop_all}
use Rattle.std.proofs.lemmas.List.Folds.{list_all-append}
use Rattle.std.proofs.lemmas.List.Sums.{sum_by-cons, sum_by-append}
use Rattle.std.proofs.lemmas.Bool.{le-leb, and_from, lt-ltb, le-ltb}
use Rattle.bulk_base.specs.declared.file.FileItem.{FileItem}
use Rattle.bulk_model.specs.Facts.{IsFileList, paths_of}
use Rattle.bulk_model.specs.Weight.{file_weight, weight_of, most_weight}
use Rattle.outside.specs.Contents.{IsListing}
use Rattle.path_laws.specs.Laws.{IsPathList, rest_of}
use Rattle.path_laws.proofs.PathLists.{IsPathList-rest, left_out}
use Rattle.phase_runner.specs.Staged.{taken_of, light}
use Rattle.phase_runner.specs.declared.staging.Taken.TheVariants.{TooHeavy}
use Rattle.phase_runner.proofs.Cutting.{heavy_is_some}

-- ---- what comes of each path

pub one_added : {X Y : Type 0} (h : X → Option Y) (xs : List X) (i : ℕ) (x : X) (y : Y) (before now : List Y) → i < length xs → x ≡ get_or xs i x → h x ≡ Some y → now ≡ before ++ y ∷ []
    → now ++ filter_map h (drop (i + 1) xs) ≡ before ++ filter_map h (drop i xs)
one_added h xs i x y before now l e f n =
    ap (λ ys. ys ++ filter_map h (drop (i + 1) xs)) n
    ∙ append_assoc before (y ∷ []) (filter_map h (drop (i + 1) xs))
    ∙ sym (ap (λ ys. before ++ filter_map h ys) (drop_more xs i x l)
    ∙ ap (λ z. before ++ cons_option (h z) (filter_map h (drop (i + 1) xs))) (sym e)
    ∙ ap (λ o. before ++ cons_option o (filter_map h (drop (i + 1) xs))) f)

pub none_added : {X Y : Type 0} (h : X → Option Y) (xs : List X) (i : ℕ) (x : X) (before : List Y) → i < length xs → x ≡ get_or xs i x → h x ≡ None
    → before ++ filter_map h (drop (i + 1) xs) ≡ before ++ filter_map h (drop i xs)
none_added h xs i x before l e f =
    sym (ap (λ ys. before ++ filter_map h ys) (drop_more xs i x l)
    ∙ ap (λ z. before ++ cons_option (h z) (filter_map h (drop (i + 1) xs))) (sym e)
    ∙ ap (λ o. before ++ cons_option o (filter_map h (drop (i + 1) xs))) f)

-- ---- the form of what is gathered

next_rest : (w : List ℕ) (paths : List (List ℕ)) (i : ℕ) (path : List ℕ) (front : List (List ℕ)) → i < length paths → path ≡ get_or paths i path
    → IsPathList (front ++ map (rest_of w) (drop i paths)) → IsPathList (front ++ rest_of w path ∷ map (rest_of w) (drop (i + 1) paths))
next_rest w paths i path front l e h =
    subst (λ ps. IsPathList (front ++ ps))
    (at_drop_more (map (rest_of w)) paths i path l ∙ ap (λ x. rest_of w x ∷ map (rest_of w) (drop (i + 1) paths)) (sym e)) h

pub form_without : (w : List ℕ) (paths : List (List ℕ)) (i : ℕ) (path : List ℕ) (files : List FileItem) → i < length paths → path ≡ get_or paths i path
    → IsPathList (paths_of files ++ map (rest_of w) (drop i paths)) → IsPathList (paths_of files ++ map (rest_of w) (drop (i + 1) paths))
form_without w paths i path files l e h =
    left_out (paths_of files) (rest_of w path) (map (rest_of w) (drop (i + 1) paths)) (next_rest w paths i path (paths_of files) l e h)

pub form_with : (w : List ℕ) (paths : List (List ℕ)) (i : ℕ) (path : List ℕ) (file : FileItem) (before now : List FileItem) → i < length paths → path ≡ get_or paths i path
    → file.path ≡ rest_of w path → now ≡ before ++ file ∷ []
    → IsPathList (paths_of before ++ map (rest_of w) (drop i paths)) → IsPathList (paths_of now ++ map (rest_of w) (drop (i + 1) paths))
form_with w paths i path file before now l e f n h =
    let back = map (rest_of w) (drop (i + 1) paths) in
    subst IsPathList
    (ap (λ p. paths_of before ++ p ∷ back) (sym f)
    ∙ sym (append_assoc (paths_of before) (file.path ∷ []) back)
    ∙ ap (λ ps. ps ++ back) (sym (map-append (λ (x : FileItem). x.path) before (file ∷ [])))
    ∙ ap (λ fs. paths_of fs ++ back) (sym n))
    (next_rest w paths i path (paths_of before) l e h)

pub short_with : (most : ℕ) (file : FileItem) (before now : List FileItem) → length file.path ≤ most → now ≡ before ++ file ∷ []
    → list_all (λ path. nat_le (length path) most) (paths_of before) ≡ true → list_all (λ path. nat_le (length path) most) (paths_of now) ≡ true
short_with most file before now s n h =
    ap (λ fs. list_all (λ path. nat_le (length path) most) (paths_of fs)) n
    ∙ ap (list_all (λ path. nat_le (length path) most)) (map-append (λ (x : FileItem). x.path) before (file ∷ []))
    ∙ list_all-append (λ path. nat_le (length path) most) (paths_of before) (file.path ∷ [])
    ∙ and_from _ _ h (and_from _ _ (le-leb (length file.path) most s) refl)

pub form_at_start : (w folder : List ℕ) (files : List FileItem) (items paths : List (List ℕ)) → files ≡ [] → items ≡ paths → folder ≡ w → IsListing folder paths
    → IsPathList (paths_of files ++ map (rest_of w) items)
form_at_start w folder files items paths f e n h =
    subst IsPathList (λ k. paths_of (sym f k) ++ map (rest_of w) (sym e k)) (IsPathList-rest w paths (subst (λ v. IsListing v paths) n h))

pub form_at_end : (w : List ℕ) (items : List (List ℕ)) (i most : ℕ) (files : List FileItem) → length items ≤ i → IsPathList (paths_of files ++ map (rest_of w) (drop i items))
    → list_all (λ path. nat_le (length path) most) (paths_of files) ≡ true → IsFileList most files
form_at_end w items i most files l h short =
    let list : IsPathList (paths_of files) = subst IsPathList (ap (λ d. paths_of files ++ map (rest_of w) d) (drop_all i items l) ∙ append-nil (paths_of files)) h in
    record { order = list.order; apart = list.apart; short = short }

-- ---- their weight

pub weight_with : (file : FileItem) (before now : List FileItem) → now ≡ before ++ file ∷ [] → weight_of now ≡ weight_of before + file_weight file
weight_with file before now n = ap weight_of n ∙ sum_by-append file_weight before (file ∷ []) ∙ omega arith

pub all_light : (files all : List FileItem) → weight_of files ≤ most_weight → all ≡ files → Some files ≡ light all
all_light files all w e = sym (ap light e ∙ ap (λ b. cond b None (Some files)) (le-ltb most_weight (weight_of files) w))

pub too_heavy : (before rest all : List FileItem) (file : FileItem) → most_weight < weight_of before + file_weight file → before ++ file ∷ rest ≡ all → None ≡ light all
too_heavy before rest all file w e =
    sym (ap light (sym e)
    ∙ ap (λ b. cond b None (Some (before ++ file ∷ rest)))
    (lt-ltb most_weight (weight_of (before ++ file ∷ rest)) (omega (arith, w, sum_by-append file_weight before (file ∷ rest), sum_by-cons file_weight file rest))))

-- the gathering stops at a file that is too heavy
pub stopped : (h : List ℕ → Option FileItem) (paths : List (List ℕ)) (i : ℕ) (path : List ℕ) (before all : List FileItem) (left : ℕ) → i < length paths → path ≡ get_or paths i path
    → TooHeavy ≡ taken_of left (h path) → left + weight_of before ≡ 524288 → before ++ filter_map h (drop i paths) ≡ all → None ≡ light all
stopped h paths i path before all left l e heavy sum told =
    let found = heavy_is_some left (h path) heavy in
    too_heavy before (filter_map h (drop (i + 1) paths)) all found.0 (omega (arith, sum, found.2))
    (sym (ap (λ ps. before ++ filter_map h ps) (drop_more paths i path l)
    ∙ ap (λ p. before ++ cons_option (h p) (filter_map h (drop (i + 1) paths))) (sym e)
    ∙ ap (λ o. before ++ cons_option o (filter_map h (drop (i + 1) paths))) found.1)
    ∙ told)
