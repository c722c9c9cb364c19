-- Files that are gathered from a listing, one after another: those so far and the paths that are left.
use Rattle.std.proofs.Common.{◌≡◌, ℕ, ◌+◌, ◌<◌, ◌≤◌, Bool, true, List, [], ◌∷◌, ◌++◌, ap, subst, sym, ◌∙◌, refl, length, take, arith, drop, get_or, map, ◌⊎◌, inl, inr}
use Rattle.std.specs.Prelude.{nat_le, IsTrue}
use Rattle.std.specs.List.{list_all}
use Rattle.std.proofs.lemmas.List.{at_drop_more, append_assoc, append-nil, drop_all}
use Rattle.std.proofs.lemmas.List.Folds.{list_all-append}
use Rattle.std.proofs.lemmas.Bool.{le-leb, leb-true, and_from}
use Rattle.bulk_base.specs.declared.file.FileItem.{FileItem}
use Rattle.bulk_model.specs.Facts.{IsFileList, paths_of}
use Rattle.outside.specs.Contents.{IsListing}
use Rattle.bulk_base.proofs.Members.{all_passes, contains_map}
use Rattle.dist_files.specs.declared.dist.Dist.{Dist}
use Rattle.job_files.specs.FileForms.{AddsAtMost, files_of}
use Rattle.path_laws.specs.Laws.{IsPathList, rest_of}
use Rattle.path_laws.proofs.PathLists.{IsPathList-rest, left_out}

abbrev pub IsSoFar : List ℕ → List FileItem → List (List ℕ) → Type 0
IsSoFar w files paths = IsPathList (paths_of files ++ map (rest_of w) paths)

one_more : (before now : List FileItem) (x : List ℕ) (back : List (List ℕ)) → AddsAtMost x before now → IsPathList (paths_of before ++ x ∷ back) → IsPathList (paths_of now ++ back)
one_more before now x back adds h = elim adds [
  | inl added ↦ subst IsPathList (sym (append_assoc (paths_of before) (x ∷ []) back) ∙ ap (λ ps. ps ++ back) (sym added.0)) h
  | inr same ↦ subst (λ fs. IsPathList (paths_of fs ++ back)) (sym same) (left_out (paths_of before) x back h)
]

pub so_far_next : (w : List ℕ) (paths : List (List ℕ)) (i : ℕ) (path : List ℕ) (before now : List FileItem) → i < length paths → path ≡ get_or paths i path
    → AddsAtMost (rest_of w path) before now → IsSoFar w before (drop i paths) → IsSoFar w now (drop (i + 1) paths)
so_far_next w paths i path before now l p adds h =
    let next : map (rest_of w) (drop i paths) ≡ rest_of w path ∷ map (rest_of w) (drop (i + 1) paths) =
    at_drop_more (map (rest_of w)) paths i path l ∙ ap (λ x. rest_of w x ∷ map (rest_of w) (drop (i + 1) paths)) (sym p) in
    one_more before now (rest_of w path) (map (rest_of w) (drop (i + 1) paths)) adds (subst (λ ps. IsPathList (paths_of before ++ ps)) next h)

-- a test of paths that each path of the listing passes
pub tested_next : (p : List ℕ → Bool) (path : List ℕ) (before now : List FileItem) → (length path ≤ 1019 → p path ≡ true) → AddsAtMost path before now
    → list_all p (paths_of before) ≡ true → list_all p (paths_of now) ≡ true
tested_next p path before now here adds h = elim adds [
  | inl added ↦ ap (list_all p) added.0 ∙ list_all-append p (paths_of before) (path ∷ []) ∙ and_from _ _ h (and_from _ _ (here added.1) refl)
  | inr same ↦ ap (λ fs. list_all p (paths_of fs)) same ∙ h
]

pub short_path : (most : ℕ) (path : List ℕ) → 1019 ≤ most → length path ≤ 1019 → nat_le (length path) most ≡ true
short_path most path m l = le-leb (length path) most (omega arith)

pub so_far_begin : (w folder : List ℕ) (files : List FileItem) (items names : List (List ℕ)) → files ≡ [] → items ≡ names → folder ≡ w → IsListing folder names → IsSoFar w files (drop 0 items)
so_far_begin w folder files items names n e f h =
    subst (λ fs. IsPathList (paths_of fs ++ map (rest_of w) items)) (sym n)
    (subst (λ ps. IsPathList (map (rest_of w) ps)) (sym e) (IsPathList-rest w names (subst (λ x. IsListing x names) f h)))

pub file_list : (w : List ℕ) (items : List (List ℕ)) (i most : ℕ) (files : List FileItem) → length items ≤ i → IsSoFar w files (drop i items)
    → list_all (λ path. nat_le (length path) most) (paths_of files) ≡ true → IsFileList most files
file_list w items i most files l h short =
    let list : IsPathList (paths_of files) = subst IsPathList (ap (λ d. paths_of files ++ map (rest_of w) d) (drop_all i items l) ∙ append-nil (paths_of files)) h in
    record { order = list.order; apart = list.apart; short = short }

-- one of the entries of a list is short
short_in : (dists : List Dist) (i : ℕ) (dist : Dist) → list_all (λ file. nat_le (length file) 1014) (files_of dists) ≡ true → i < length dists → dist ≡ get_or dists i dist → length dist.file ≤ 1014
short_in dists i dist h l e =
    leb-true (length dist.file) 1014
    (all_passes (λ file. nat_le (length file) 1014) (files_of dists) dist.file h (contains_map (λ (d : Dist). d.file) dists dist (i, l, sym e)))

pub short_at : (dists items : List Dist) (i : ℕ) (dist : Dist) → items ≡ dists → list_all (λ file. nat_le (length file) 1014) (files_of dists) ≡ true → i < length items → dist ≡ get_or items i dist → length dist.file ≤ 1014
short_at dists items i dist same h l e = short_in items i dist (ap (λ ds. list_all (λ file. nat_le (length file) 1014) (files_of ds)) same ∙ h) l e
