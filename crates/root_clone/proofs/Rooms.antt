-- What a build puts into a room finds its place.
use Rattle.std.proofs.Common.{◌≡◌, ℕ, ◌+◌, ◌≤◌, true, List, [], ◌∷◌, ◌++◌, ap, subst, sym, ◌∙◌, refl, arith, length, length-append}
use Rattle.std.specs.Prelude.{None, codes, map, not, nat_le, Result, Ok, Err, OnOk}
use Rattle.std.specs.List.{list_all}
use Rattle.std.specs.FinMap.{empty, from_entries, keys}
use Rattle.std.proofs.lemmas.Bool.{and_parts, and_from, le-leb, leb-true}
use Rattle.std.proofs.lemmas.Bool.Decides.{nat_tests}
use Rattle.bulk_base.specs.Path.{collides, joined}
use Rattle.bulk_base.specs.declared.file.FileItem.{FileItem}
use Rattle.outside.proofs.Listings.{is_free-empty}
use Rattle.outside.specs.Contents.{Contents, IsFree}
use Rattle.bulk_model.specs.Bake.{placed, installed, first_conflict, first_folder}
use Rattle.bulk_model.specs.Facts.{IsFileList, IsJob, paths_of}
use Rattle.bulk_model.specs.PlanFacts.{MayUnderlie, is_reserved}
use Rattle.bulk_model.specs.Views.{JobView, PackageView}
use Rattle.bulk_model.proofs.Bases.{file_list_has_no_conflict}
use Rattle.root_clone.specs.Taking.{entries_of, with_all, CanTake, FitBelow}
use Rattle.path_laws.proofs.PathLists.{collides-joined_both}
use Rattle.root_clone.proofs.Places.{base_outside_local, base_outside_work, all_entries, all_placed}
use Rattle.root_clone.proofs.Taken.{take_all, list_all-with_all, with_all-append, with_all-from}

-- the folder with the base root, and with the installed files
abbrev pub rooted : List FileItem → Contents
rooted base = with_all empty (entries_of base)

abbrev pub equipped : List FileItem → List PackageView → Contents
equipped base packages = with_all (rooted base) (placed (codes "local") (installed packages))

pub base_is_taken : (base : List FileItem) → MayUnderlie base → CanTake empty (entries_of base)
base_is_taken base h = take_all (λ path. path) (λ a b. refl) [] base empty (λ path none. is_free-empty path) h.apart

away_from_local : (base : List FileItem) → MayUnderlie base → (path : List ℕ) → IsFree (joined (codes "local") path) (rooted base)
away_from_local base h path =
    let away = λ (other : List ℕ). not (collides (joined (codes "local") path) other) in
    list_all-with_all away empty (entries_of base) (is_free-empty (joined (codes "local") path))
    (all_entries away (λ p. not (is_reserved p)) (base_outside_local path) base h.free)

pub installed_are_taken : (base : List FileItem) (packages : List PackageView) → MayUnderlie base → first_conflict [] (installed packages) ≡ None
    → CanTake (rooted base) (placed (codes "local") (installed packages))
installed_are_taken base packages h none =
    take_all (joined (codes "local")) (collides-joined_both (codes "local")) [] (installed packages) (rooted base) (λ path n. away_from_local base h path) none

away_from_work : (base : List FileItem) (packages : List PackageView) → MayUnderlie base → (path : List ℕ) → IsFree (joined (codes "work") path) (equipped base packages)
away_from_work base packages h path =
    let away = λ (other : List ℕ). not (collides (joined (codes "work") path) other) in
    list_all-with_all away (rooted base) (placed (codes "local") (installed packages))
    (list_all-with_all away empty (entries_of base) (is_free-empty (joined (codes "work") path))
    (all_entries away (λ p. not (is_reserved p)) (base_outside_work path) base h.free))
    (all_placed away (codes "local") (λ p. refl) (installed packages))

pub work_is_taken : (base : List FileItem) (packages : List PackageView) (files : List FileItem) → MayUnderlie base → IsFileList 1019 files
    → CanTake (equipped base packages) (placed (codes "work") files)
work_is_taken base packages files h form =
    take_all (joined (codes "work")) (collides-joined_both (codes "work")) [] files (equipped base packages) (λ path n. away_from_work base packages h path)
    (file_list_has_no_conflict 1019 files form)

-- ---- as they are put, one group after another

pub base_in_room : (base items : List FileItem) (folder : Contents) → folder ≡ empty → items ≡ base → MayUnderlie base → CanTake folder (entries_of items)
base_in_room base items folder e n h = subst (λ c. CanTake c (entries_of items)) (sym e) (subst (λ fs. CanTake empty (entries_of fs)) (sym n) (base_is_taken base h))

is_rooted : (base items : List FileItem) (folder now : Contents) → folder ≡ empty → items ≡ base → now ≡ with_all folder (entries_of items) → now ≡ rooted base
is_rooted base items folder now e n k = k ∙ (λ t. with_all (e t) (entries_of (n t)))

pub installed_in_room : (base items : List FileItem) (packages : List PackageView) (folder now : Contents) → folder ≡ empty → items ≡ base → now ≡ with_all folder (entries_of items)
    → MayUnderlie base → first_conflict [] (installed packages) ≡ None → CanTake now (placed (codes "local") (installed packages))
installed_in_room base items packages folder now e n k h none =
    subst (λ c. CanTake c (placed (codes "local") (installed packages))) (sym (is_rooted base items folder now e n k)) (installed_are_taken base packages h none)

is_equipped : (base items : List FileItem) (packages : List PackageView) (folder first second : Contents) → folder ≡ empty → items ≡ base → first ≡ with_all folder (entries_of items)
    → second ≡ with_all first (placed (codes "local") (installed packages)) → second ≡ equipped base packages
is_equipped base items packages folder first second e n k m =
    m ∙ ap (λ c. with_all c (placed (codes "local") (installed packages))) (is_rooted base items folder first e n k)

pub work_in_room : (base items : List FileItem) (packages : List PackageView) (files : List FileItem) (folder first second : Contents) → folder ≡ empty → items ≡ base
    → first ≡ with_all folder (entries_of items) → second ≡ with_all first (placed (codes "local") (installed packages))
    → MayUnderlie base → IsFileList 1019 files → CanTake second (placed (codes "work") files)
work_in_room base items packages files folder first second e n k m h form =
    subst (λ c. CanTake c (placed (codes "work") files)) (sym (is_equipped base items packages folder first second e n k m)) (work_is_taken base packages files h form)

pub full_room : (base items : List FileItem) (packages : List PackageView) (job : JobView) (folder first second third : Contents) → folder ≡ empty → items ≡ base
    → first ≡ with_all folder (entries_of items) → second ≡ with_all first (placed (codes "local") (installed packages)) → third ≡ with_all second (placed (codes "work") job.files)
    → MayUnderlie base → first_conflict [] (installed packages) ≡ None → IsFileList 1019 job.files → third ≡ first_folder base packages job
full_room base items packages job folder first second third e n k m o h none form =
    let local = placed (codes "local") (installed packages) in
    let work = placed (codes "work") job.files in
    let based : rooted base ≡ from_entries (entries_of base) = with_all-from [] (entries_of base) (base_is_taken base h) in
    let based_too : equipped base packages ≡ from_entries (entries_of base ++ local) =
    ap (λ c. with_all c local) based ∙ with_all-from (entries_of base) local (subst (λ c. CanTake c local) based (installed_are_taken base packages h none)) in
    o ∙ ap (λ c. with_all c work) (is_equipped base items packages folder first second e n k m ∙ based_too)
    ∙ with_all-from (entries_of base ++ local) work (subst (λ c. CanTake c work) based_too (work_is_taken base packages job.files h form))

-- ---- short enough below a folder

pub fit_below : (w local : List ℕ) (most : ℕ) (files : List FileItem) → local ≡ w → length w + 1 + most ≤ 1024
    → list_all (λ path. nat_le (length path) most) (paths_of files) ≡ true → FitBelow local files
fit_below w local most [] n l h = refl
fit_below w local most (f ∷ files) n l h =
    let m = and_parts (nat_le (length f.path) most) (list_all (λ path. nat_le (length path) most) (paths_of files)) h in
    and_from _ _
    (le-leb (length (joined local f.path)) 1024 (omega (arith, leb-true _ _ m.0, length-append local (47 ∷ f.path), ap length n)))
    (fit_below w local most files n l m.1)

pub OnOk-map : {X E A B : Type 0} (r : Result X E) → (A → B) → OnOk r A → OnOk r B
OnOk-map (Ok x) f h = f h
OnOk-map (Err e) f h = tt
