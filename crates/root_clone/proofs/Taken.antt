-- Files that find their places one after another.
use Rattle.std.proofs.Common.{◌≡◌, ℕ, ◌+◌, ◌<◌, length, drop, get_or, Bool, true, false, List, [], ◌∷◌, ◌++◌, ap, subst, sym, ◌∙◌, refl, arith}
use Rattle.std.specs.Prelude.{cond, not, ◌||◌, map, Some, None, IsTrue, bytes_eq}
use Rattle.std.specs.Cmp.Lexicographic.{nat_list_cmp_total, texts_ties}
use Rattle.std.specs.Ordering.{nat_cmp, eq_by_cmp}
use Rattle.std.specs.declared.cmp.Ordering.TheVariants.{Less, Equal, Greater}
use Rattle.std.specs.List.{list_all, list_any}
use Rattle.std.specs.FinMap.{FinMap, empty, keys, entries, insert, from_entries, from_entries_push, get, get-entries, get-from_entries, entries-insert, IsAntisymmetric, slice_cmp-IsAntisymmetric, nat_cmp-IsAntisymmetric}
use Rattle.std.specs.FinMap.Entries.{find, put, by_order}
use Rattle.std.proofs.lemmas.List.{append_assoc, append-nil, map-append, drop_more}
use Rattle.std.proofs.lemmas.Bool.{and_parts, and_from}
use Rattle.bulk_base.specs.Path.{collides, is_below, joined}
use Rattle.bulk_base.specs.declared.file.FileItem.{FileItem}
use Rattle.bulk_base.proofs.MapView.{order}
use Rattle.outside.specs.Contents.{Contents, IsFree}
use Rattle.bulk_model.specs.Bake.{first_conflict, placed, installed}
use Rattle.bulk_model.specs.Views.{PackageView}
use Rattle.root_clone.specs.Taking.{with_all, CanTake}

-- ---- one after another

pub with_all-append : (folder : Contents) (front back : List (List ℕ × List ℕ)) → with_all folder (front ++ back) ≡ with_all (with_all folder front) back
with_all-append folder [] back = refl
with_all-append folder (e ∷ front) back = with_all-append (insert folder e.0 e.1) front back

pub CanTake-parts : (folder : Contents) (front back : List (List ℕ × List ℕ)) → CanTake folder (front ++ back) → CanTake folder front × CanTake (with_all folder front) back
CanTake-parts folder [] back h = (tt, h)
CanTake-parts folder (e ∷ front) back h =
    let more = CanTake-parts (insert folder e.0 e.1) front back h.1 in
    ((h.0, more.0), more.1)

-- ---- what holds of all paths

list_all-put : (test : List ℕ → Bool) (k v : List ℕ) (es : List (List ℕ × List ℕ)) → test k ≡ true → list_all test (map (λ e. e.0) es) ≡ true → list_all test (map (λ e. e.0) (put order k v es)) ≡ true
list_all-put test k v [] h all = and_from _ _ h refl
list_all-put test k v (e ∷ es) h all =
    let m = and_parts (test e.0) (list_all test (map (λ x. x.0) es)) all in
    elim (order k e.0) as (λ o. list_all test (map (λ x. x.0) (by_order o ((k, v) ∷ e ∷ es) ((e.0, v) ∷ es) (e ∷ put order k v es))) ≡ true) [
      | Less ↦ and_from _ _ h all
      | Equal ↦ all
      | Greater ↦ and_from _ _ m.0 (list_all-put test k v es h m.1)
    ]

list_all-insert : (test : List ℕ → Bool) (folder : Contents) (k v : List ℕ) → test k ≡ true → list_all test (keys folder) ≡ true → list_all test (keys (insert folder k v)) ≡ true
list_all-insert test folder k v h all =
    ap (λ es. list_all test (map (λ e. e.0) es)) (entries-insert nat_list_cmp_total folder k v) ∙ list_all-put test k v (entries folder) h all

pub list_all-with_all : (test : List ℕ → Bool) (folder : Contents) (es : List (List ℕ × List ℕ)) → list_all test (keys folder) ≡ true → list_all test (map (λ e. e.0) es) ≡ true → list_all test (keys (with_all folder es)) ≡ true
list_all-with_all test folder [] all new = all
list_all-with_all test folder (e ∷ es) all new =
    let m = and_parts (test e.0) (list_all test (map (λ x. x.0) es)) new in
    list_all-with_all test (insert folder e.0 e.1) es (list_all-insert test folder e.0 e.1 m.0 all) m.1

-- ---- files without a conflict, each at a place that its path gives

apart : (a b : Bool) → (a || b) ≡ false → (a ≡ false) × (b ≡ false)
apart a b h = (grind arith, grind arith)

pub take_all : (place : List ℕ → List ℕ) → ((a b : List ℕ) → collides (place a) (place b) ≡ collides a b)
    → (seen : List (List ℕ)) (files : List FileItem) (folder : Contents)
    → ((path : List ℕ) → list_any (collides path) seen ≡ false → IsFree (place path) folder)
    → first_conflict seen files ≡ None
    → CanTake folder (map (λ file. (place file.path, file.bytes)) files)
take_all place same seen [] folder free h = tt
take_all place same seen (f ∷ files) folder free h =
    elim (list_any (collides f.path) seen) as (λ b. list_any (collides f.path) seen ≡ b → cond b (Some f.path) (first_conflict (f.path ∷ seen) files) ≡ None
    → CanTake folder (map (λ file. (place file.path, file.bytes)) (f ∷ files))) [
      | true ↦ λ e n. absurd cc
      | false ↦ λ e n. (
        free f.path e,
        take_all place same (f.path ∷ seen) files (insert folder (place f.path) f.bytes)
            (λ path k.
            let m = apart (collides path f.path) (list_any (collides path) seen) k in
            list_all-insert (λ other. not (collides (place path) other)) folder (place f.path) f.bytes (ap not (same path f.path ∙ m.0)) (free path m.1))
            n,
      )
    ] refl h

-- ---- the folder of all of them

differs : (a b c : Bool) → not (a || b || c) ≡ true → a ≡ false
differs a b c h = grind arith

find-free : (k : List ℕ) (es : List (List ℕ × List ℕ)) → list_all (λ y. not (collides k y)) (map (λ e. e.0) es) ≡ true → find order k es ≡ None
find-free k [] h = refl
find-free k (e ∷ es) h =
    let m = and_parts (not (collides k e.0)) (list_all (λ y. not (collides k y)) (map (λ x. x.0) es)) h in
    let other : eq_by_cmp order k e.0 ≡ false = sym (texts_ties k e.0) ∙ differs (bytes_eq k e.0) (is_below e.0 k) (is_below k e.0) m.0 in
    ap (λ b. cond b (Some e.1) (find order k es)) other ∙ find-free k es m.1

pub with_all-from : (front es : List (List ℕ × List ℕ)) → CanTake (from_entries front) es → with_all (from_entries front) es ≡ from_entries {R = order} (front ++ es)
with_all-from front [] h = ap from_entries (sym (append-nil front))
with_all-from front (e ∷ es) h =
    let none : find order e.0 front ≡ None = sym (get-from_entries nat_list_cmp_total front e.0) ∙ get-entries (from_entries front) e.0 ∙ find-free e.0 (entries (from_entries front)) h.0 in
    let one : from_entries (front ++ e ∷ []) ≡ insert (from_entries front) e.0 e.1 =
    from_entries_push nat_list_cmp_total (slice_cmp-IsAntisymmetric nat_cmp-IsAntisymmetric) front e.0 e.1 none in
    ap (λ c. with_all c es) (sym one)
    ∙ with_all-from (front ++ e ∷ []) es (subst (λ c. CanTake c es) (sym one) h.1)
    ∙ ap from_entries (append_assoc front (e ∷ []) es)

-- ---- the files of packages, one package after another

placed-append : (w : List ℕ) (front back : List FileItem) → placed w (front ++ back) ≡ placed w front ++ placed w back
placed-append w front back = map-append (λ file. (joined w file.path, file.bytes)) front back

installed_next : (w : List ℕ) (packages : List PackageView) (i : ℕ) (p : PackageView) → i < length packages → p ≡ get_or packages i p
    → placed w (installed (drop i packages)) ≡ placed w p.files ++ placed w (installed (drop (i + 1) packages))
installed_next w packages i p l e =
    ap (λ ps. placed w (installed ps)) (drop_more packages i p l)
    ∙ ap (λ q. placed w (installed (q ∷ drop (i + 1) packages))) (sym e)
    ∙ placed-append w p.files (installed (drop (i + 1) packages))

-- a loop over packages, where a package's files stand below a folder of this name
pub free_in_loop : (w : List ℕ) (packages : List PackageView) (i : ℕ) (p : PackageView) (local : List ℕ) (files : List FileItem) (folder : Contents)
    → i < length packages → p ≡ get_or packages i p → local ≡ w → files ≡ p.files
    → CanTake folder (placed w (installed (drop i packages))) → CanTake folder (placed local files)
free_in_loop w packages i p local files folder l e n f h =
    let here = (CanTake-parts folder (placed w p.files) (placed w (installed (drop (i + 1) packages))) (subst (CanTake folder) (installed_next w packages i p l e) h)).0 in
    subst (CanTake folder) (λ t. placed (sym n t) (sym f t)) here

pub free_after : (w : List ℕ) (packages : List PackageView) (i : ℕ) (p : PackageView) (local : List ℕ) (files : List FileItem) (folder now : Contents)
    → i < length packages → p ≡ get_or packages i p → local ≡ w → files ≡ p.files → now ≡ with_all folder (placed local files)
    → CanTake folder (placed w (installed (drop i packages))) → CanTake now (placed w (installed (drop (i + 1) packages)))
free_after w packages i p local files folder now l e n f k h =
    let rest = placed w (installed (drop (i + 1) packages)) in
    let more = (CanTake-parts folder (placed w p.files) rest (subst (CanTake folder) (installed_next w packages i p l e) h)).1 in
    subst (λ c. CanTake c rest) (sym (k ∙ (λ t. with_all folder (placed (n t) (f t))))) more

pub all_after : (w : List ℕ) (packages : List PackageView) (i : ℕ) (p : PackageView) (local : List ℕ) (files : List FileItem) (folder now : Contents)
    → i < length packages → p ≡ get_or packages i p → local ≡ w → files ≡ p.files → now ≡ with_all folder (placed local files)
    → with_all now (placed w (installed (drop (i + 1) packages))) ≡ with_all folder (placed w (installed (drop i packages)))
all_after w packages i p local files folder now l e n f k =
    let rest = placed w (installed (drop (i + 1) packages)) in
    ap (λ c. with_all c rest) (k ∙ (λ t. with_all folder (placed (n t) (f t))))
    ∙ sym (with_all-append folder (placed w p.files) rest)
    ∙ ap (with_all folder) (sym (installed_next w packages i p l e))
