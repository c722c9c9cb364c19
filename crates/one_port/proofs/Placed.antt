-- A folder into which files are put one after another.
use Rattle.std.proofs.Common.{◌≡◌, ℕ, ◌+◌, ◌<◌, ◌≤◌, Bool, true, false, List, [], ◌∷◌, ◌++◌, ap, subst, sym, ◌∙◌, refl, arith, length, take, drop, get_or, length-append}
use Rattle.std.specs.Prelude.{cond, not, nat_le, map, Some, None, bytes_eq, ◌||◌}
use Rattle.std.specs.Cmp.Lexicographic.{nat_list_cmp_total, texts_ties}
use Rattle.std.specs.declared.cmp.Ordering.TheVariants.{Less, Equal, Greater}
use Rattle.std.specs.Ordering.{eq_by_cmp}
use Rattle.std.specs.List.{list_all}
use Rattle.std.specs.FinMap.{empty, keys, entries, insert, from_entries, from_entries_push, entries-insert, len-entries, len-empty, slice_cmp-IsAntisymmetric, nat_cmp-IsAntisymmetric}
use Rattle.std.specs.FinMap.Entries.{find, put, by_order}
use Rattle.std.proofs.lemmas.List.{nil_from_length, at_drop_more, take_more, map-append, take-append-drop}
use Rattle.std.proofs.lemmas.Bool.{and_parts, leb-true, and_from}
use Rattle.bulk_base.specs.Path.{joined, collides, is_below}
use Rattle.bulk_base.specs.declared.file.FileItem.{FileItem}
use Rattle.bulk_base.proofs.MapView.{order}
use Rattle.outside.specs.Contents.{Contents, IsFree}
use Rattle.bulk_model.specs.Bake.{placed}
use Rattle.bulk_model.specs.Facts.{paths_of}
use Rattle.one_port.proofs.PathLists.{IsPathList, parts_of_all, collides_none_before, collides-joined_both}

list_all-put : (p : List ℕ → Bool) (path bytes : List ℕ) (es : List (List ℕ × List ℕ)) → p path ≡ true → list_all p (map (λ e. e.0) es) ≡ true → list_all p (map (λ e. e.0) (put order path bytes es)) ≡ true
list_all-put p path bytes [] h k = and_from _ _ h refl
list_all-put p path bytes (e ∷ es) h k =
    let m = and_parts (p e.0) (list_all p (map (λ x. x.0) es)) k in
    elim (order path e.0) as (λ o. list_all p (map (λ x. x.0) (by_order o ((path, bytes) ∷ e ∷ es) ((e.0, bytes) ∷ es) (e ∷ put order path bytes es))) ≡ true) [
      | Less ↦ and_from _ _ h k
      | Equal ↦ k
      | Greater ↦ and_from _ _ m.0 (list_all-put p path bytes es h m.1)
    ]

entries-empty : entries (empty {X = List ℕ} {R = order}) ≡ []
entries-empty = nil_from_length _ (sym (len-entries empty) ∙ len-empty order (List ℕ))

-- what holds of the paths of files holds of the paths in the folder of these files
pub list_all-keys : (p : List ℕ → Bool) (es : List (List ℕ × List ℕ)) → list_all p (map (λ e. e.0) es) ≡ true → list_all p (keys (from_entries {R = order} es)) ≡ true
list_all-keys p [] h = ap (λ es. list_all p (map (λ e. e.0) es)) entries-empty
list_all-keys p (e ∷ es) h =
    let m = and_parts (p e.0) (list_all p (map (λ x. x.0) es)) h in
    ap (λ xs. list_all p (map (λ x. x.0) xs)) (entries-insert nat_list_cmp_total (from_entries es) e.0 e.1)
    ∙ list_all-put p e.0 e.1 (entries (from_entries es)) m.0 (list_all-keys p es m.1)

differs_if_free : (a b c : Bool) → not (a || b || c) ≡ true → not a ≡ true
differs_if_free a b c h = grind arith

-- a path that collides with none of some files has no entry among them
find-free : (k : List ℕ) (es : List (List ℕ × List ℕ)) → list_all (λ y. not (collides k y)) (map (λ e. e.0) es) ≡ true → find order k es ≡ None
find-free k [] h = refl
find-free k (e ∷ es) h =
    let m = and_parts (not (collides k e.0)) (list_all (λ y. not (collides k y)) (map (λ x. x.0) es)) h in
    let other : eq_by_cmp order k e.0 ≡ false = sym (texts_ties k e.0) ∙ (let d = differs_if_free (bytes_eq k e.0) (is_below e.0 k) (is_below k e.0) m.0 in grind arith) in
    ap (λ b. cond b (Some e.1) (find order k es)) other ∙ find-free k es m.1

collides_none-placed : (w x : List ℕ) (files : List FileItem) → list_all (λ y. not (collides x y)) (paths_of files) ≡ true → list_all (λ y. not (collides (joined w x) y)) (map (λ e. e.0) (placed w files)) ≡ true
collides_none-placed w x [] h = refl
collides_none-placed w x (f ∷ files) h =
    let m = and_parts (not (collides x f.path)) (list_all (λ y. not (collides x y)) (paths_of files)) h in
    and_from _ _ (ap not (collides-joined_both w x f.path) ∙ m.0) (collides_none-placed w x files m.1)

paths_split : (files : List FileItem) (i : ℕ) (d : FileItem) → i < length files → paths_of files ≡ paths_of (take i files) ++ (get_or files i d).path ∷ paths_of (drop (i + 1) files)
paths_split files i d l =
    ap paths_of (sym (take-append-drop i files)) ∙ map-append (λ f. f.path) (take i files) (drop i files)
    ∙ at_drop_more (λ fs. paths_of (take i files) ++ paths_of fs) files i d l

none_before : (w : List ℕ) (files : List FileItem) (i : ℕ) (d : FileItem) → i < length files → IsPathList (paths_of files)
    → list_all (λ y. not (collides (joined w (get_or files i d).path) y)) (map (λ e. e.0) (placed w (take i files))) ≡ true
none_before w files i d l h =
    collides_none-placed w (get_or files i d).path (take i files)
    (collides_none_before (paths_of (take i files)) (get_or files i d).path (paths_of (drop (i + 1) files)) (subst IsPathList (paths_split files i d l) h))

-- the next file's place is free
pub free_for_next : (w : List ℕ) (files : List FileItem) (i : ℕ) (d : FileItem) → i < length files → IsPathList (paths_of files)
    → IsFree (joined w (get_or files i d).path) (from_entries (placed w (take i files)))
free_for_next w files i d l h = list_all-keys (λ y. not (collides (joined w (get_or files i d).path) y)) (placed w (take i files)) (none_before w files i d l h)

-- and putting it there gives the folder of one file more
pub placed_next : (w : List ℕ) (files : List FileItem) (i : ℕ) (d : FileItem) → i < length files → IsPathList (paths_of files)
    → from_entries {R = order} (placed w (take (i + 1) files)) ≡ insert (from_entries (placed w (take i files))) (joined w (get_or files i d).path) (get_or files i d).bytes
placed_next w files i d l h =
    ap (λ fs. from_entries (placed w fs)) (take_more files i d l)
    ∙ ap from_entries (map-append (λ f. (joined w f.path, f.bytes)) (take i files) (get_or files i d ∷ []))
    ∙ from_entries_push nat_list_cmp_total (slice_cmp-IsAntisymmetric nat_cmp-IsAntisymmetric) (placed w (take i files)) (joined w (get_or files i d).path) (get_or files i d).bytes
    (find-free (joined w (get_or files i d).path) (placed w (take i files)) (none_before w files i d l h))

short_at : (most : ℕ) (files : List FileItem) (i : ℕ) (d : FileItem) → i < length files → list_all (λ path. nat_le (length path) most) (paths_of files) ≡ true → length (get_or files i d).path ≤ most
short_at most files i d l h =
    leb-true _ _ ((parts_of_all (λ path. nat_le (length path) most) (paths_of (take i files)) (get_or files i d).path (paths_of (drop (i + 1) files)) (ap (list_all (λ path. nat_le (length path) most)) (sym (paths_split files i d l)) ∙ h)).1)

-- the next file's path is short enough below a folder
pub short_below : (w : List ℕ) (most : ℕ) (files : List FileItem) (i : ℕ) (d : FileItem) → i < length files → list_all (λ path. nat_le (length path) most) (paths_of files) ≡ true
    → length (joined w (get_or files i d).path) ≤ length w + 1 + most
short_below w most files i d l h = omega (arith, short_at most files i d l h, length-append w (47 ∷ (get_or files i d).path))

pub next_path : (w work : List ℕ) (files : List FileItem) (i : ℕ) (file : FileItem) (path : List ℕ) → file ≡ get_or files i file → work ≡ w → path ≡ joined work file.path → path ≡ joined w (get_or files i file).path
next_path w work files i file path f e p = p ∙ ap (λ v. joined v file.path) e ∙ ap (λ x. joined w x.path) f

-- the two as a loop over files meets them
pub free_in_loop : (w work : List ℕ) (files : List FileItem) (i : ℕ) (file : FileItem) (path : List ℕ) (content : Contents) → i < length files → IsPathList (paths_of files)
    → file ≡ get_or files i file → work ≡ w → path ≡ joined work file.path → content ≡ from_entries (placed w (take i files)) → IsFree path content
free_in_loop w work files i file path content l h f e p k =
    subst (λ q. IsFree q content) (sym (next_path w work files i file path f e p)) (subst (λ m. IsFree (joined w (get_or files i file).path) m) (sym k) (free_for_next w files i file l h))

pub placed_in_loop : (w work : List ℕ) (files : List FileItem) (i : ℕ) (file : FileItem) (path bytes : List ℕ) (before now : Contents) → i < length files → IsPathList (paths_of files)
    → file ≡ get_or files i file → work ≡ w → path ≡ joined work file.path → bytes ≡ file.bytes → before ≡ from_entries (placed w (take i files)) → now ≡ insert before path bytes
    → now ≡ from_entries (placed w (take (i + 1) files))
placed_in_loop w work files i file path bytes before now l h f e p b k n =
    let q : path ≡ joined w (get_or files i file).path = next_path w work files i file path f e p in
    let y : bytes ≡ (get_or files i file).bytes = b ∙ ap (λ x. x.bytes) f in
    n ∙ (λ t. insert (k t) (q t) (y t)) ∙ sym (placed_next w files i file l h)

pub short_in_loop : (w work : List ℕ) (most : ℕ) (files : List FileItem) (i : ℕ) (file : FileItem) → i < length files → list_all (λ path. nat_le (length path) most) (paths_of files) ≡ true
    → file ≡ get_or files i file → work ≡ w → length (joined work file.path) ≤ length w + 1 + most
short_in_loop w work most files i file l h f e =
    subst (λ p. length p ≤ length w + 1 + most) (sym (next_path w work files i file (joined work file.path) f e refl)) (short_below w most files i file l h)
