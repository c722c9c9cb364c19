-- What the first bytes of a file say of the file: it is gone, too large, or whole.
use Rattle.std.proofs.Common.{◌≡◌, ℕ, ◌+◌, ◌<◌, ◌≤◌, Bool, true, false, List, [], ◌∷◌, ◌++◌, length, take, drop, get_or, subst, arith, ◌∙◌, sym, ap, refl}
use Rattle.std.specs.Prelude.{Option, Some, None, unwrap_or, nat_lt, find, cond}
use Rattle.std.specs.Option.{option_map, option_or}
use Rattle.std.specs.Prelude.{IfSome}
use Rattle.std.specs.List.{filter_map}
use Rattle.std.proofs.lemmas.List.Folds.{find-append}
use Rattle.outside.specs.Contents.{Contents, files_below}
use Rattle.bulk_model.specs.Files.{file_at, files_in}
use Rattle.one_port.specs.NodeJobs.{is_large}
use Rattle.one_port.specs.PortFiles.{IsTaken}
use Rattle.one_port.proofs.PathLists.{IsPathList, rest_of}
use Rattle.bulk_model.specs.Facts.{IsFileList, paths_of}
use Rattle.std.specs.List.{list_all}
use Rattle.std.specs.Prelude.{map, nat_le}
use Rattle.std.proofs.lemmas.List.{length-take, take_all, take_more, take-append-drop, drop_more, drop_all, append-nil}
use Rattle.std.proofs.lemmas.Bool.Decides.{nat_tests}
use Rattle.bulk_base.specs.declared.file.FileItem.{FileItem}

same_bytes : (a b : List ℕ) → Some a ≡ Some b → a ≡ b
same_bytes a b e = ap (λ o. unwrap_or o []) e

pub too_large : (most : ℕ) (bytes : List ℕ) (held : Option (List ℕ)) → Some bytes ≡ option_map (take (most + 1)) held → most < length bytes
    → nat_lt most (length (unwrap_or held [])) ≡ true
too_large most bytes None e l = absurd (cc)
too_large most bytes (Some whole) e l =
    let longer : length bytes ≤ length whole = omega (arith, ap length (same_bytes _ _ e), length-take (most + 1) whole) in
    grind (arith, nat_tests)

pub gone : (most : ℕ) (path : List ℕ) (held : Option (List ℕ)) → None ≡ option_map (take (most + 1)) held
    → (nat_lt most (length (unwrap_or held [])) ≡ false) × (None ≡ option_map (λ b. let f : FileItem = record { path = path; bytes = b } in f) held)
gone most path None e = (grind (arith, nat_tests), refl)
gone most path (Some whole) e = absurd (cc)

pub whole : (most : ℕ) (path bytes : List ℕ) (held : Option (List ℕ)) → Some bytes ≡ option_map (take (most + 1)) held → length bytes ≤ most
    → (nat_lt most (length (unwrap_or held [])) ≡ false) × (Some (let f : FileItem = record { path = path; bytes = bytes } in f) ≡ option_map (λ b. let f : FileItem = record { path = path; bytes = b } in f) held)
whole most path bytes None e l = absurd (cc)
whole most path bytes (Some all) e l =
    let short : length all ≤ most = omega (arith, ap length (same_bytes _ _ e), length-take (most + 1) all) in
    let same : bytes ≡ all = same_bytes _ _ e ∙ take_all (most + 1) all (omega arith) in
    (grind (arith, nat_tests), ap (λ b. Some (let f : FileItem = record { path = path; bytes = b } in f)) same)

find_push : (p : List ℕ → Bool) (xs : List (List ℕ)) (x : List ℕ) → find p xs ≡ None → p x ≡ false → find p (xs ++ x ∷ []) ≡ None
find_push p xs x before here = find-append p xs (x ∷ []) ∙ ap (λ o. option_or o (cond (p x) (Some x) None)) before ∙ ap (λ b. cond b (Some x) None) here

-- no file so far is too large
pub small_so_far : (p : List ℕ → Bool) (paths : List (List ℕ)) (i : ℕ) (path : List ℕ) → i < length paths → path ≡ get_or paths i path
    → p path ≡ false → find p (take i paths) ≡ None → find p (take (i + 1) paths) ≡ None
small_so_far p paths i path l e here before =
    ap (find p) (take_more paths i path l) ∙ find_push p (take i paths) (get_or paths i path) before (ap p (sym e) ∙ here)

-- the first file that is too large
pub first_large : (p : List ℕ → Bool) (paths : List (List ℕ)) (i : ℕ) (path : List ℕ) → i < length paths → path ≡ get_or paths i path
    → p path ≡ true → find p (take i paths) ≡ None → find p paths ≡ Some path
first_large p paths i path l e here before =
    ap (find p) (sym (take-append-drop i paths)) ∙ find-append p (take i paths) (drop i paths)
    ∙ ap (λ o. option_or o (find p (drop i paths))) before
    ∙ ap (find p) (drop_more paths i path l ∙ ap (λ x. x ∷ drop (i + 1) paths) (sym e))
    ∙ ap (λ b. cond b (Some path) (find p (drop (i + 1) paths))) here

-- what was taken of one file, at the content that the loop began with
pub none_taken : (now before : Contents) (folder path : List ℕ) (taken : Option (Option FileItem)) → now ≡ before → taken ≡ None → IsTaken folder now path taken → is_large before path ≡ true
none_taken now before folder path None e n h = ap (λ c. is_large c path) (sym e) ∙ h
none_taken now before folder path (Some found) e n h = absurd (cc)

some_found : (found other : Option FileItem) → Some found ≡ Some other → found ≡ other
some_found found other e = ap (λ o. unwrap_or o None) e

pub some_taken : (now before : Contents) (folder path : List ℕ) (taken : Option (Option FileItem)) (found : Option FileItem) → now ≡ before → taken ≡ Some found → IsTaken folder now path taken
    → (is_large before path ≡ false) × (found ≡ file_at folder before path)
some_taken now before folder path None found e n h = absurd (cc)
some_taken now before folder path (Some other) found e n h =
    (ap (λ c. is_large c path) (sym e) ∙ h.0, sym (some_found other found n) ∙ h.1 ∙ ap (λ c. file_at folder c path) e)

pub some_fact : (P : FileItem → Type 0) (taken : Option (Option FileItem)) (found : Option FileItem) → taken ≡ Some found → IfSome taken (λ f. IfSome f P) → IfSome found P
some_fact P None found n h = absurd (cc)
some_fact P (Some other) found n h = subst (λ f. IfSome f P) (some_found other found n) h

-- at the end: the first that is too large, or all
pub large_at_end : (before old : Contents) (folder : List ℕ) (items names : List (List ℕ)) (path copy : List ℕ) → before ≡ old → items ≡ names → names ≡ files_below folder old → copy ≡ path
    → find (is_large before) items ≡ Some path → find (is_large old) (files_below folder old) ≡ Some copy
large_at_end before old folder items names path copy b e n c h =
    ap (λ d. find (is_large d) (files_below folder old)) (sym b) ∙ ap (find (is_large before)) (sym n ∙ sym e) ∙ h ∙ ap Some (sym c)

pub whole_at_end : (before old : Contents) (folder : List ℕ) (items names : List (List ℕ)) (i : ℕ) (files : List FileItem) → length items ≤ i → before ≡ old → items ≡ names → names ≡ files_below folder old
    → find (is_large before) (take i items) ≡ None → files ≡ filter_map (file_at folder before) (take i items)
    → (find (is_large old) (files_below folder old) ≡ None) × (files ≡ files_in folder old)
whole_at_end before old folder items names i files l b e n small f =
    let all : take i items ≡ files_below folder old = take_all i items l ∙ e ∙ n in (
      ap (λ d. find (is_large d) (files_below folder old)) (sym b) ∙ ap (find (is_large before)) (sym all) ∙ small,
      f ∙ ap (filter_map (file_at folder before)) all ∙ ap (λ d. filter_map (file_at folder d) (files_below folder old)) b,
    )

-- and their form
pub form_at_end : (folder : List ℕ) (items : List (List ℕ)) (i : ℕ) (files : List FileItem) → length items ≤ i → IsPathList (paths_of files ++ map (rest_of folder) (drop i items))
    → list_all (λ path. nat_le (length path) 1019) (paths_of files) ≡ true → IsFileList 1019 files
form_at_end folder items i files l h short =
    let list : IsPathList (paths_of files) = subst IsPathList (ap (λ d. paths_of files ++ map (rest_of folder) d) (drop_all i items l) ∙ append-nil (paths_of files)) h in
    record { order = list.order; apart = list.apart; short = short }
