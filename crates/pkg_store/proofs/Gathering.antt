-- The reading of all package files, one after another, is what the content's definition says.
use Rattle.std.proofs.Common.{◌≡◌, ℕ, ◌+◌, ◌-◌, ◌<◌, ◌≤◌, Bool, true, false, List, [], ◌∷◌, ◌++◌, length, take, drop, get_or, refl, ap, sym, ◌∙◌, arith, cond, inl, inr, ◌⊎◌}
use Rattle.std.specs.Prelude.{Option, Some, None, Result, Ok, Err, is_some, is_none, nat_lt, filter, sum_by, Contains}
use Rattle.std.specs.Option.{option_and_then, option_map, option_map_or}
use Rattle.std.specs.List.{list_all, filter_map, cons_option}
use Rattle.std.specs.FinMap.{get, keys, contains_key-keys}
use Rattle.std.specs.Ordering.{eq_by_cmp, nat_cmp}
use Rattle.std.specs.Cmp.Lexicographic.{slice_cmp}
use Rattle.std.proofs.lemmas.Bool.{true≢false, cases_lt, lt-ltb, le-ltb, and_parts}
use Rattle.std.proofs.lemmas.List.{append_assoc, append-nil, take_all, length-take-le, at_drop_more, at_drop_all}
use Rattle.std.proofs.lemmas.List.Sums.{sum_by-cons}
use Rattle.std.proofs.lemmas.Map.Text.{is_eq-slice_cmp}
use Rattle.std.proofs.lemmas.Slice.Eq.{bytes_eq-Decides}
use Rattle.outside.specs.Contents.{Contents}
use Rattle.bulk_base.proofs.Members.{member_any, passes_all, filter_out_of}
use Rattle.bulk_model.specs.FileNames.{is_package_file}
use Rattle.bulk_model.specs.Limits.{most}
use Rattle.bulk_model.specs.declared.which.Which.TheVariants.{StoreNames, StoreBytes}
use Rattle.bulk_model.specs.Views.{PackageView}
use Rattle.pkg_record.specs.declared.answer.Record.{Record}
use Rattle.pkg_record.specs.declared.answer.Record.TheVariants.{New, Old}
use Rattle.pkg_record.specs.Reading.{record_of}
use Rattle.pkg_record.specs.Stored.{own_record, record_in, package_of, is_old, package_files}
use Rattle.pkg_store.specs.Loaded.{LoadedView}
use Rattle.pkg_store.specs.Loading.{names_in, size_of, bytes_in, held_in, too_many_bytes, loaded_in}
use Rattle.pkg_store.specs.declared.fault.StoreError.{StoreError}
use Rattle.pkg_store.specs.declared.fault.StoreError.TheVariants.{Limit}
use Rattle.pkg_store.specs.declared.found.Found.{Found}
use Rattle.pkg_store.specs.Reading.{with_record, with_file, bytes_read, file_read, files_read, and_then, loaded_of}

-- ---- of a file that is there one byte more than is left is enough

cut_case : (file : List ℕ) (found : Found) (whole : List ℕ) (front : List ℕ) (b : Bool) → nat_lt found.left (length whole) ≡ b
    → (b ≡ false → front ≡ whole) → (b ≡ true → found.left < length front)
    → bytes_read file found (Some front) ≡ bytes_read file found (Some whole)
cut_case file found whole front true e same more =
    ap (λ t. cond t (Err too_many_bytes) (Ok (with_file file front found))) (lt-ltb found.left (length front) (more refl))
    ∙ sym (ap (λ t. cond t (Err too_many_bytes) (Ok (with_file file whole found))) e)
cut_case file found whole front false e same more = ap (λ bytes. bytes_read file found (Some bytes)) (same refl)

pub cut : (file : List ℕ) (found : Found) (whole : Option (List ℕ))
    → bytes_read file found (option_map (take (found.left + 1)) whole) ≡ bytes_read file found whole
cut file found None = refl
cut file found (Some whole) = elim (cases_lt found.left (length whole)) [
  | inl more ↦ cut_case file found whole (take (found.left + 1) whole) (nat_lt found.left (length whole)) refl
      (λ e. absurd (true≢false (sym (lt-ltb found.left (length whole) more) ∙ e)))
      (λ e. let l : length (take (found.left + 1) whole) ≡ found.left + 1 = length-take-le (found.left + 1) whole (omega arith) in omega arith)
  | inr all ↦ cut_case file found whole (take (found.left + 1) whole) (nat_lt found.left (length whole)) refl
      (λ e. take_all (found.left + 1) whole (omega arith))
      (λ e. absurd (true≢false (sym e ∙ le-ltb found.left (length whole) all)))
]

-- ---- one file after another

abbrev package_at : Contents → List ℕ → Option PackageView
package_at content file = option_and_then package_of (record_in content file)

abbrev gathered : Contents → List (List ℕ) → Found → Found
gathered content files found = record {
  packages = found.packages ++ filter_map (package_at content) files;
  old_files = found.old_files ++ filter (λ file. is_old (record_in content file)) files;
  damaged = found.damaged ++ filter (λ file. is_none (record_in content file)) files;
  left = found.left - sum_by (size_of content) files;
}

abbrev decided : Contents → List (List ℕ) → Found → Result Found StoreError
decided content files found =
    cond (nat_lt found.left (sum_by (size_of content) files)) (Err too_many_bytes) (Ok (gathered content files found))

-- ---- behind one more file

module _ (content : Contents) (file : List ℕ) (files : List (List ℕ)) (found : Found) (left : ℕ) where
  abbrev packages_left : List PackageView
  packages_left = filter_map (package_at content) files

  abbrev old_left : List (List ℕ)
  old_left = filter (λ f. is_old (record_in content f)) files

  abbrev damaged_left : List (List ℕ)
  damaged_left = filter (λ f. is_none (record_in content f)) files

  abbrev behind : Option Record → Found
  behind told = record {
    packages = (with_record file told found).packages ++ packages_left;
    old_files = (with_record file told found).old_files ++ old_left;
    damaged = (with_record file told found).damaged ++ damaged_left;
    left = left;
  }

  abbrev with_it : Option Record → Found
  with_it told = record {
    packages = found.packages ++ cons_option (option_and_then package_of told) packages_left;
    old_files = found.old_files ++ cond (is_old told) (file ∷ old_left) old_left;
    damaged = found.damaged ++ cond (is_none told) (file ∷ damaged_left) damaged_left;
    left = left;
  }

  put_behind : (told : Option Record) → behind told ≡ with_it told
  put_behind None =
      ap (λ d. let f : Found = record {
        packages = found.packages ++ packages_left;
        old_files = found.old_files ++ old_left;
        damaged = d;
        left = left;
      } in f) (append_assoc found.damaged (file ∷ []) damaged_left)
  put_behind (Some (Old name)) =
      ap (λ o. let f : Found = record {
        packages = found.packages ++ packages_left;
        old_files = o;
        damaged = found.damaged ++ damaged_left;
        left = left;
      } in f) (append_assoc found.old_files (file ∷ []) old_left)
  put_behind (Some (New p)) =
      ap (λ ps. let f : Found = record {
        packages = ps;
        old_files = found.old_files ++ old_left;
        damaged = found.damaged ++ damaged_left;
        left = left;
      } in f) (append_assoc found.packages (p ∷ []) packages_left)

same_left : (file : List ℕ) (told : Option Record) (found : Found) → (with_record file told found).left ≡ found.left
same_left file None found = refl
same_left file (Some (New p)) found = refl
same_left file (Some (Old name)) found = refl

same_test : (left size rest bytes : ℕ) → size ≡ bytes → bytes ≤ left → nat_lt (left - bytes) rest ≡ nat_lt left (size + rest)
same_test left size rest bytes e l = elim (cases_lt left (size + rest)) [
  | inl less ↦ lt-ltb (left - bytes) rest (omega arith) ∙ sym (lt-ltb left (size + rest) less)
  | inr more ↦ le-ltb (left - bytes) rest (omega arith) ∙ sym (le-ltb left (size + rest) more)
]

module _ (content : Contents) (file : List ℕ) (files : List (List ℕ)) (found : Found) (bytes : List ℕ) (there : get content file ≡ Some bytes) where
  size : size_of content file ≡ length bytes
  size = ap (λ o. option_map_or length o 0) there

  read : record_in content file ≡ own_record file (record_of bytes)
  read = ap (option_and_then (λ b. own_record file (record_of b))) there

  rest : ℕ
  rest = sum_by (size_of content) files

  whole : sum_by (size_of content) (file ∷ files) ≡ size_of content file + rest
  unfolding rest
  whole = sum_by-cons (size_of content) file files

  more_gathered : gathered content files (with_file file bytes found) ≡ gathered content (file ∷ files) found
  unfolding rest
  more_gathered =
      let told : Option Record = own_record file (record_of bytes) in
      let here : found.left - length bytes - rest ≡ found.left - sum_by (size_of content) (file ∷ files) = (let s = size in let w = whole in omega arith) in
      ap (λ n. behind content file files found (n - length bytes - rest) told) (same_left file told found)
      ∙ ap (λ n. behind content file files found n told) here
      ∙ put_behind content file files found (found.left - sum_by (size_of content) (file ∷ files)) told
      ∙ ap (with_it content file files found (found.left - sum_by (size_of content) (file ∷ files))) (sym read)

  pub read_case : files_read content files (with_file file bytes found) ≡ decided content files (with_file file bytes found)
      → (b : Bool) → nat_lt found.left (length bytes) ≡ b → (length bytes ≤ found.left) ⊎ (found.left < length bytes)
      → and_then (files_read content files) (cond b (Err too_many_bytes) (Ok (with_file file bytes found))) ≡ decided content (file ∷ files) found
  unfolding rest
  read_case so_far true e (inr more) =
      sym (ap (λ b. cond b (Err too_many_bytes) (Ok (gathered content (file ∷ files) found)))
      (lt-ltb found.left (sum_by (size_of content) (file ∷ files)) (let s = size in let w = whole in omega arith)))
  read_case so_far true e (inl few) = absurd (true≢false (sym e ∙ le-ltb found.left (length bytes) few))
  read_case so_far false e (inl few) =
      so_far
      ∙ ap (λ l. cond (nat_lt (l - length bytes) rest) (Err too_many_bytes) (Ok (gathered content files (with_file file bytes found)))) (same_left file (own_record file (record_of bytes)) found)
      ∙ ap (λ b. cond b (Err too_many_bytes) (Ok (gathered content files (with_file file bytes found))))
      (same_test found.left (size_of content file) rest (length bytes) size few ∙ ap (nat_lt found.left) (sym whole))
      ∙ ap (λ f. cond (nat_lt found.left (sum_by (size_of content) (file ∷ files))) (Err too_many_bytes) (Ok f)) more_gathered
  read_case so_far false e (inr more) = absurd (true≢false (sym (lt-ltb found.left (length bytes) more) ∙ e))

few_or_more : (a b : ℕ) → (a ≤ b) ⊎ (b < a)
few_or_more a b = elim (cases_lt b a) [ inl l ↦ inr l | inr l ↦ inl l ]

there_case : (content : Contents) (file : List ℕ) (files : List (List ℕ)) (found : Found)
    → ((now : Found) → files_read content files now ≡ decided content files now)
    → (o : Option (List ℕ)) → get content file ≡ o → is_some o ≡ true
    → and_then (files_read content files) (bytes_read file found o) ≡ decided content (file ∷ files) found
there_case content file files found so_far None e h = absurd (true≢false (sym h))
there_case content file files found so_far (Some bytes) e h =
    read_case content file files found bytes e (so_far (with_file file bytes found)) (nat_lt found.left (length bytes)) refl (few_or_more (length bytes) found.left)

-- all files that are there
pub gather : (content : Contents) (files : List (List ℕ)) (found : Found) → list_all (λ f. is_some (get content f)) files ≡ true
    → files_read content files found ≡ decided content files found
gather content [] found all =
    ap (λ f. let r : Result Found StoreError = Ok f in r) (same found)
    ∙ sym (ap (λ b. cond b (Err too_many_bytes) (Ok (gathered content [] found))) (le-ltb found.left 0 (omega arith)))
  where
    same : (f : Found) → f ≡ gathered content [] f
    same f =
        let left : f.left ≡ f.left - 0 = omega arith in
        ap (λ ps. let g : Found = record { packages = ps; old_files = f.old_files; damaged = f.damaged; left = f.left } in g) (sym (append-nil f.packages))
        ∙ ap (λ o. let g : Found = record { packages = f.packages ++ []; old_files = o; damaged = f.damaged; left = f.left } in g) (sym (append-nil f.old_files))
        ∙ ap (λ d. let g : Found = record { packages = f.packages ++ []; old_files = f.old_files ++ []; damaged = d; left = f.left } in g) (sym (append-nil f.damaged))
        ∙ ap (λ l. let g : Found = record { packages = f.packages ++ []; old_files = f.old_files ++ []; damaged = f.damaged ++ []; left = l } in g) left
gather content (file ∷ files) found all =
    let both = and_parts (is_some (get content file)) (list_all (λ f. is_some (get content f)) files) all in
    there_case content file files found (λ now. gather content files now both.1) (get content file) refl both.0

-- ---- the package files of a content

key_there : (content : Contents) (file : List ℕ) → Contains (keys content) file → is_some (get content file) ≡ true
key_there content file c =
    contains_key-keys content file
    ∙ member_any (eq_by_cmp (slice_cmp nat_cmp) file) (keys content) file c (is_eq-slice_cmp file file ∙ (bytes_eq-Decides file file).1 refl)

all_there : (content : Contents) → list_all (λ f. is_some (get content f)) (package_files content) ≡ true
all_there content =
    passes_all (λ f. is_some (get content f)) (package_files content)
    (λ f c. key_there content f (filter_out_of is_package_file (keys content) f c).0)

-- nothing was found, and so many bytes may be read
abbrev pub none_yet : ℕ → Found
none_yet left = record { packages = []; old_files = []; damaged = []; left = left }

abbrev nothing_found : Found
nothing_found = none_yet (most StoreBytes)

mapped : (f : Found → LoadedView) → Result Found StoreError → Result LoadedView StoreError
mapped f (Ok found) = Ok (f found)
mapped f (Err error) = Err error

-- where there are not too many names, the files read one after another are what the content holds
module _ (content : Contents) (files : List (List ℕ)) (names : names_in content ≡ Ok files) where
  names_case : (b : Bool) → cond b (let r : Result (List (List ℕ)) StoreError = Err (Limit StoreNames (length (package_files content))) in r) (Ok (package_files content)) ≡ Ok files
      → (b ≡ false) × (files ≡ package_files content)
  names_case true e = absurd cc
  names_case false e = (refl, cc)

  few : (nat_lt (most StoreNames) (length (package_files content)) ≡ false) × (files ≡ package_files content)
  few = names_case (nat_lt (most StoreNames) (length (package_files content))) names

  read_all : files_read content files nothing_found ≡ decided content (package_files content) nothing_found
  read_all = ap (λ fs. files_read content fs nothing_found) few.1 ∙ gather content (package_files content) nothing_found (all_there content)

  limit_case : (b : Bool) (r : Result Found StoreError) → r ≡ cond b (Err too_many_bytes) (Ok (gathered content (package_files content) nothing_found))
      → cond b (Err too_many_bytes) (Ok (held_in content)) ≡ mapped loaded_of r
  unfolding mapped
  limit_case true r e = ap (mapped loaded_of) (sym e)
  limit_case false r e = ap (mapped loaded_of) (sym e)

  loaded_is : loaded_in content ≡ mapped loaded_of (files_read content files nothing_found)
  loaded_is =
      ap (λ b. cond b (Err (Limit StoreNames (length (package_files content)))) (cond (nat_lt (most StoreBytes) (bytes_in content)) (Err too_many_bytes) (Ok (held_in content)))) few.0
      ∙ limit_case (nat_lt (most StoreBytes) (bytes_in content)) (files_read content files nothing_found) read_all

  pub loaded_ok : (found : Found) → files_read content files nothing_found ≡ Ok found → loaded_in content ≡ Ok (loaded_of found)
  unfolding mapped
  loaded_ok found e = loaded_is ∙ ap (mapped loaded_of) e

  pub loaded_err : (error : StoreError) → files_read content files nothing_found ≡ Err error → loaded_in content ≡ Err error
  unfolding mapped
  loaded_err error e = loaded_is ∙ ap (mapped loaded_of) e

-- too many names are too many whatever they hold
pub names_err : (content : Contents) (error : StoreError) → names_in content ≡ Err error → loaded_in content ≡ Err error
names_err content error e = by (nat_lt (most StoreNames) (length (package_files content))) e
  where
    by : (b : Bool) → cond b (let r : Result (List (List ℕ)) StoreError = Err (Limit StoreNames (length (package_files content))) in r) (Ok (package_files content)) ≡ Err error
        → cond b (let r : Result LoadedView StoreError = Err (Limit StoreNames (length (package_files content))) in r)
        (cond (nat_lt (most StoreBytes) (bytes_in content)) (Err too_many_bytes) (Ok (held_in content))) ≡ Err error
    by true e = ap (λ x. let r : Result LoadedView StoreError = Err x in r) cc
    by false e = absurd cc

-- ---- the files to come

next : (content : Contents) (files : List (List ℕ)) (i : ℕ) (file : List ℕ) (found : Found) → i < length files → file ≡ get_or files i file
    → files_read content (drop i files) found ≡ and_then (files_read content (drop (i + 1) files)) (file_read content found file)
next content files i file found l e =
    at_drop_more (λ fs. files_read content fs found) files i file l
    ∙ ap (λ f. and_then (files_read content (drop (i + 1) files)) (file_read content found f)) (sym e)

pub next_read : (content : Contents) (files : List (List ℕ)) (i : ℕ) (file : List ℕ) (found now : Found) (all : Result Found StoreError) → i < length files → file ≡ get_or files i file
    → file_read content found file ≡ Ok now → all ≡ files_read content (drop i files) found → all ≡ files_read content (drop (i + 1) files) now
next_read content files i file found now all l e r h = h ∙ next content files i file found l e ∙ ap (and_then (files_read content (drop (i + 1) files))) r

pub next_refused : (content : Contents) (files : List (List ℕ)) (i : ℕ) (file : List ℕ) (found : Found) (error : StoreError) (all : Result Found StoreError) → i < length files → file ≡ get_or files i file
    → file_read content found file ≡ Err error → all ≡ files_read content (drop i files) found → all ≡ Err error
next_refused content files i file found error all l e r h = h ∙ next content files i file found l e ∙ ap (and_then (files_read content (drop (i + 1) files))) r

pub none_left : (content : Contents) (files : List (List ℕ)) (i : ℕ) (found : Found) (all : Result Found StoreError) → length files ≤ i
    → all ≡ files_read content (drop i files) found → all ≡ Ok found
none_left content files i found all l h = h ∙ at_drop_all (λ fs. files_read content fs found) files i l
