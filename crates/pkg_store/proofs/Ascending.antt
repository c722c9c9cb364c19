-- What was found of a store's files still ascends with the files to come.
use Rattle.std.proofs.Common.{◌≡◌, ℕ, ◌+◌, ◌≤◌, Bool, true, false, List, [], ◌∷◌, ◌++◌, length, refl, ap, sym, subst, ◌∙◌, arith, cond, inl, inr}
use Rattle.std.specs.Prelude.{Option, Some, None, Result, Ok, Err, bytes_eq, filter, Contains}
use Rattle.std.specs.List.{AllByRecursion, list_all}
use Rattle.std.specs.List.Sorted.{IsStrictlySortedBy}
use Rattle.std.specs.Cmp.{eq_by_cmp_equiv}
use Rattle.std.specs.Cmp.Lexicographic.{slice_cmp, nat_list_cmp_total}
use Rattle.std.specs.Ordering.{nat_cmp, is_eq}
use Rattle.std.specs.declared.cmp.Ordering.TheVariants.{Less}
use Rattle.std.proofs.lemmas.Bool.{true≢false}
use Rattle.std.proofs.lemmas.List.Elements.{Contains-push_cases}
use Rattle.std.proofs.lemmas.List.{append_assoc, map-append, length_push, append-nil}
use Rattle.std.proofs.lemmas.Slice.Eq.{bytes_eq-Decides}
use Rattle.outside.specs.Contents.{IsAscending}
use Rattle.bulk_base.proofs.Members.{passes_all, filter_out_of, contains_none, contains_cases}
use Rattle.bulk_model.specs.FileNames.{package_file}
use Rattle.bulk_model.specs.Limits.{most}
use Rattle.bulk_model.specs.declared.which.Which.TheVariants.{StoreNames}
use Rattle.bulk_model.specs.Views.{PackageView}
use Rattle.pkg_record.specs.declared.answer.Record.{Record}
use Rattle.pkg_record.specs.declared.answer.Record.TheVariants.{New, Old}
use Rattle.pkg_record.specs.declared.fault.RecordError.{RecordError}
use Rattle.pkg_record.specs.Reading.{record_of}
use Rattle.pkg_record.specs.Stored.{own_record, name_told}
use Rattle.pkg_store.specs.Loaded.{IsLoaded, files_of, AreApart}
use Rattle.pkg_store.specs.declared.fault.StoreError.{StoreError}
use Rattle.pkg_store.specs.declared.found.Found.{Found}
use Rattle.pkg_store.specs.Reading.{with_record, with_file, with_less, bytes_read, loaded_of, record_if_any, MayRead}

all_without : {X : Type 0} (P : X → Type 0) (xs : List X) (y : X) (ys : List X)
    → AllByRecursion P (xs ++ y ∷ ys) → AllByRecursion P (xs ++ ys)
all_without P [] y ys h = h.1
all_without P (x ∷ xs) y ys h = (h.0, all_without P xs y ys h.1)

-- one of them left out
ascending_without : (xs : List (List ℕ)) (y : List ℕ) (ys : List (List ℕ))
    → IsAscending (xs ++ y ∷ ys) → IsAscending (xs ++ ys)
unfolding IsStrictlySortedBy
ascending_without [] y ys h = h.1
ascending_without (x ∷ xs) y ys h = (all_without _ xs y ys h.0, ascending_without xs y ys h.1)

-- the first of those to come, put behind those before
ascending_with : (xs : List (List ℕ)) (y : List ℕ) (ys : List (List ℕ))
    → IsAscending (xs ++ y ∷ ys) → IsAscending ((xs ++ y ∷ []) ++ ys)
ascending_with xs y ys h = subst IsAscending (sym (append_assoc xs (y ∷ []) ys)) h

-- none of them is one behind them
last_apart : (xs : List (List ℕ)) (y : List ℕ) (ys : List (List ℕ))
    → AllByRecursion (λ z. slice_cmp nat_cmp y z ≡ Less) (xs ++ y ∷ ys) → ⊥
last_apart [] y ys h =
    true≢false (sym ((eq_by_cmp_equiv nat_list_cmp_total).refl y) ∙ ap is_eq h.0)
last_apart (x ∷ xs) y ys h = last_apart xs y ys h.1

behind_apart : (xs : List (List ℕ)) (y : List ℕ) (ys : List (List ℕ)) → IsAscending (xs ++ y ∷ ys) → Contains xs y → ⊥
unfolding IsStrictlySortedBy
behind_apart [] y ys h c = contains_none y c
behind_apart (x ∷ xs) y ys h c = elim (contains_cases x xs y c) [
  | inl e ↦ last_apart xs y ys (subst (λ w. AllByRecursion (λ z. slice_cmp nat_cmp w z ≡ Less) (xs ++ y ∷ ys)) e h.0)
  | inr more ↦ behind_apart xs y ys h.1 more
]

-- one more on either side
apart_left : (xs others : List (List ℕ)) (y : List ℕ) → AreApart xs others → (Contains others y → ⊥) → AreApart (xs ++ y ∷ []) others
apart_left xs others y h none = λ f a b. elim (Contains-push_cases xs y f a) [
  | inl old ↦ h f old b
  | inr e ↦ none (subst (λ z. Contains others z) (sym e) b)
]

apart_right : (xs others : List (List ℕ)) (y : List ℕ) → AreApart xs others → (Contains xs y → ⊥) → AreApart xs (others ++ y ∷ [])
apart_right xs others y h none = λ f a b. elim (Contains-push_cases others y f b) [
  | inl old ↦ h f a old
  | inr e ↦ none (subst (λ z. Contains xs z) (sym e) a)
]

-- those that pass a test pass it
pub all_filter : (p : List ℕ → Bool) (xs : List (List ℕ)) → list_all p (filter p xs) ≡ true
all_filter p xs = passes_all p (filter p xs) (λ x c. (filter_out_of p xs x c).1)

-- a file is named after what it holds
abbrev IsNamed : List ℕ → Option Record → Type 0
IsNamed file None = Unit {0}
IsNamed file (Some told) = file ≡ package_file (name_told told)

named_case : (file : List ℕ) (told : Record) (b : Bool) → bytes_eq file (package_file (name_told told)) ≡ b
    → IsNamed file (cond b (Some told) None)
named_case file told true h = (bytes_eq-Decides file (package_file (name_told told))).0 h
named_case file told false h = tt

named : (file : List ℕ) (told : Result Record RecordError) → IsNamed file (own_record file told)
named file (Ok told) = named_case file told (bytes_eq file (package_file (name_told told))) refl
named file (Err error) = tt

-- a record that is another file's
own_case : (told : Record) (b : Bool) → b ≡ false → (let o : Option Record = None in o) ≡ cond b (Some told) None
own_case told true h = absurd (let no : true ≡ false = h in cc)
own_case told false h = refl

pub not_own : (file : List ℕ) (r : Result Record RecordError) (told : Record) → record_if_any r ≡ Some told → bytes_eq file (package_file (name_told told)) ≡ false
    → None ≡ own_record file r
not_own file (Ok other) told e h =
    let same : other ≡ told = cc in
    own_case other (bytes_eq file (package_file (name_told other))) (ap (λ r. bytes_eq file (package_file (name_told r))) same ∙ h)
not_own file (Err error) told e h = refl

module _ (file : List ℕ) (found : Found) (files : List (List ℕ)) (may : MayRead found (file ∷ files)) where
  few : length found.packages + (length found.old_files + (length found.damaged + (length files + 1)))
      ≤ most StoreNames
  few = let h : length found.packages + (length found.old_files + (length found.damaged + length (file ∷ files)))
      ≤ most StoreNames = may.few in omega arith

  one_fewer : MayRead found files
  one_fewer = record {
    packages = ascending_without (files_of found.packages) file files may.packages;
    old_files = ascending_without found.old_files file files may.old_files;
    damaged = ascending_without found.damaged file files may.damaged;
    packages_old = may.packages_old;
    packages_damaged = may.packages_damaged;
    old_damaged = may.old_damaged;
    few = (let h = few in omega arith);
  }

  no_package : Contains (files_of found.packages) file → ⊥
  no_package = behind_apart (files_of found.packages) file files may.packages

  not_old : Contains found.old_files file → ⊥
  not_old = behind_apart found.old_files file files may.old_files

  not_damaged : Contains found.damaged file → ⊥
  not_damaged = behind_apart found.damaged file files may.damaged

  -- the file of one more package
  with_package : (p : PackageView) → file ≡ package_file p.name → files_of found.packages ++ file ∷ [] ≡ files_of (found.packages ++ p ∷ [])
  with_package p h =
      ap (λ f. files_of found.packages ++ f ∷ []) h ∙ sym (map-append (λ (q : PackageView). package_file q.name) found.packages (p ∷ []))

  one_more : (told : Option Record) → IsNamed file told → MayRead (with_record file told found) files
  one_more None h = record {
    packages = one_fewer.packages;
    old_files = one_fewer.old_files;
    damaged = ascending_with found.damaged file files may.damaged;
    packages_old = may.packages_old;
    packages_damaged = apart_right (files_of found.packages) found.damaged file may.packages_damaged no_package;
    old_damaged = apart_right found.old_files found.damaged file may.old_damaged not_old;
    few = (let h = few in let l = length_push found.damaged file in omega arith);
  }
  one_more (Some (Old name)) h = record {
    packages = one_fewer.packages;
    old_files = ascending_with found.old_files file files may.old_files;
    damaged = one_fewer.damaged;
    packages_old = apart_right (files_of found.packages) found.old_files file may.packages_old no_package;
    packages_damaged = may.packages_damaged;
    old_damaged = apart_left found.old_files found.damaged file may.old_damaged not_damaged;
    few = (let h = few in let l = length_push found.old_files file in omega arith);
  }
  one_more (Some (New p)) h = record {
    packages = subst (λ xs. IsAscending (xs ++ files)) (with_package p h) (ascending_with (files_of found.packages) file files may.packages);
    old_files = one_fewer.old_files;
    damaged = one_fewer.damaged;
    packages_old = subst (λ xs. AreApart xs found.old_files) (with_package p h) (apart_left (files_of found.packages) found.old_files file may.packages_old not_old);
    packages_damaged = subst (λ xs. AreApart xs found.damaged) (with_package p h) (apart_left (files_of found.packages) found.damaged file may.packages_damaged not_damaged);
    old_damaged = may.old_damaged;
    few = (let h = few in let l = length_push found.packages p in omega arith);
  }

  less : (bytes : ℕ) (now : Found) → MayRead now files → MayRead (with_less bytes now) files
  less bytes now h = record {
    packages = h.packages;
    old_files = h.old_files;
    damaged = h.damaged;
    packages_old = h.packages_old;
    packages_damaged = h.packages_damaged;
    old_damaged = h.old_damaged;
    few = h.few;
  }

  still : (bytes : List ℕ) → MayRead (with_file file bytes found) files
  still bytes =
      less (length bytes) (with_record file (own_record file (record_of bytes)) found)
      (one_more (own_record file (record_of bytes)) (named file (record_of bytes)))

  read_case : (bytes : List ℕ) (now : Found) (b : Bool) (error : StoreError)
      → cond b (let r : Result Found StoreError = Err error in r) (Ok (with_file file bytes found)) ≡ Ok now
      → MayRead now files
  read_case bytes now true error e = absurd cc
  read_case bytes now false error e =
      let same : with_file file bytes found ≡ now = cc in subst (λ f. MayRead f files) same (still bytes)

  -- with a file that was read it still ascends
  pub read_still : (bytes : Option (List ℕ)) (now : Found) → bytes_read file found bytes ≡ Ok now → MayRead now files
  read_still None now e = let same : found ≡ now = cc in subst (λ f. MayRead f files) same one_fewer
  read_still (Some bytes) now e = read_case bytes now _ _ e

-- nothing was found yet
pub begin : (files : List (List ℕ)) (found : Found) → found.packages ≡ [] → found.old_files ≡ [] → found.damaged ≡ []
    → IsAscending files → length files ≤ most StoreNames → MayRead found files
begin files found p o d ascends few = record {
  packages = subst (λ ps. IsAscending (files_of ps ++ files)) (sym p) ascends;
  old_files = subst (λ xs. IsAscending (xs ++ files)) (sym o) ascends;
  damaged = subst (λ xs. IsAscending (xs ++ files)) (sym d) ascends;
  packages_old = λ f a b. contains_none f (subst (λ xs. Contains xs f) o b);
  packages_damaged = λ f a b. contains_none f (subst (λ xs. Contains xs f) d b);
  old_damaged = λ f a b. contains_none f (subst (λ xs. Contains xs f) d b);
  few = (let a = ap length p in let b = ap length o in let c = ap length d in omega arith);
}

-- no file is to come
pub all_loaded : (found : Found) → MayRead found [] → IsLoaded (loaded_of found)
all_loaded found may = record {
  packages = subst IsAscending (append-nil (files_of found.packages)) may.packages;
  old = subst IsAscending (append-nil found.old_files) may.old_files;
  damaged = subst IsAscending (append-nil found.damaged) may.damaged;
  packages_old = may.packages_old;
  packages_damaged = may.packages_damaged;
  old_damaged = may.old_damaged;
  few = (let h = may.few in omega arith);
}
