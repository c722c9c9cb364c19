-- Package files that are read one after another.
use Rattle.std.specs.Prelude.{ℕ, ◌+◌, ◌-◌, ◌≤◌, nat_lt, List, [], ◌∷◌, ◌++◌, length, if◌then◌else◌}
use Rattle.std.specs.declared.option.Option.{Option}
use Rattle.std.specs.declared.option.Option.TheVariants.{None, Some}
use Rattle.std.specs.declared.result.Result.{Result}
use Rattle.std.specs.declared.result.Result.TheVariants.{Ok, Err}
use Rattle.std.specs.FinMap.{get}
use Rattle.outside.specs.Contents.{Contents, IsAscending}
use Rattle.bulk_model.specs.Limits.{most}
use Rattle.bulk_model.specs.declared.which.Which.TheVariants.{StoreNames}
use Rattle.pkg_record.specs.declared.answer.Record.{Record}
use Rattle.pkg_record.specs.declared.answer.Record.TheVariants.{New, Old}
use Rattle.pkg_record.specs.declared.fault.RecordError.{RecordError}
use Rattle.pkg_record.specs.Reading.{record_of}
use Rattle.pkg_record.specs.Stored.{own_record}
use Rattle.pkg_store.specs.Loaded.{LoadedView, files_of, AreApart}
use Rattle.pkg_store.specs.Loading.{too_many_bytes}
use Rattle.pkg_store.specs.declared.fault.StoreError.{StoreError}
use Rattle.pkg_store.specs.declared.found.Found.{Found}

-- the record that bytes are, if they are one
abbrev pub record_if_any : Result Record RecordError → Option Record
record_if_any (Ok told) = Some told
record_if_any (Err error) = None

-- one more file, by the record of its own name that it holds, if it holds one
abbrev pub with_record : List ℕ → Option Record → Found → Found
with_record file None found = record {
  packages = found.packages;
  old_files = found.old_files;
  damaged = found.damaged ++ file ∷ [];
  left = found.left;
}
with_record file (Some (New p)) found = record {
  packages = found.packages ++ p ∷ [];
  old_files = found.old_files;
  damaged = found.damaged;
  left = found.left;
}
with_record file (Some (Old name)) found = record {
  packages = found.packages;
  old_files = found.old_files ++ file ∷ [];
  damaged = found.damaged;
  left = found.left;
}

-- so many bytes less may be read
abbrev pub with_less : ℕ → Found → Found
with_less bytes found = record {
  packages = found.packages;
  old_files = found.old_files;
  damaged = found.damaged;
  left = found.left - bytes;
}

abbrev pub with_file : List ℕ → List ℕ → Found → Found
with_file file bytes found =
    with_less (length bytes) (with_record file (own_record file (record_of bytes)) found)

-- a file that is there, if it has no more bytes than are left
abbrev pub bytes_read : List ℕ → Found → Option (List ℕ) → Result Found StoreError
bytes_read file found None = Ok found
bytes_read file found (Some bytes) =
    if nat_lt found.left (length bytes) then Err too_many_bytes else Ok (with_file file bytes found)

abbrev pub file_read : Contents → Found → List ℕ → Result Found StoreError
file_read content found file = bytes_read file found (get content file)

abbrev pub loaded_of : Found → LoadedView
loaded_of found = record {
  packages = found.packages;
  old = found.old_files;
  damaged = found.damaged;
}

-- one file after another, up to the first refusal
abbrev pub and_then : (Found → Result Found StoreError) → Result Found StoreError
    → Result Found StoreError
and_then next (Ok found) = next found
and_then next (Err error) = Err error

abbrev pub files_read : Contents → List (List ℕ) → Found → Result Found StoreError
files_read content [] found = Ok found
files_read content (file ∷ files) found =
    and_then (files_read content files) (file_read content found file)

-- what was found ascends, with these files to come behind it, and is with them no more than a store may have
pub record MayRead (found : Found) (files : List (List ℕ)) : Type 0 where
  pub packages : IsAscending (files_of found.packages ++ files)
  pub old_files : IsAscending (found.old_files ++ files)
  pub damaged : IsAscending (found.damaged ++ files)
  pub packages_old : AreApart (files_of found.packages) found.old_files
  pub packages_damaged : AreApart (files_of found.packages) found.damaged
  pub old_damaged : AreApart found.old_files found.damaged
  pub few : length found.packages + (length found.old_files + (length found.damaged + length files))
      ≤ most StoreNames
