-- What the reading of a store gives, as a function of its content (docs/FORMATS.md, "The store", "Limits").
use Rattle.std.specs.Prelude.{ℕ, ◌+◌, nat_lt, List, length, sum_by, if◌then◌else◌}
use Rattle.std.specs.Option.{option_map_or}
use Rattle.std.specs.declared.result.Result.{Result}
use Rattle.std.specs.declared.result.Result.TheVariants.{Ok, Err}
use Rattle.std.specs.FinMap.{get}
use Rattle.outside.specs.Contents.{Contents}
use Rattle.bulk_model.specs.Limits.{most}
use Rattle.bulk_model.specs.declared.which.Which.TheVariants.{StoreNames, StoreBytes}
use Rattle.pkg_record.specs.Stored.{package_files, packages_in, old_in, damaged_in}
use Rattle.pkg_store.specs.Loaded.{LoadedView}
use Rattle.pkg_store.specs.declared.fault.StoreError.{StoreError}
use Rattle.pkg_store.specs.declared.fault.StoreError.TheVariants.{Limit}

-- the names of the package files, in byte order; refused with their count where there are too many
abbrev pub names_in : Contents → Result (List (List ℕ)) StoreError
names_in content =
    if nat_lt (most StoreNames) (length (package_files content))
    then Err (Limit StoreNames (length (package_files content)))
    else Ok (package_files content)

-- how many bytes a file has
abbrev pub size_of : Contents → List ℕ → ℕ
size_of content file = option_map_or length (get content file) 0

-- how many the package files have together
abbrev pub bytes_in : Contents → ℕ
bytes_in content = sum_by (size_of content) (package_files content)

-- what a content's package files hold
abbrev pub held_in : Contents → LoadedView
held_in content = record {
  packages = packages_in content;
  old = old_in content;
  damaged = damaged_in content;
}

-- no more than one byte beyond the limit is asked for, so this many are told
abbrev pub too_many_bytes : StoreError
too_many_bytes = Limit StoreBytes (most StoreBytes + 1)

-- the limit on names comes before any file is read
abbrev pub loaded_in : Contents → Result LoadedView StoreError
loaded_in content =
    if nat_lt (most StoreNames) (length (package_files content))
    then Err (Limit StoreNames (length (package_files content)))
    else if nat_lt (most StoreBytes) (bytes_in content) then Err too_many_bytes
    else Ok (held_in content)
