-- What a store's files hold: its packages, its records of version 1, and damaged files (docs/FORMATS.md).
use Rattle.std.specs.Prelude.{ℕ, Bool, true, false, is_none, List, filter, bytes_eq, Option, Some, None, Result, Ok, Err, if◌then◌else◌}
use Rattle.std.specs.Option.{option_and_then}
use Rattle.std.specs.List.{filter_map}
use Rattle.std.specs.FinMap.{get, keys}
use Rattle.outside.specs.Contents.{Contents}
use Rattle.bulk_model.specs.FileNames.{package_file, is_package_file}
use Rattle.bulk_model.specs.Views.{PackageView}
use Rattle.pkg_record.specs.declared.answer.Record.{Record}
use Rattle.pkg_record.specs.declared.answer.Record.TheVariants.{New, Old}
use Rattle.pkg_record.specs.declared.fault.RecordError.{RecordError}
use Rattle.pkg_record.specs.Reading.{record_of}

-- the name that a record tells
abbrev pub name_told : Record → List ℕ
name_told (New p) = p.name
name_told (Old name) = name

-- what a file of a name may hold: the record that is read from it, where the file is named after the record's name
abbrev pub own_record : List ℕ → Result Record RecordError → Option Record
own_record file (Ok told) =
    if bytes_eq file (package_file (name_told told)) then Some told else None
own_record file (Err error) = None

-- the record that a file holds, if it is readable
abbrev pub record_in : Contents → List ℕ → Option Record
record_in content file =
    option_and_then (λ bytes. own_record file (record_of bytes)) (get content file)

-- a package is read from a record of version 2 alone
abbrev pub package_of : Record → Option PackageView
package_of (New p) = Some p
package_of (Old name) = None

abbrev pub is_old : Option Record → Bool
is_old None = false
is_old (Some (New p)) = false
is_old (Some (Old name)) = true

-- the names of package files, in byte order
abbrev pub package_files : Contents → List (List ℕ)
package_files content = filter is_package_file (keys content)

-- the readable packages, in the order of their files' names
abbrev pub packages_in : Contents → List PackageView
packages_in content =
    filter_map (λ file. option_and_then package_of (record_in content file)) (package_files content)

-- the files with a record of version 1
abbrev pub old_in : Contents → List (List ℕ)
old_in content = filter (λ file. is_old (record_in content file)) (package_files content)

-- the package files that hold no record of their own name
abbrev pub damaged_in : Contents → List (List ℕ)
damaged_in content = filter (λ file. is_none (record_in content file)) (package_files content)
