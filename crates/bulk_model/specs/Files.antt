-- The files below a folder, with the folder taken off their paths.
use Rattle.std.specs.Prelude.{ℕ, ◌+◌, List, length, drop, Option}
use Rattle.std.specs.List.{filter_map}
use Rattle.std.specs.Option.{option_map}
use Rattle.std.specs.FinMap.{get}
use Rattle.bulk_base.specs.declared.file.FileItem.{FileItem}
use Rattle.outside.specs.Contents.{Contents, files_below}

abbrev pub file_at : List ℕ → Contents → List ℕ → Option FileItem
file_at folder content path =
    option_map (λ bytes. record { path = drop (length folder + 1) path; bytes = bytes })
    (get content path)

abbrev pub files_in : List ℕ → Contents → List FileItem
files_in folder content = filter_map (file_at folder content) (files_below folder content)
