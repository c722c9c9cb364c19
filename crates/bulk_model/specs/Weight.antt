-- How much a package weighs (docs/FORMATS.md).
use Rattle.std.specs.Prelude.{ℕ, ◌+◌, List, length, sum_by}
use Rattle.bulk_base.specs.declared.file.FileItem.{FileItem}

-- a file counts its contents, its path, and 16
abbrev pub file_weight : FileItem → ℕ
file_weight file = length file.bytes + length file.path + 16

abbrev pub weight_of : List FileItem → ℕ
weight_of files = sum_by file_weight files

-- the most that a package may weigh
abbrev pub most_weight : ℕ
most_weight = 524288
