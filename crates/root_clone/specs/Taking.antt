-- Files that are put into a folder one after another.
use Rattle.std.specs.Prelude.{ℕ, List, [], ◌∷◌, map, length, nat_le, IsTrue}
use Rattle.std.specs.List.{list_all}
use Rattle.std.specs.FinMap.{insert}
use Rattle.bulk_base.specs.Path.{joined}
use Rattle.bulk_base.specs.declared.file.FileItem.{FileItem}
use Rattle.outside.specs.Contents.{Contents, IsFree}

-- files at their own paths
abbrev pub entries_of : List FileItem → List (List ℕ × List ℕ)
entries_of files = map (λ file. (file.path, file.bytes)) files

-- the folder with more files
abbrev pub with_all : Contents → List (List ℕ × List ℕ) → Contents
with_all folder [] = folder
with_all folder (e ∷ es) = with_all (insert folder e.0 e.1) es

-- each file's place is free when its turn comes
abbrev pub CanTake : Contents → List (List ℕ × List ℕ) → Type 0
CanTake folder [] = Unit {0}
CanTake folder (e ∷ es) = IsFree e.0 folder × CanTake (insert folder e.0 e.1) es

-- below a folder the files' paths are short enough
abbrev pub FitBelow : List ℕ → List FileItem → Type 0
FitBelow folder files =
    IsTrue (list_all (λ file. nat_le (length (joined folder file.path)) 1024) files)
