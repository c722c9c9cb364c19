-- A port's files as they are read, one after another.
use Rattle.std.specs.Prelude.{◌≡◌, ℕ, true, false, List, find, Option, Some, None}
use Rattle.bulk_base.specs.declared.file.FileItem.{FileItem}
use Rattle.outside.specs.Contents.{Contents, files_below}
use Rattle.bulk_model.specs.Files.{file_at, files_in}
use Rattle.bulk_model.specs.Facts.{IsFileList}
use Rattle.one_port.specs.NodeJobs.{is_large}
use Rattle.one_port.specs.declared.port_files.PortFiles.{PortFiles}
use Rattle.one_port.specs.declared.port_files.PortFiles.TheVariants.{Large, Whole}

-- one file: nothing where it is too large, else the file, if it is there
abbrev pub IsTaken : List ℕ → Contents → List ℕ → Option (Option FileItem) → Type 0
IsTaken folder content path None = is_large content path ≡ true
IsTaken folder content path (Some found) = (is_large content path ≡ false) × (found ≡ file_at folder content path)

-- all files below a folder: the first that is too large, else the files
abbrev pub AreTaken : List ℕ → Contents → PortFiles → Type 0
AreTaken folder content (Large path) = find (is_large content) (files_below folder content) ≡ Some path
AreTaken folder content (Whole files) = (find (is_large content) (files_below folder content) ≡ None) × (files ≡ files_in folder content)

-- whole files are in order
abbrev pub AreInForm : PortFiles → Type 0
AreInForm (Large path) = Unit {0}
AreInForm (Whole files) = IsFileList 1019 files
