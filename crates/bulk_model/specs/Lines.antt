-- The lines that package records and recipes have in common (docs/FORMATS.md).
use Rattle.std.specs.Prelude.{ℕ, Bool, List, [], ◌∷◌, ◌++◌, length, codes, Option, Some, None, if◌then◌else◌}
use Rattle.std.specs.List.{flat_map}
use Rattle.std.specs.Fmt.{decimal}
use Rattle.bulk_base.specs.declared.file.FileItem.{FileItem}
use Rattle.bulk_base.specs.declared.file.Switch.{Switch}
use Rattle.bulk_model.specs.declared.depend.DepKind.{DepKind}
use Rattle.bulk_model.specs.declared.depend.DepKind.TheVariants.{Pkg, Fetch, Extract, Patch, Build, Lib, Run}

-- a line ends with a line feed
abbrev pub line : List ℕ → List ℕ
line text = text ++ 10 ∷ []

abbrev pub kind_word : DepKind → List ℕ
kind_word Pkg = codes "pkg"
kind_word Fetch = codes "fetch"
kind_word Extract = codes "extract"
kind_word Patch = codes "patch"
kind_word Build = codes "build"
kind_word Lib = codes "lib"
kind_word Run = codes "run"

abbrev pub flavor_word : Option (List ℕ) → List ℕ
flavor_word None = codes "-"
flavor_word (Some flavor) = flavor

abbrev pub switch_word : Bool → List ℕ
switch_word on = if on then codes "on" else codes "off"

-- a heading with a count
abbrev pub count_line : List ℕ → ℕ → List ℕ
count_line heading count = line (heading ++ decimal count)

-- a package's name, its port's origin, and its flavor
abbrev pub name_lines : List ℕ → List ℕ → Option (List ℕ) → List ℕ
name_lines name origin flavor =
    line (codes "name " ++ name) ++ line (codes "origin " ++ origin)
    ++ line (codes "flavor " ++ flavor_word flavor)

abbrev pub option_line : Switch → List ℕ
option_line option = line (codes "option " ++ option.name ++ codes " " ++ switch_word option.on)

abbrev pub option_lines : List Switch → List ℕ
option_lines options =
    count_line (codes "options ") (length options) ++ flat_map option_line options

-- a dependency: its kind, its node and the name of that node's package
abbrev pub depend_words : DepKind → List ℕ → List ℕ → List ℕ
depend_words kind node name =
    codes "depend " ++ kind_word kind ++ codes " " ++ node ++ codes " " ++ name

-- a file's line, its bytes, and a line feed
abbrev pub file_piece : FileItem → List ℕ
file_piece file =
    line (codes "file " ++ decimal (length file.bytes) ++ codes " " ++ file.path) ++ line file.bytes

abbrev pub file_pieces : List ℕ → List FileItem → List ℕ
file_pieces heading files = count_line heading (length files) ++ flat_map file_piece files
