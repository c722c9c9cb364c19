-- The ports tree of a number (docs/FORMATS.md, "The tree of a number").
use Rattle.std.specs.Prelude.{ℕ, zero, suc, ◌+◌, ◌/◌, ◌%◌, ◌==◌, min, List, [], ◌∷◌, ◌++◌, map, filter, codes, if◌then◌else◌}
use Rattle.std.specs.List.{flat_map, range_with_len}
use Rattle.std.specs.Fmt.{decimal}
use Rattle.bulk_base.specs.Path.{joined}
use Rattle.bulk_base.specs.declared.file.FileItem.{FileItem}
use Rattle.outside.specs.Contents.{Contents}
use Rattle.outside.specs.Given.{content_of}
use Rattle.tree_maker.specs.Draws.{after, draw}

abbrev pub line : List ℕ → List ℕ
line text = text ++ 10 ∷ []

-- ---- names

abbrev pub category : ℕ → List ℕ
category c = codes "c" ++ decimal c

-- in four digits at least
abbrev pub folder : ℕ → List ℕ
folder i =
    codes "p" ++ decimal (i / 1000) ++ decimal (i / 100 % 10) ++ decimal (i / 10 % 10)
    ++ decimal (i % 10)

abbrev pub category_of : ℕ → ℕ
category_of i = i % 8

-- a dependency on a port
abbrev pub entry : ℕ → List ℕ
entry i = codes "x:" ++ category (category_of i) ++ codes "/" ++ folder i

-- the words of numbers, a space between two
abbrev pub spaced : (ℕ → List ℕ) → List ℕ → List ℕ
spaced word [] = []
spaced word (n ∷ numbers) = word n ++ flat_map (λ m. codes " " ++ word m) numbers

-- ---- what is drawn for the port i, where x is the state before

-- the first port depends on none
abbrev pub count_of : ℕ → ℕ → ℕ
count_of i drawn = if i == 0 then 0 else drawn % 4

abbrev pub depends_count : ℕ → ℕ → ℕ
depends_count i x = count_of i (draw 2 x)

abbrev pub targets : ℕ → ℕ → List ℕ
targets i x = map (λ k. draw (k + 3) x % i) (range_with_len 0 (depends_count i x))

abbrev pub last_draw : ℕ → ℕ → ℕ
last_draw i x = depends_count i x + 3

-- the state behind them
abbrev pub rest : ℕ → ℕ → ℕ
rest i x = after (last_draw i x) x

abbrev pub fate : ℕ → ℕ → ℕ
fate i x = draw (last_draw i x) x % 16

-- ---- a port's file

-- left out where there is nothing to depend on
abbrev pub depends_line : List ℕ → List ℕ → List ℕ
depends_line name [] = []
depends_line name (n ∷ numbers) = line (name ++ spaced entry (n ∷ numbers))

-- the first and the third dependency are needed to build
abbrev pub build_line : List ℕ → List ℕ
build_line [] = []
build_line (a ∷ []) = depends_line (codes "BUILD_DEPENDS=") (a ∷ [])
build_line (a ∷ b ∷ []) = depends_line (codes "BUILD_DEPENDS=") (a ∷ [])
build_line (a ∷ b ∷ c ∷ more) = depends_line (codes "BUILD_DEPENDS=") (a ∷ c ∷ [])

-- the second to run
abbrev pub run_line : List ℕ → List ℕ
run_line [] = []
run_line (a ∷ []) = []
run_line (a ∷ b ∷ more) = depends_line (codes "RUN_DEPENDS=") (b ∷ [])

abbrev pub name_lines : List ℕ → ℕ → List ℕ
name_lines folder version =
    line (codes "PORTNAME=" ++ folder) ++ line (codes "PORTVERSION=1." ++ decimal version)

abbrev pub stage_line : List ℕ → List ℕ
stage_line folder = line (codes "DO_STAGE=list stage/share/" ++ folder ++ codes " local")

-- a port that fails, one that is left out, or neither
abbrev pub fate_line : ℕ → List ℕ
fate_line fate =
    if fate == 0 then line (codes "DO_BUILD=exit 3")
    else (if fate == 1 then line (codes "IGNORE=left out") else [])

abbrev pub port_text : ℕ → ℕ → List ℕ → ℕ → List ℕ
port_text i version targets fate =
    name_lines (folder i) version ++ build_line targets ++ run_line targets ++ fate_line fate
    ++ stage_line (folder i)

abbrev pub port_vars : ℕ → ℕ → List ℕ
port_vars i x = port_text i (draw 1 x % 10) (targets i x) (fate i x)

-- ---- the files

abbrev pub category_path : ℕ → List ℕ
category_path c = joined (codes "ports") (category c)

abbrev pub port_folder : ℕ → List ℕ
port_folder i = joined (category_path (category_of i)) (folder i)

abbrev pub port_path : ℕ → List ℕ
port_path i = joined (port_folder i) (codes "port.vars")

abbrev pub port_file : ℕ → ℕ → FileItem
port_file i x = record { path = port_path i; bytes = port_vars i x }

-- so many ports from one on
abbrev pub port_files : ℕ → ℕ → ℕ → List FileItem
port_files zero i x = []
port_files (suc ports) i x = port_file i x ∷ port_files ports (i + 1) (rest i x)

-- a file that lists names, which stand in byte order as their numbers ascend
abbrev pub subdir_text : (ℕ → List ℕ) → List ℕ → List ℕ
subdir_text word numbers = line (codes "SUBDIR=" ++ spaced word numbers)

abbrev pub ports_in : ℕ → ℕ → List ℕ
ports_in ports c = filter (λ i. category_of i == c) (range_with_len 0 ports)

abbrev pub category_file : ℕ → ℕ → FileItem
category_file ports c = record {
  path = joined (category_path c) (codes "subdir.vars");
  bytes = subdir_text folder (ports_in ports c);
}

-- the categories that have a port
abbrev pub categories : ℕ → List ℕ
categories ports = range_with_len 0 (min ports 8)

abbrev pub categories_file : List ℕ → FileItem
categories_file numbers = record {
  path = codes "ports/subdir.vars";
  bytes = subdir_text category numbers;
}

abbrev pub files : ℕ → ℕ → List FileItem
files number ports =
    categories_file (categories ports)
    ∷ (map (category_file ports) (categories ports) ++ port_files ports 0 number)

abbrev pub tree : ℕ → ℕ → Contents
tree number ports = content_of (files number ports)
