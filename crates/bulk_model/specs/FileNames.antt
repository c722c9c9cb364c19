-- The names of a store's files (docs/FORMATS.md).
use Rattle.std.specs.Prelude.{ℕ, Bool, List, ◌++◌, nat_eq, codes}
use Rattle.std.specs.List.{ends_with}

-- the name of a package's file
abbrev pub package_file : List ℕ → List ℕ
package_file name = name ++ codes ".pkg"

-- whether a name is that of a package's file
abbrev pub is_package_file : List ℕ → Bool
is_package_file name = ends_with nat_eq name (codes ".pkg")

abbrev pub catalogue_file : List ℕ
catalogue_file = codes "catalogue.jsonl"
