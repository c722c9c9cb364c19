-- The bytes of a package's record (docs/FORMATS.md; SHA-256 by FIPS 180-4). Version 2 is what is written; version 1, of
-- before, told neither the recipe nor the digests of the dependencies' records.
use Rattle.std.specs.Prelude.{◌≡◌, ℕ, List, [], ◌++◌, length, codes}
use Rattle.std.specs.List.{flat_map}
use Rattle.bulk_model.specs.declared.depend.Recorded.{Recorded}
use Rattle.bulk_model.specs.declared.digest.Digest.{Digest}
use Rattle.bulk_model.specs.declared.version.Version.{Version}
use Rattle.bulk_model.specs.declared.version.Version.TheVariants.{One, Two}
use Rattle.bulk_model.specs.Digests.{digest_of, hex}
use Rattle.bulk_model.specs.Facts.{IsPackage}
use Rattle.bulk_model.specs.Lines.{line, count_line, name_lines, option_lines, depend_words, file_pieces}
use Rattle.bulk_model.specs.Views.{PackageView}

-- the first line
abbrev pub version_words : Version → List ℕ
version_words One = codes "poudriere-package 1"
version_words Two = codes "poudriere-package 2"

abbrev pub recipe_line : Version → Digest → List ℕ
recipe_line One digest = []
recipe_line Two digest = line (codes "recipe " ++ hex digest)

-- the digest of a dependency's record
abbrev pub mark_word : Version → Digest → List ℕ
mark_word One digest = []
mark_word Two digest = codes " " ++ hex digest

abbrev pub recorded_line : Version → Recorded → List ℕ
recorded_line version depend =
    line (depend_words depend.kind depend.node depend.name ++ mark_word version depend.digest)

abbrev pub recorded_lines : Version → List Recorded → List ℕ
recorded_lines version depends =
    count_line (codes "depends ") (length depends) ++ flat_map (recorded_line version) depends

-- the lines up to the digest
abbrev pub unsigned : Version → PackageView → List ℕ
unsigned version p =
    line (version_words version)
    ++ name_lines p.name p.origin p.flavor
    ++ recipe_line version p.recipe
    ++ option_lines p.options
    ++ recorded_lines version p.depends
    ++ file_pieces (codes "files ") p.files

-- the digest of all bytes before the last line, by which others record the package
abbrev pub mark : PackageView → Digest
mark p = digest_of (unsigned Two p)

-- a record with some digest in its last line
abbrev pub signed_with : Version → List ℕ → PackageView → List ℕ
signed_with version digest p = unsigned version p ++ line (codes "sha256 " ++ digest)

-- a record whose digest is that of all bytes before its last line
abbrev pub signed : Version → PackageView → List ℕ
signed version p = signed_with version (hex (digest_of (unsigned version p))) p

-- the record of a package
abbrev pub spelling : PackageView → List ℕ
spelling p = signed Two p

-- bytes are a record of version 1 of a package with this name
pub record IsOldSpelling (name bytes : List ℕ) : Type 0 where
  pub told : PackageView
  pub form : IsPackage told
  pub name_is : told.name ≡ name
  pub spelled : bytes ≡ signed One told
