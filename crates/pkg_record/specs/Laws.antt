-- Which packages have a record, what a record is that was read, and what one is that is refused for its digest.
use Rattle.std.specs.Prelude.{◌≡◌, ◌≢◌, ◌<◌, ◌^◌, ℕ, List, length, IsTrue, Result, Ok, Err}
use Rattle.std.specs.List.{list_all, AllByRecursion}
use Rattle.hex.specs.Hex.{IsBytes}
use Rattle.bulk_model.specs.declared.digest.Digest.{Digest}
use Rattle.bulk_model.specs.declared.version.Version.{Version}
use Rattle.bulk_model.specs.declared.version.Version.TheVariants.{One, Two}
use Rattle.bulk_model.specs.Digests.{digest_of, hex, is_digest}
use Rattle.bulk_model.specs.Facts.{IsPackage, paths_of}
use Rattle.bulk_model.specs.Spelling.{unsigned, signed_with, spelling, IsOldSpelling}
use Rattle.bulk_model.specs.Views.{PackageView}
use Rattle.pkg_record.specs.declared.answer.Record.{Record}
use Rattle.pkg_record.specs.declared.answer.Record.TheVariants.{New, Old}
use Rattle.pkg_record.specs.declared.fault.RecordError.{RecordError}
use Rattle.pkg_record.specs.declared.fault.RecordError.TheVariants.{Short, BadField, BadDigest, NoMemory}
use Rattle.pkg_record.specs.Reading.{is_record_path}

-- a digest has 32 bytes
pub record IsDigest (digest : Digest) : Type 0 where
  pub size : length digest.bytes ≡ 32
  pub bytes : IsBytes digest.bytes

-- the digests that a record of a version tells
abbrev pub HasDigests : Version → PackageView → Type 0
HasDigests One p = Unit {0}
HasDigests Two p = IsDigest p.recipe × AllByRecursion (λ d. IsDigest d.digest) p.depends

-- a package whose digests are digests, whose paths are paths, and whose counts and lengths are below 2 ^ 64; every package in
-- memory is one
pub record HasRecord (version : Version) (p : PackageView) : Type 0 where
  pub facts : IsPackage p
  pub digests : HasDigests version p
  pub paths : IsTrue (list_all is_record_path (paths_of p.files))
  pub options : length p.options < 2 ^ 64
  pub depends : length p.depends < 2 ^ 64
  pub files : length p.files < 2 ^ 64
  pub sizes : AllByRecursion (λ f. length f.bytes < 2 ^ 64) p.files

-- the bytes are the record of a package, or one of version 1 of a package with a name
abbrev pub IsSpelled : List ℕ → Record → Type 0
IsSpelled bytes (New p) = bytes ≡ spelling p
IsSpelled bytes (Old name) = IsOldSpelling name bytes

-- the bytes are a package's record but for the digest that they state, which is in form and not that of the package's lines
pub record HasOtherDigest (bytes stated found : List ℕ) : Type 0 where
  pub version : Version
  pub read : PackageView
  pub facts : IsPackage read
  pub form : IsTrue (is_digest stated)
  pub spelled : bytes ≡ signed_with version stated read
  pub digest : found ≡ hex (digest_of (unsigned version read))
  pub differs : stated ≢ found

abbrev pub IsForDigest : List ℕ → RecordError → Type 0
IsForDigest bytes Short = Unit {0}
IsForDigest bytes (BadField place) = Unit {0}
IsForDigest bytes (BadDigest stated found) = HasOtherDigest bytes stated found
IsForDigest bytes NoMemory = Unit {0}

-- the answer is this error, unless memory ran out
abbrev pub IsRefusedAs : Result Record RecordError → RecordError → Type 0
IsRefusedAs (Ok x) error = ⊥
IsRefusedAs (Err e) error = e ≢ NoMemory → e ≡ error
