-- What a port's list of distfiles says (Porter's Handbook, "distinfo"; docs/FORMATS.md).
use Rattle.std.specs.Prelude.{ℕ, ◌+◌, Bool, not, List, [], ◌∷◌, map, find, position, bytes_eq, Option, Some, None, is_some, if◌then◌else◌}
use Rattle.std.specs.declared.result.Result.{Result}
use Rattle.std.specs.declared.result.Result.TheVariants.{Ok, Err}
use Rattle.std.specs.Option.{option_map, option_and_then}
use Rattle.std.specs.List.{list_any, filter_map}
use Rattle.std.specs.Str.Lines.{lines}
use Rattle.bulk_base.specs.Order.{in_order}
use Rattle.bulk_base.specs.Path.{is_below}
use Rattle.bulk_model.specs.declared.digest.Digest.{Digest}
use Rattle.dist_files.specs.declared.dist.Dist.{Dist}
use Rattle.dist_files.specs.declared.fault.DistError.{DistError}
use Rattle.dist_files.specs.declared.fault.DistError.TheVariants.{BadLine, Unpaired, Collide}
use Rattle.dist_files.specs.declared.statement.Fact.{Fact}
use Rattle.dist_files.specs.declared.statement.Fact.TheVariants.{Sha256, Size}
use Rattle.dist_files.specs.declared.statement.Statement.{Statement}
use Rattle.dist_files.specs.Lines.{said, is_bad}

-- the one element of a list that has just one
abbrev pub only : {X : Type 0} → List X → Option X
only [] = None
only (x ∷ []) = Some x
only (x ∷ y ∷ more) = None

abbrev pub hash_in : Fact → Option Digest
hash_in (Sha256 digest) = Some digest
hash_in (Size size) = None

abbrev pub size_in : Fact → Option ℕ
size_in (Sha256 digest) = None
size_in (Size size) = Some size

-- what of one kind is stated of a file, in the order of the lines
abbrev pub facts : {X : Type 0} → (Fact → Option X) → List ℕ → List Statement → List X
facts kind file statements =
    filter_map (λ s. if bytes_eq s.file file then kind s.fact else None) statements

abbrev pub dist : List ℕ → Digest → ℕ → Dist
dist file sha256 size = record { file = file; sha256 = sha256; size = size }

-- a file with the digest and the size that are stated of it, where each of the two is stated just once
abbrev pub dist_of : List ℕ → Option Digest → Option ℕ → Option Dist
dist_of file sha256 size = option_and_then (λ d. option_map (dist file d) size) sha256

abbrev pub entry : List Statement → List ℕ → Option Dist
entry statements file =
    dist_of file (only (facts hash_in file statements)) (only (facts size_in file statements))

-- the files of which something is stated, in byte order
abbrev pub files_in : List Statement → List (List ℕ)
files_in statements = in_order (map (λ s. s.file) statements)

abbrev pub is_unpaired : (List ℕ → Option Dist) → List ℕ → Bool
is_unpaired entry file = not (is_some (entry file))

-- one of the files is a folder of this one
abbrev pub is_inside : List (List ℕ) → List ℕ → Bool
is_inside files file = list_any (λ other. is_below other file) files

-- the entries of files: the first without an entry is refused, then the first that lies inside another
abbrev pub judged : (List ℕ → Option Dist) → List (List ℕ) → Result (List Dist) DistError
judged entry files = elim (find (is_unpaired entry) files) [
  | Some file ↦ Err (Unpaired file)
  | None ↦ elim (find (is_inside files) files) [
    | Some file ↦ Err (Collide file)
    | None ↦ Ok (filter_map entry files)
  ]
]

-- what lines say, or the first of them that is outside the form, by its number from 1
abbrev pub distinfo_in : List (List ℕ) → Result (List Dist) DistError
distinfo_in lines = elim (position is_bad lines) [
  | Some at ↦ Err (BadLine (at + 1))
  | None ↦ (let statements = filter_map said lines in judged (entry statements) (files_in statements))
]

-- the same of a file
unfoldable pub distinfo_of : List ℕ → Result (List Dist) DistError
distinfo_of bytes = distinfo_in (lines bytes)
