-- A file against its entry, and names against entries (docs/FORMATS.md).
use Rattle.std.specs.Prelude.{ℕ, Bool, not, ◌==◌, List, length, filter, bytes_eq, if◌then◌else◌}
use Rattle.std.specs.declared.result.Result.{Result}
use Rattle.std.specs.declared.result.Result.TheVariants.{Ok, Err}
use Rattle.std.specs.List.{list_any}
use Rattle.bulk_base.specs.Order.{TextSet, in_order}
use Rattle.bulk_model.specs.Digests.{digest_of, is_same}
use Rattle.dist_files.specs.declared.dist.Dist.{Dist}
use Rattle.dist_files.specs.declared.fault.DistWhy.{DistWhy}
use Rattle.std.specs.FinMap.{contains_key}
use Rattle.dist_files.specs.declared.fault.DistWhy.TheVariants.{Size, Digest}

-- another number of bytes, else another SHA-256 (FIPS 180-4)
abbrev pub checked : Dist → List ℕ → Result (Unit {0}) DistWhy
checked dist bytes =
    if not (length bytes == dist.size) then Err (Size dist.size (length bytes))
    else if not (is_same dist.sha256 (digest_of bytes)) then Err (Digest dist.sha256 (digest_of bytes))
    else Ok tt

-- an entry has this name
abbrev pub is_named : List Dist → List ℕ → Bool
is_named dists name = list_any (λ d. bytes_eq d.file name) dists

-- the names that no entry has, in byte order, each once
abbrev pub unnamed : List (List ℕ) → List Dist → List (List ℕ)
unnamed names dists = in_order (filter (λ name. not (is_named dists name)) names)

-- a set of names has this one
abbrev pub is_in_set : TextSet → List ℕ → Bool
is_in_set set name = contains_key set name
