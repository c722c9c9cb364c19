-- What was found on a disk, in any order.
use Rattle.std.specs.Prelude.{ℕ, List}
use Rattle.std.specs.Ordering.{nat_cmp}
use Rattle.std.specs.Cmp.Lexicographic.{slice_cmp}
use Rattle.std.specs.List.Sorted.{IsPermutation, IsSorted}
use Rattle.outside.specs.Contents.{IsAscending, IsListing}

-- the same texts in byte order
pub record InOrder (found texts : List (List ℕ)) : Type 0 where
  pub same : IsPermutation found texts
  pub order : IsSorted (slice_cmp nat_cmp) texts

-- put in byte order, the names are not each once
pub record HasTwice (found : List (List ℕ)) : Type 0 where
  pub names : List (List ℕ)
  pub ordered : InOrder found names
  pub twice : IsAscending names → ⊥

-- put in byte order, the paths are no listing of the folder
pub record IsNoListing (folder : List ℕ) (found : List (List ℕ)) : Type 0 where
  pub paths : List (List ℕ)
  pub ordered : InOrder found paths
  pub other : IsListing folder paths → ⊥
