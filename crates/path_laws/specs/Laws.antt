-- Laws on paths.
use Rattle.std.specs.Prelude.{◌≡◌, ℕ, ◌+◌, List, IsTrue, length, drop, map}
use Rattle.bulk_base.specs.Path.{joined, collides}
use Rattle.outside.specs.Contents.{IsAscending, IsListing, has_no_folder}

-- paths in byte order, none a folder of another
pub record IsPathList (paths : List (List ℕ)) : Type 0 where
  pub order : IsAscending paths
  pub apart : IsTrue (has_no_folder paths)

-- what follows a folder and its slash
abbrev pub rest_of : List ℕ → List ℕ → List ℕ
rest_of folder path = drop (length folder + 1) path

-- what is listed below a folder is such a list with the folder taken off too
abbrev pub RestsAreLists : Type 0
RestsAreLists =
    (folder : List ℕ) (paths : List (List ℕ)) → IsListing folder paths
    → IsPathList (map (rest_of folder) paths)

-- two paths collide below a folder exactly where they collide by themselves
abbrev pub JoinedCollideAlike : Type 0
JoinedCollideAlike =
    (folder a b : List ℕ) → collides (joined folder a) (joined folder b) ≡ collides a b
