-- What plans are made over.
use Rattle.std.specs.Prelude.{ℕ, ◌<◌, List, length}
use Rattle.std.specs.List.{AllByRecursion}
use Rattle.tree_index.specs.Facts.{IsIndex}
use Rattle.tree_index.specs.Index.{IndexView}

-- what holds of every index
abbrev pub IsIndexView : IndexView → Type 0
IsIndexView index = IsIndex index.nodes index.names

-- numbers of nodes of the index
abbrev pub AreNodes : IndexView → List ℕ → Type 0
AreNodes index nodes = AllByRecursion (λ n. n < length index.nodes) nodes
