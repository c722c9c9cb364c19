use Rattle.std.proofs.Common.{◌≡◌, ℕ, map, take}
use Rattle.std.specs.List.{flat_map}
use Rattle.tree_index.specs.Facts.{AreWithin}
use Rattle.tree_index.specs.Depends.{edge_to, numbers_of}
use Rattle.tree_index.proofs.depends.edges_by.Given as goal

abbrev pub invariant-loop-kind : goal.invariant-loop-kind
invariant-loop-kind l =
    (count : ℕ) → AreWithin count l.targets → l.edges ≡ flat_map (λ kind. map (edge_to kind) (numbers_of count l.targets kind)) (take l.kind-index l.kind-items)
