use Rattle.std.proofs.Common.{◌≡◌, length}
use Rattle.std.specs.Vec.Iter.{into_iter_items, into_iter_len}
use Rattle.std.specs.FinMap as finite
use Rattle.tree_index.specs.Tree.{by_name}
use Rattle.tree_index.proofs.NamedEntries.{put_all}
use Rattle.tree_index.proofs.node_map.by_name.Given as goal

abbrev pub invariant-loop-node : goal.invariant-loop-node
invariant-loop-node l = record {
  rest : put_all l.map.entries (into_iter_items l.node-iterator) ≡ finite.entries (by_name l.fn.nodes);
  length : into_iter_len l.node-iterator ≡ length (into_iter_items l.node-iterator);
}
