use Rattle.std.proofs.Common.{◌≡◌, ◌∙◌, ap, sym, length, arith}
use Rattle.std.specs.Vec.{vec_len}
use Rattle.std.specs.Vec.Iter.{into_iter_items}
use Rattle.tree_index.proofs.NamedEntries.{put_all, all_put}
use Rattle.tree_index.proofs.node_map.by_name.Goals as goal

pub loop-node-init : goal.loop-node-init
loop-node-init c =
    let v = c.into_vec-node-items.result in
    let len : vec_len v ≡ length v.items = omega (arith, v.ok.0) in
    let given = c.into_iter-node-iterator.ensures.into_iter_gives in
    let items : into_iter_items c.into_iter-node-iterator.result ≡ c.args.nodes = given.0 ∙ c.into_vec-node-items.ensures in
    record {
      rest = (λ i. put_all (c.new-map.ensures.empty i) (items i)) ∙ all_put c.args.nodes;
      length = given.1 ∙ len ∙ ap length (sym given.0);
    }
