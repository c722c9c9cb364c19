use Rattle.std.proofs.Common.{◌∙◌, ap, sym, subst}
use Rattle.std.specs.BTreeMap as tree
use Rattle.std.specs.FinMap as map
use Rattle.std.specs.Map.Iter.{deref}
use Rattle.std.specs.List.Sorted.{IsStrictlySortedBy}
use Rattle.std.proofs.lemmas.Map.Iter.{iter_end}
use Rattle.bulk_base.proofs.MapView.{order, keys-view, keys_ascend}
use Rattle.bulk_base.proofs.path_map.PathMap.keys.Goals as goal

pub returns : goal.returns
returns g c =
    let all =
    c.loop-key.invariant
    ∙ (iter_end deref (tree.keys c.self.inside.entries) c.loop-key.yielded _ _ _ _ (c.into_iter-key-iterator.ensures.into_iter_gives ∙ c.keys-key-items.ensures.rest) c.loop-key.yielded_by c.in-None.is c.next.ensures.steps).0
    ∙ sym (keys-view c.self.inside.entries c.keys-key-items.ensures.ordered) ∙ ap map.keys c.self.view_is in
    record { all = all; order = subst (IsStrictlySortedBy order) (sym all) (keys_ascend c.args.self.now) }
