use Rattle.std.proofs.Common.{◌∙◌, ap, sym}
use Rattle.std.specs.BTreeMap as tree
use Rattle.std.specs.FinMap as map
use Rattle.std.specs.Map.Iter.{deref}
use Rattle.std.proofs.lemmas.Map.Iter.{iter_end}
use Rattle.bulk_base.proofs.MapView.{keys-view}
use Rattle.bulk_base.proofs.text_map.TextMap.keys.Goals as goal

pub returns : goal.returns
returns g c =
    c.loop-key.invariant
    ∙ (iter_end deref (tree.keys c.self.inside.entries) c.loop-key.yielded _ _ _ _ (c.into_iter-key-iterator.ensures.into_iter_gives ∙ c.keys-key-items.ensures.rest) c.loop-key.yielded_by c.in-None.is c.next.ensures.steps).0
    ∙ sym (keys-view c.self.inside.entries c.keys-key-items.ensures.ordered) ∙ ap map.keys c.self.view_is
