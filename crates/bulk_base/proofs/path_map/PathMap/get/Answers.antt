use Rattle.std.proofs.Common.{◌∙◌, ap}
use Rattle.std.specs.FinMap as map
use Rattle.std.specs.BTreeMap as tree
use Rattle.bulk_base.proofs.MapView.{order, get-view}
use Rattle.bulk_base.proofs.path_map.PathMap.get.Goals as goal

pub returns : goal.returns
returns g c = c.get.ensures.value ∙ ap (λ k. tree.get order c.self.inside.entries k) c.text.ensures.same ∙ get-view c.args.key.now c.self.inside.entries ∙ ap (λ m. map.get m c.args.key.now) c.self.view_is
