use Rattle.std.proofs.Common.{◌∙◌, ap}
use Rattle.std.specs.FinMap as map
use Rattle.bulk_base.proofs.MapView.{contains-view}
use Rattle.bulk_base.proofs.path_map.PathMap.has_text.Goals as goal

pub returns : goal.returns
returns g c = c.contains_key.ensures ∙ contains-view c.self.inside.entries c.args.text.now ∙ ap (λ m. map.contains_key m c.args.text.now) c.self.view_is
