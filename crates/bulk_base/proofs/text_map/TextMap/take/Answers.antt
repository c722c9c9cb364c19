use Rattle.std.proofs.Common.{◌∙◌, ap}
use Rattle.std.specs.FinMap as map
use Rattle.bulk_base.proofs.MapView.{get-view, view-remove}
use Rattle.bulk_base.proofs.text_map.TextMap.take.Goals as goal

pub returns-clause-value : goal.returns-clause-value
returns-clause-value g c = c.remove.ensures.value ∙ get-view c.args.key.now c.self.inside.entries ∙ ap (λ m. map.get m c.args.key.now) c.self.view_is

pub returns-clause-rest : goal.returns-clause-rest
returns-clause-rest g c =
    view-remove c.self.inside.entries c.remove.new.self c.args.key.now c.remove.ensures.updates ∙ ap (λ m. map.remove m c.args.key.now) c.self.view_is
