use Rattle.std.proofs.Common.{◌∙◌, ap, subst, sym}
use Rattle.std.specs.Prelude.{All, is_some, map as each}
use Rattle.std.specs.BTreeMap as tree
use Rattle.std.specs.FinMap as map
use Rattle.std.proofs.lemmas.Map.Views.{All-map-remove_entry}
use Rattle.bulk_base.specs.Path.{IsPath}
use Rattle.bulk_base.proofs.MapView.{order, view, view-remove, contains-view}
use Rattle.bulk_base.proofs.path_map.PathMap.remove.Goals as goal

pub returns-clause-found : goal.returns-clause-found
returns-clause-found g c =
    c.is_some.ensures ∙ ap is_some c.remove.ensures.value ∙ ap (λ k. is_some (tree.get order c.self.inside.entries k)) c.text.ensures.same
    ∙ contains-view c.self.inside.entries c.args.key.now ∙ ap (λ m. map.contains_key m c.args.key.now) c.self.view_is

pub returns-clause-removed : goal.returns-clause-removed
returns-clause-removed g c =
    view-remove c.self.inside.entries c.remove.new.self c.text.result.now c.remove.ensures.updates
    ∙ ap (λ k. map.remove (view c.self.inside.entries.entries) k) c.text.ensures.same ∙ ap (λ m. map.remove m c.args.key.now) c.self.view_is

pub invariant_of-self : goal.invariant_of-self
invariant_of-self g c =
    subst (λ es. All IsPath (each (λ e. e.0) es)) (sym c.remove.ensures.entries)
    (All-map-remove_entry (tree.is_at (order c.text.result.now)) (λ e. e.0) IsPath c.self.inside.entries.entries c.self.invariant)
