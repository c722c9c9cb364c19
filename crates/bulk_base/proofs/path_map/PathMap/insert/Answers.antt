use Rattle.std.proofs.Common.{◌∙◌, ap, subst, sym}
use Rattle.std.specs.Prelude.{All, map as each}
use Rattle.std.specs.FinMap as map
use Rattle.std.proofs.lemmas.Map.Views.{All-keys-insert_entry}
use Rattle.bulk_base.specs.Path.{IsPath}
use Rattle.bulk_base.proofs.MapView.{order, view, view-insert}
use Rattle.bulk_base.proofs.path_map.PathMap.insert.Goals as goal

pub returns-clause-ok : goal.returns-clause-ok
returns-clause-ok g c =
    view-insert c.self.inside.entries c.insert.new.self c.into_text.result c.args.value c.in_ok-insert.ensures.updates
    ∙ ap (λ k. map.insert (view c.self.inside.entries.entries) k c.args.value) c.into_text.ensures.same
    ∙ ap (λ m. map.insert m c.args.key c.args.value) c.self.view_is

pub invariant_of-self-2 : goal.invariant_of-self-2
invariant_of-self-2 g c =
    subst (λ es. All IsPath (each (λ e. e.0) es)) (sym c.in_ok-insert.ensures.entries)
    (All-keys-insert_entry order c.into_text.result c.args.value IsPath c.self.inside.entries.entries c.self.invariant (subst IsPath (sym c.into_text.ensures.same) c.into_text.ensures.form))
