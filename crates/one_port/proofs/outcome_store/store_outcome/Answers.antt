use Rattle.std.proofs.Common.{◌∙◌, ap, sym}
use Rattle.std.specs.FinMap.{insert}
use Rattle.bulk_model.specs.FileNames.{package_file}
use Rattle.bulk_model.specs.Spelling.{spelling}
use Rattle.bulk_model.specs.Views.{PackageView}
use Rattle.one_port.specs.Report.{stored}
use Rattle.one_port.proofs.PortsBuilt.{made, made_or_not}
use Rattle.one_port.proofs.outcome_store.store_outcome.Goals as goal

pub returns-in-Built-clause-told : goal.returns-in-Built-clause-told
returns-in-Built-clause-told g c t =
    made _ _ _ _ _ _ _ (c.save.ensures.told t)
    (ap (λ (p : PackageView). insert (g.S.Store.content c.args.store.now) (package_file p.name) (spelling p)) c.get.ensures
    ∙ ap (λ o. stored o (g.S.Store.content c.args.store.now)) (sym c.in-Built.is))

pub returns-in-Built-clause-left : goal.returns-in-Built-clause-left
returns-in-Built-clause-left g c t =
    made_or_not _ _ _ _ _ _ _ (c.save.ensures.told t)
    (ap (λ (p : PackageView). insert (g.S.Store.content c.args.store.now) (package_file p.name) (spelling p)) c.get.ensures
    ∙ ap (λ o. stored o (g.S.Store.content c.args.store.now)) (sym c.in-Built.is))
