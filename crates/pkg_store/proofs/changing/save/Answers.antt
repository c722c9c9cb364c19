use Rattle.std.proofs.Common.{ap, ap₂, subst, ◌∙◌}
use Rattle.outside.specs.Changes.{Made}
use Rattle.outside.specs.declared.change.Change.TheVariants.{Put}
use Rattle.bulk_model.specs.FileNames.{package_file}
use Rattle.bulk_model.specs.Views.{PackageView}
use Rattle.pkg_store.proofs.changing.save.Goals as goal

pub returns-clause-told : goal.returns-clause-told
returns-clause-told g c t =
    subst (λ change. Made change (g.S.Store.content c.args.store.now) (g.S.Store.content c.put.new.self) (g.S.Store.journal c.args.store.now) (g.S.Store.journal c.put.new.self) c.put.result)
    (ap₂ (λ name bytes. Put name bytes) (c.in_ok-name.ensures ∙ ap (λ (p : PackageView). package_file p.name) c.built.view_is) (c.as_slice.ensures.value ∙ c.in_ok-record.ensures))
    (c.put.ensures.told t)
