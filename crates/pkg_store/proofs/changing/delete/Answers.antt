use Rattle.std.proofs.Common.{◌∙◌, refl}
use Rattle.std.proofs.lemmas.Result.{err_from_is_err_and}
use Rattle.pkg_store.proofs.Removing.{removed_more, removal_failed}
use Rattle.pkg_store.proofs.changing.delete.Goals as goal

pub returns-in_err-remove-clause-told : goal.returns-in_err-remove-clause-told
returns-in_err-remove-clause-told g c t =
    let p = err_from_is_err_and c.from_residual.result c.from_residual.ensures.1 in
    rw (p.1, p.2)
    (removal_failed c.args.names.now c.loop-name.name-index c.name-item.result
    (g.S.Store.content c.args.store.now) (g.S.Store.content c.loop-name.store) (g.S.Store.content c.remove.new.self)
    (g.S.Store.journal c.args.store.now) (g.S.Store.journal c.loop-name.store) (g.S.Store.journal c.remove.new.self)
    c.loop-name-test.true c.name-item.is (c.loop-name.invariant.told t) (Unit {0}) c.in_err-remove.field-0.0 (c.in_err-remove.ensures.told t))

pub loop-name-preserved : goal.loop-name-preserved
loop-name-preserved g c = record {
  told = λ t.
      removed_more c.args.names.now c.loop-name.name-index c.name-item.result
      (g.S.Store.content c.args.store.now) (g.S.Store.content c.loop-name.store) (g.S.Store.content c.remove.new.self)
      (g.S.Store.journal c.args.store.now) (g.S.Store.journal c.loop-name.store) (g.S.Store.journal c.remove.new.self)
      c.loop-name-test.true c.name-item.is (c.loop-name.invariant.told t) (Unit {0}) c.in_ok-remove.field-0 (c.in_ok-remove.ensures.told t);
  quiet = c.in_ok-remove.ensures.cause.kept refl ∙ c.loop-name.invariant.quiet;
}
