use Rattle.std.proofs.Common.{◌≡◌, ◌++◌, ◌∷◌, [], Ok, subst, sym}
use Rattle.std.proofs.lemmas.Result.{err_from_is_err_and}
use Rattle.bulk_model.specs.Facts.{IsRecordedList}
use Rattle.pkg_record.specs.Reading.{Fails, items_at, depend_at}
use Rattle.pkg_record.proofs.Items.{begins, goes_on, ends, is_done}
use Rattle.pkg_record.proofs.NoItems.{no_depends}
use Rattle.pkg_record.proofs.list_reader.depends_of.Goals as goal

pub loop-init : goal.loop-init
loop-init c = rw c.new-found.ensures (begins (depend_at c.args.version) c.args.count c.args.bytes.now, no_depends)

pub returns-in_err-depend-clause-read : goal.returns-in_err-depend-clause-read
returns-in_err-depend-clause-read c =
    let p = err_from_is_err_and c.from_residual.result c.from_residual.ensures.1 in
    rw (p.1, p.2) (ends (depend_at c.args.version) c.args.count c.loop.counter c.loop.found c.loop.rest.now (items_at (depend_at c.args.version) c.args.count [] c.args.bytes.now) c.in_err-depend.field-0.0 c.loop-test.true
    (subst (λ f. Fails c.in_err-depend.field-0.0 (depend_at c.args.version f c.loop.rest.now)) c.as_slice.ensures c.in_err-depend.ensures.read) c.loop.invariant.0)

pub loop-preserved : goal.loop-preserved
loop-preserved c =
    let read : depend_at c.args.version c.loop.found c.loop.rest.now ≡ Ok (c.in_ok-depend.depend, c.in_ok-depend.after.now) = subst (λ f. depend_at c.args.version f c.loop.rest.now ≡ Ok (c.in_ok-depend.depend, c.in_ok-depend.after.now)) c.as_slice.ensures c.in_ok-depend.ensures.read in
    let form : IsRecordedList (c.loop.found ++ c.in_ok-depend.depend ∷ []) = subst (λ f. IsRecordedList (f ++ c.in_ok-depend.depend ∷ [])) c.as_slice.ensures (c.in_ok-depend.ensures.form (subst IsRecordedList (sym c.as_slice.ensures) c.loop.invariant.1)) in
    rw c.in_ok-push.ensures.ok (goes_on (depend_at c.args.version) c.args.count c.loop.counter c.loop.found c.loop.rest.now (items_at (depend_at c.args.version) c.args.count [] c.args.bytes.now) c.in_ok-depend.depend c.in_ok-depend.after.now c.loop-test.true read c.loop.invariant.0, form)

pub returns-clause-read : goal.returns-clause-read
returns-clause-read c = is_done (depend_at c.args.version) c.args.count c.loop.counter c.loop.found c.loop.rest.now (items_at (depend_at c.args.version) c.args.count [] c.args.bytes.now) c.loop-test.false c.loop.invariant.0
