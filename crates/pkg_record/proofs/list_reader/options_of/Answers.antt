use Rattle.std.proofs.Common.{◌≡◌, ◌++◌, ◌∷◌, [], Ok, subst, sym}
use Rattle.std.proofs.lemmas.Result.{err_from_is_err_and}
use Rattle.bulk_model.specs.Facts.{IsOptionList}
use Rattle.pkg_record.specs.Reading.{Fails, items_at, option_at}
use Rattle.pkg_record.proofs.Items.{begins, goes_on, ends, is_done}
use Rattle.pkg_record.proofs.NoItems.{no_options}
use Rattle.pkg_record.proofs.list_reader.options_of.Goals as goal

pub loop-init : goal.loop-init
loop-init c = rw c.new-found.ensures (begins option_at c.args.count c.args.bytes.now, no_options)

pub returns-in_err-option-clause-read : goal.returns-in_err-option-clause-read
returns-in_err-option-clause-read c =
    let p = err_from_is_err_and c.from_residual.result c.from_residual.ensures.1 in
    rw (p.1, p.2) (ends option_at c.args.count c.loop.counter c.loop.found c.loop.rest.now (items_at option_at c.args.count [] c.args.bytes.now) c.in_err-option.field-0.0 c.loop-test.true
    (subst (λ f. Fails c.in_err-option.field-0.0 (option_at f c.loop.rest.now)) c.as_slice.ensures c.in_err-option.ensures.read) c.loop.invariant.0)

pub loop-preserved : goal.loop-preserved
loop-preserved c =
    let read : option_at c.loop.found c.loop.rest.now ≡ Ok (c.in_ok-option.option, c.in_ok-option.after.now) = subst (λ f. option_at f c.loop.rest.now ≡ Ok (c.in_ok-option.option, c.in_ok-option.after.now)) c.as_slice.ensures c.in_ok-option.ensures.read in
    let form : IsOptionList (c.loop.found ++ c.in_ok-option.option ∷ []) = subst (λ f. IsOptionList (f ++ c.in_ok-option.option ∷ [])) c.as_slice.ensures (c.in_ok-option.ensures.form (subst IsOptionList (sym c.as_slice.ensures) c.loop.invariant.1)) in
    rw c.in_ok-push.ensures.ok (goes_on option_at c.args.count c.loop.counter c.loop.found c.loop.rest.now (items_at option_at c.args.count [] c.args.bytes.now) c.in_ok-option.option c.in_ok-option.after.now c.loop-test.true read c.loop.invariant.0, form)

pub returns-clause-read : goal.returns-clause-read
returns-clause-read c = is_done option_at c.args.count c.loop.counter c.loop.found c.loop.rest.now (items_at option_at c.args.count [] c.args.bytes.now) c.loop-test.false c.loop.invariant.0
