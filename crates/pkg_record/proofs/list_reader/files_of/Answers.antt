use Rattle.std.proofs.Common.{◌≡◌, ◌++◌, ◌∷◌, [], Ok, subst}
use Rattle.std.proofs.lemmas.Result.{err_from_is_err_and}
use Rattle.bulk_model.specs.Facts.{IsFileList}
use Rattle.pkg_record.specs.Reading.{Fails, items_at, file_at}
use Rattle.pkg_record.proofs.Items.{begins, goes_on, ends, is_done}
use Rattle.pkg_record.proofs.NoItems.{no_files}
use Rattle.pkg_record.proofs.list_reader.files_of.Goals as goal

pub loop-init : goal.loop-init
loop-init c = rw c.new-found.ensures (begins file_at c.args.count c.args.bytes.now, (no_files 1018))

pub returns-in_err-file-clause-read : goal.returns-in_err-file-clause-read
returns-in_err-file-clause-read c =
    let p = err_from_is_err_and c.from_residual.result c.from_residual.ensures.1 in
    rw (p.1, p.2) (ends file_at c.args.count c.loop.counter c.loop.found c.loop.rest.now (items_at file_at c.args.count [] c.args.bytes.now) c.in_err-file.field-0.0 c.loop-test.true
    (subst (λ f. Fails c.in_err-file.field-0.0 (file_at f c.loop.rest.now)) c.as_slice.ensures c.in_err-file.ensures.read) c.loop.invariant.0)

pub loop-preserved : goal.loop-preserved
loop-preserved c =
    let read : file_at c.loop.found c.loop.rest.now ≡ Ok (c.in_ok-file.file, c.in_ok-file.after.now) = subst (λ f. file_at f c.loop.rest.now ≡ Ok (c.in_ok-file.file, c.in_ok-file.after.now)) c.as_slice.ensures c.in_ok-file.ensures.read in
    let form : IsFileList 1018 (c.loop.found ++ c.in_ok-file.file ∷ []) = subst (λ f. IsFileList 1018 (f ++ c.in_ok-file.file ∷ [])) c.as_slice.ensures (c.in_ok-file.ensures.form) in
    rw c.in_ok-push.ensures.ok (goes_on file_at c.args.count c.loop.counter c.loop.found c.loop.rest.now (items_at file_at c.args.count [] c.args.bytes.now) c.in_ok-file.file c.in_ok-file.after.now c.loop-test.true read c.loop.invariant.0, form)

pub returns-clause-read : goal.returns-clause-read
returns-clause-read c = is_done file_at c.args.count c.loop.counter c.loop.found c.loop.rest.now (items_at file_at c.args.count [] c.args.bytes.now) c.loop-test.false c.loop.invariant.0
