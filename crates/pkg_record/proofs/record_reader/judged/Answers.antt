use Rattle.std.proofs.Common.{◌≡◌, ◌≢◌, sym, subst}
use Rattle.std.specs.Prelude.{Err}
use Rattle.std.proofs.lemmas.Result.{err_from_is_err_and}
use Rattle.bulk_model.specs.Facts.{IsPackage}
use Rattle.pkg_record.specs.declared.fault.RecordError.TheVariants.{NoMemory}
use Rattle.pkg_record.specs.Reading.{record_of}
use Rattle.pkg_record.proofs.Judging.{unsigned_refused}
use Rattle.pkg_record.proofs.record_reader.judged.Goals as goal

pub returns-in_err-verify-in-Ok-clause-digest : goal.returns-in_err-verify-in-Ok-clause-digest
returns-in_err-verify-in-Ok-clause-digest c =
    let p = err_from_is_err_and c.from_residual.result c.from_residual.ensures.1 in
    rw (p.1, p.2) (c.in_err-verify-in-Ok.ensures.digest c.in-Ok.version c.in-Ok.built (subst IsPackage c.built.view_is c.built.invariant) c.in-Ok.ensures)

pub returns-in-Err-clause-err : goal.returns-in-Err-clause-err
returns-in-Err-clause-err c =
    subst (λ e. e ≢ NoMemory → record_of c.args.bytes.now ≡ Err e) (sym c.refusal.ensures) (unsigned_refused c.args.bytes.now c.in-Err.error c.in-Err.ensures)
