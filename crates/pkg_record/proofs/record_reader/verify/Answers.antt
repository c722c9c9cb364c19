use Rattle.std.proofs.Common.{◌≡◌, ◌≢◌, ◌-◌, length, ap, sym, subst, ◌∙◌}
use Rattle.std.specs.Prelude.{Ok, Err, bytes_eq}
use Rattle.std.proofs.lemmas.Bool.{both_ways}
use Rattle.std.proofs.lemmas.Slice.Eq.{bytes_eq-Decides}
use Rattle.bulk_model.specs.declared.version.Version.{Version}
use Rattle.bulk_model.specs.Views.{PackageView}
use Rattle.pkg_record.specs.declared.fault.RecordError.TheVariants.{NoMemory}
use Rattle.pkg_record.specs.Reading.{unsigned_at, signed, digest_before, record_of}
use Rattle.pkg_record.proofs.Judging.{last_refused, all_signed, stated_right, stated_wrong}
use Rattle.pkg_record.proofs.Spelled.{is_signed, answer_spelled, has_other_digest}
use Rattle.pkg_record.proofs.record_reader.verify.Goals as goal

pub returns-in-Err-clause-err : goal.returns-in-Err-clause-err
returns-in-Err-clause-err c =
    subst (λ e. e ≢ NoMemory → (version : Version) (p : PackageView) → unsigned_at c.args.bytes.now ≡ Ok ((version, p), c.args.last.now) → record_of c.args.bytes.now ≡ Err e) (sym c.refusal.ensures)
    (λ some version p e. last_refused c.args.bytes.now c.args.last.now c.in-Err.error c.in-Err.ensures some (version, p) e)

pub returns-then-eq-clause-ok : goal.returns-then-eq-clause-ok
returns-then-eq-clause-ok c = λ version p e.
    stated_right c.args.bytes.now c.args.last.now c.in-Ok.stated c.in_ok-found.found c.in-Ok.ensures (c.in_ok-found.ensures ∙ ap (λ size. digest_before size c.args.bytes.now) c.saturating_sub-size.ensures) (version, p) e (sym c.eq.ensures ∙ c.if-eq.true)

pub returns-then-eq-clause-spelled : goal.returns-then-eq-clause-spelled
returns-then-eq-clause-spelled c = λ version p facts e.
    let bytes = c.args.bytes.now in
    let is : c.in_ok-found.found ≡ digest_before (length bytes - length c.args.last.now) bytes = c.in_ok-found.ensures ∙ ap (λ size. digest_before size bytes) c.saturating_sub-size.ensures in
    answer_spelled bytes version p facts
    (is_signed bytes c.in_ok-found.found (signed (version, p) c.in-Ok.stated (length bytes - length c.args.last.now))
    (all_signed bytes c.args.last.now c.in-Ok.stated c.in_ok-found.found c.in-Ok.ensures is (version, p) e) is
    ((bytes_eq-Decides c.in-Ok.stated c.in_ok-found.found).0 (sym c.eq.ensures ∙ c.if-eq.true)))

pub returns-else-eq-clause-err : goal.returns-else-eq-clause-err
returns-else-eq-clause-err c = λ some version p e.
    stated_wrong c.args.bytes.now c.args.last.now c.in-Ok.stated c.in_ok-found.found c.in-Ok.ensures (c.in_ok-found.ensures ∙ ap (λ size. digest_before size c.args.bytes.now) c.saturating_sub-size.ensures) (version, p) e (sym c.eq.ensures ∙ c.if-eq.false)

pub returns-else-eq-clause-digest : goal.returns-else-eq-clause-digest
returns-else-eq-clause-digest c = λ version p facts e.
    has_other_digest c.args.bytes.now c.in_ok-found.found (signed (version, p) c.in-Ok.stated (length c.args.bytes.now - length c.args.last.now))
    (all_signed c.args.bytes.now c.args.last.now c.in-Ok.stated c.in_ok-found.found c.in-Ok.ensures (c.in_ok-found.ensures ∙ ap (λ size. digest_before size c.args.bytes.now) c.saturating_sub-size.ensures) (version, p) e) facts (c.in_ok-found.ensures ∙ ap (λ size. digest_before size c.args.bytes.now) c.saturating_sub-size.ensures)
    (λ q. both_ways (bytes_eq c.in-Ok.stated c.in_ok-found.found) (sym c.eq.ensures ∙ c.if-eq.false) ((bytes_eq-Decides c.in-Ok.stated c.in_ok-found.found).1 q))
