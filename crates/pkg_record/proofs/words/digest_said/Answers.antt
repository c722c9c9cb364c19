use Rattle.std.proofs.Common.{◌∙◌, ap, subst, sym, Some, refl}
use Rattle.pkg_record.specs.Laws.{IsDigest}
use Rattle.pkg_record.proofs.DigestTexts.{digest_found, no_digest_said}
use Rattle.pkg_record.proofs.words.digest_said.Goals as goal

pub returns-in-Some : goal.returns-in-Some
returns-in-Some c =
    ap (λ d. Some d) c.kept.ensures.same
    ∙ digest_found c.args.word.now c.in-Some.digest (subst IsDigest c.kept.ensures.same c.kept.ensures.form) c.in-Some.ensures.some

pub returns-in-None : goal.returns-in-None
returns-in-None c = sym (no_digest_said c.args.word.now (c.in-None.ensures.none.0 refl))
