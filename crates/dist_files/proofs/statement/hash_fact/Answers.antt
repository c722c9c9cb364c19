use Rattle.std.proofs.Common.{◌∙◌, ap, subst, sym, Some, refl}
use Rattle.std.specs.Option.{option_map}
use Rattle.dist_files.specs.declared.statement.Fact.TheVariants.{Sha256}
use Rattle.dist_files.specs.Hashes.{IsDigest}
use Rattle.dist_files.proofs.Tests.{digest_found, no_digest_said}
use Rattle.dist_files.proofs.statement.hash_fact.Goals as goal

pub returns-in-Some : goal.returns-in-Some
returns-in-Some c =
    ap (λ d. Some (Sha256 d)) c.kept.ensures.same
    ∙ ap (option_map (λ d. Sha256 d)) (digest_found c.args.word.now c.in-Some.digest (subst IsDigest c.kept.ensures.same c.kept.ensures.form) c.in-Some.ensures.some)

pub returns-in-None : goal.returns-in-None
returns-in-None c = sym (ap (option_map (λ d. Sha256 d)) (no_digest_said c.args.word.now (c.in-None.ensures.none.0 refl)))
