use Rattle.std.proofs.Common.{◌≡◌, ◌++◌, ◌∙◌, ap, ap₂, codes}
use Rattle.bulk_model.specs.declared.version.Version.TheVariants.{Two}
use Rattle.bulk_model.specs.Digests.{digest_of, hex}
use Rattle.bulk_model.specs.Lines.{line}
use Rattle.bulk_model.specs.Spelling.{unsigned}
use Rattle.pkg_record.proofs.record_writer.write.Goals as goal

pub returns : goal.returns
returns c =
    let lines = unsigned Two c.args.built.now in
    let before : c.in_ok-record.record.items ≡ lines = c.in_ok-record.ensures in
    let digest : c.bytes-2.result.now ≡ hex (digest_of lines) =
    c.bytes-2.ensures.same ∙ c.in_ok-hex.ensures ∙ ap hex (c.digest_of-digest.ensures ∙ ap digest_of (c.as_slice.ensures.value ∙ before)) in
    c.in_ok-put_line.ensures ∙ ap₂ (λ u d. u ++ line (codes "sha256 " ++ d)) before digest
