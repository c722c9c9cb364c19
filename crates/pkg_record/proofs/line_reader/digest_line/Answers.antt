use Rattle.pkg_record.proofs.Names.{digest_text, is_text-visible}
use Rattle.pkg_record.proofs.DigestTexts.{has_form}
use Rattle.pkg_record.proofs.line_reader.digest_line.Goals as goal

pub of-requires : goal.of-requires
of-requires c =
    is_text-visible c.in-Some.digest.now (digest_text c.in-Some.digest.now (has_form c.in-Some.digest.now c.from_hex.result c.is_none.result c.from_hex.ensures.none c.is_none.ensures c.if-is_none.false))
