-- A record that begins another is all of it.
use Rattle.std.proofs.Common.{◌≡◌, ℕ, ◌*◌, List, ◌++◌, length, codes, arith, ap, sym, ◌∙◌, append_assoc}
use Rattle.std.specs.Prelude.{Ok}
use Rattle.std.proofs.lemmas.List.{length-append, nil_from_length}
use Rattle.sha2.specs.Sha256.{sha256}
use Rattle.sha2.proofs.Facts256.{length-sha256}
use Rattle.hex.specs.Hex.{lower_digits}
use Rattle.hex.proofs.HexLemmas.{length-encode_with}
use Rattle.bulk_model.specs.declared.version.Version.{Version}
use Rattle.bulk_model.specs.Digests.{digest_of, hex}
use Rattle.bulk_model.specs.Lines.{line}
use Rattle.bulk_model.specs.Spelling.{unsigned, signed}
use Rattle.bulk_model.specs.Views.{PackageView}
use Rattle.pkg_record.specs.Reading.{unsigned_at, answer}
use Rattle.pkg_record.proofs.Taken.{ok_is}
use Rattle.pkg_record.proofs.Without.{told_as, told_answer}
use Rattle.pkg_record.proofs.SpelledAgain.{unsigned_again}
use Rattle.record_laws.specs.Records.{NoRecordBeginsAnother}

abbrev last_line : Version → PackageView → List ℕ
last_line version p = line (codes "sha256 " ++ hex (digest_of (unsigned version p)))

length-hex : (bytes : List ℕ) → length (hex (digest_of bytes)) ≡ 64
length-hex bytes = length-encode_with lower_digits (sha256 bytes) ∙ ap (λ n. 2 * n) (length-sha256 bytes)

line_length : (text : List ℕ) → length text ≡ 64 → length (line (codes "sha256 " ++ text)) ≡ 72
line_length text size = omega (arith, size, length-append (codes "sha256 " ++ text) (codes "\n"), length-append (codes "sha256 ") text)

last_length : (version : Version) (p : PackageView) → length (last_line version p) ≡ 72
last_length version p = line_length (hex (digest_of (unsigned version p))) (length-hex (unsigned version p))

pub begins_no_other : NoRecordBeginsAnother
begins_no_other v w p q more h k e =
    let last_p = last_line v p in
    let last_q = last_line w q in
    let read_p : unsigned_at (signed w q) ≡ Ok ((v, told_as v p), last_p ++ more) =
    ap unsigned_at (e ∙ append_assoc (unsigned v p) last_p more) ∙ unsigned_again v p (last_p ++ more) h in
    let read_q : unsigned_at (signed w q) ≡ Ok ((w, told_as w q), last_q) = unsigned_again w q last_q k in
    let same = ok_is ((v, told_as v p), last_p ++ more) ((w, told_as w q), last_q) (sym read_p ∙ read_q) in
    let behind : last_p ++ more ≡ last_q = ap (λ (x : (Version × PackageView) × List ℕ). x.1) same in (
      nil_from_length more (omega (arith, ap length behind, length-append last_p more, last_length v p, last_length w q)),
      sym (told_answer v p) ∙ ap (λ (x : (Version × PackageView) × List ℕ). answer x.0.0 x.0.1) same ∙ told_answer w q,
    )
