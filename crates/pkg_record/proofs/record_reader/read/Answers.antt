use Rattle.std.proofs.Common.{ap, ◌∙◌}
use Rattle.bulk_model.specs.Digests.{digest_of, hex}
use Rattle.bulk_model.specs.Spelling.{unsigned}
use Rattle.pkg_record.specs.Reading.{record_of}
use Rattle.pkg_record.specs.declared.fault.RecordError.TheVariants.{Short, BadDigest}
use Rattle.pkg_record.proofs.Hashes.{digest_form}
use Rattle.pkg_record.proofs.SpelledAgain.{is_read}
use Rattle.pkg_record.proofs.Refused.{is_refused, short_front, other_digest}
use Rattle.pkg_record.proofs.record_reader.read.Goals as goal

pub returns-clause-only : goal.returns-clause-only
returns-clause-only c = is_read c.args.bytes.now c.judged.result c.judged.ensures.ok c.judged.ensures.err

pub returns-clause-other_digest : goal.returns-clause-other_digest
returns-clause-other_digest c = λ version p stated h d n e.
    is_refused c.args.bytes.now c.judged.result (BadDigest stated (hex (digest_of (unsigned version p)))) c.judged.ensures.ok c.judged.ensures.err (ap record_of e ∙ other_digest version p stated h d n)

pub returns-clause-cut : goal.returns-clause-cut
returns-clause-cut c = λ version p stated more h d e some.
    is_refused c.args.bytes.now c.judged.result Short c.judged.ensures.ok c.judged.ensures.err (short_front version p stated c.args.bytes.now more some h d e)

pub returns-clause-cut_record : goal.returns-clause-cut_record
returns-clause-cut_record c = λ version p more h e some.
    is_refused c.args.bytes.now c.judged.result Short c.judged.ensures.ok c.judged.ensures.err
    (short_front version p (hex (digest_of (unsigned version p))) c.args.bytes.now more some h (digest_form (unsigned version p)) e)
