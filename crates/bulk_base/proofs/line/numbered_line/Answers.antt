use Rattle.std.proofs.Common.{◌≡◌, ◌<◌, [], ◌∙◌, refl, length, arith}
use Rattle.std.specs.Str.Lines.{lines}
use Rattle.std.proofs.lemmas.List.{get_or_default}
use Rattle.bulk_base.proofs.Sizes.{length-lines, spans_are, line_is}
use Rattle.bulk_base.proofs.line.numbered_line.Goals as goal

pub overflow_cast-result : goal.overflow_cast-result
overflow_cast-result c = record { fits = omega (arith, c.requires.few, length-lines c.args.bytes.now, spans_are c.args.bytes.now c.args.spans.now c.requires.lines) }

pub overflow_add-result : goal.overflow_add-result
overflow_add-result c = record { fits = omega (arith, c.requires.few, length-lines c.args.bytes.now, spans_are c.args.bytes.now c.args.spans.now c.requires.lines) }

pub returns : goal.returns
returns c =
    let within : c.args.at < length (lines c.args.bytes.now) = omega (arith, spans_are c.args.bytes.now c.args.spans.now c.requires.lines) in
    record {
      number = refl;
      text =
          line_is c.args.bytes.now c.args.spans.now c.as_slice.result.now c.args.at c.of.result.now c.requires.lines c.as_slice.ensures c.requires.place c.of.ensures
          ∙ get_or_default (lines c.args.bytes.now) c.args.at c.of.result.now [] within;
    }
