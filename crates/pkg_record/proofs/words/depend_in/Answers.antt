use Rattle.std.proofs.Common.{◌≡◌, ◌∙◌, ap, ap₂, sym, Some}
use Rattle.std.specs.Option.{option_and_then}
use Rattle.bulk_base.specs.Marks.{front, back}
use Rattle.pkg_record.specs.Said.{kind_of, named_depend}
use Rattle.pkg_record.proofs.words.depend_in.Goals as goal

pub returns-in-Some-clause-read : goal.returns-in-Some-clause-read
returns-in-Some-clause-read c =
    let words = c.args.words.now in
    let version = c.args.version in
    let kind : kind_of (front 32 words) ≡ Some c.in-Some.kind = ap kind_of (sym c.cut.ensures.front) ∙ sym c.kind_of.ensures ∙ c.in-Some.is in
    c.named_depend.ensures.read
    ∙ ap₂ (λ n m. named_depend version n m c.in-Some.kind) (c.cut-2.ensures.front ∙ ap (front 32) c.cut.ensures.back) (c.cut-2.ensures.back ∙ ap (back 32) c.cut.ensures.back)
    ∙ sym (ap (option_and_then (named_depend version (front 32 (back 32 words)) (back 32 (back 32 words)))) kind)
