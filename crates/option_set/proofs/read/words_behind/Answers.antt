use Rattle.std.proofs.Common.{◌∙◌, ◌++◌, ap, sym, subst}
use Rattle.bulk_base.specs.Text.{IsText}
use Rattle.port_vars.proofs.TextParts.{IsText-append}
use Rattle.option_set.proofs.read.words_behind.Goals as goal

pub words_at-requires : goal.words_at-requires
words_at-requires c =
    subst IsText (sym (c.as_slice.ensures.value ∙ c.in_ok-extend_from_slice.ensures.items ∙ ap (λ x. x ++ c.args.second.now) c.in_ok-variable.ensures.items))
    (IsText-append c.args.first.now c.args.second.now c.requires.first c.requires.second)
