use Rattle.std.proofs.Common.{◌∙◌, ◌++◌, ◌∷◌, [], ap, sym, subst}
use Rattle.bulk_base.specs.Text.{IsText}
use Rattle.conf_file.proofs.Named.{IsText-port_variable}
use Rattle.conf_file.proofs.make.port_words.Goals as goal

pub words_at-requires : goal.words_at-requires
words_at-requires c =
    let origin = c.args.origin.now in
    subst IsText
    (sym (c.as_slice.ensures.value ∙ c.in_ok-extend_from_slice-2.ensures.items
    ∙ ap (λ x. x ++ c.args.ending.now) (c.in_ok-extend_from_slice.ensures.items
    ∙ ap (λ x. x ++ c.bytes-2.result.now) (c.in_ok-push.ensures.items ∙ ap (λ x. x ++ 95 ∷ []) (c.in_ok-variable.ensures.items ∙ c.bytes.ensures.same))
    ∙ ap (λ x. (origin.category ++ 95 ∷ []) ++ x) c.bytes-2.ensures.same)))
    (IsText-port_variable origin c.args.ending.now c.bytes.ensures.form c.bytes-2.ensures.form c.requires)
