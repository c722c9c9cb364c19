use Rattle.std.proofs.Common.{◌∙◌, ◌++◌, ◌∷◌, [], ap, sym, subst, true, ◌≡◌}
use Rattle.bulk_base.specs.Text.{is_text}
use Rattle.port_vars.proofs.TextParts.{IsText-append, IsText-byte}
use Rattle.port_desc.proofs.Texts.{is_text-append}
use Rattle.tree_index.proofs.place.joined_by.Goals as goal

pub of-requires : goal.of-requires
of-requires c =
    let front = c.args.front.now in
    let back = c.args.back.now in
    let byte = c.args.byte in
    subst (λ bytes. is_text bytes ≡ true)
    (sym (c.as_slice.ensures.value ∙ c.in_ok-extend_from_slice.ensures.items
    ∙ ap (λ x. x ++ c.bytes-2.result.now) (c.in_ok-push.ensures.items ∙ ap (λ x. x ++ byte ∷ []) (c.in_ok-bytes.ensures.items ∙ c.bytes.ensures.same))
    ∙ ap (λ x. (front ++ byte ∷ []) ++ x) c.bytes-2.ensures.same))
    (is_text-append (front ++ byte ∷ []) back (IsText-append front (byte ∷ []) c.bytes.ensures.form (IsText-byte byte c.requires.ascii c.requires.text)) c.bytes-2.ensures.form)
