use Rattle.std.proofs.Common.{◌++◌, ◌∙◌, ap}
use Rattle.bulk_base.specs.Text.{is_text}
use Rattle.port_desc.proofs.Texts.{is_text-append}
use Rattle.port_desc.proofs.values.joined.Goals as goal

pub of-requires : goal.of-requires
of-requires c =
    let front = c.args.front.now in
    let back = c.args.back.now in
    ap is_text (c.as_slice.ensures.value ∙ c.in_ok-extend_from_slice.ensures.items ∙ ap (λ x. x ++ back) c.in_ok-bytes.ensures.items)
    ∙ is_text-append front back c.requires.front c.requires.back
