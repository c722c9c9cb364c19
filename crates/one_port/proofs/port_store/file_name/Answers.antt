use Rattle.std.proofs.Common.{◌++◌, ◌∙◌, ap, ap₂, codes, refl}
use Rattle.bulk_base.specs.Text.{is_text}
use Rattle.one_port.proofs.FileName.{is_text-append_plain}
use Rattle.one_port.proofs.port_store.file_name.Goals as goal

pub of-requires : goal.of-requires
of-requires c =
    ap is_text (c.as_slice-2.ensures.value ∙ c.in_ok-extend_from_slice.ensures.items ∙ ap₂ (λ a b. a ++ b) (c.in_ok-bytes.ensures.items ∙ c.bytes.ensures.same) c.as_slice.ensures)
    ∙ is_text-append_plain c.built.inside.name (codes ".pkg") c.bytes.ensures.form refl
