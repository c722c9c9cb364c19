use Rattle.std.proofs.Common.{◌∙◌, ap, map, codes, refl}
use Rattle.std.specs.String.{string_bytes}
use Rattle.bulk_model.specs.Lists.{listed}
use Rattle.one_port.proofs.PortsText.{printed}
use Rattle.one_port.proofs.port_lists.text.Goals as goal

pub returns : goal.returns
returns c =
    printed c.args.jobs.now c.args.notices.now c.args.outcomes.now (string_bytes c.in_ok-format.field-0) (string_bytes c.in_ok-moved.moved) (string_bytes c.in_ok-built-2.built) (string_bytes c.in_ok-failed-2.failed) _
    c.requires c.in_ok-moved.ensures
    (c.in_ok-built-2.ensures ∙ ap (λ items. listed (codes "built") (map string_bytes items)) c.as_slice.ensures.value ∙ ap (listed (codes "built")) c.in_ok-built.ensures)
    (c.in_ok-failed-2.ensures ∙ ap (λ items. listed (codes "failed") (map string_bytes items)) c.as_slice-2.ensures.value ∙ ap (listed (codes "failed")) c.in_ok-failed.ensures)
    refl c.in_ok-format.ensures.ok
