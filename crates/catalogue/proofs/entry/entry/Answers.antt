use Rattle.std.proofs.Common.{ap, sym, ◌∙◌, length, map}
use Rattle.serde_json.specs.Data.{string, no_members}
use Rattle.serde_json.specs.View.{members_view, view}
use Rattle.bulk_model.specs.Digests.{digest_of, hex}
use Rattle.catalogue.specs.Catalogue.{with_options}
use Rattle.catalogue.proofs.Entries.{entry_is}
use Rattle.catalogue.proofs.entry.entry.Goals as goal

pub returns : goal.returns
returns c =
    c.in_ok-entry_by.ensures
    ∙ entry_is c.args.built.now (map view c.in_ok-depends.depends.items) c.in_ok-names.names (members_view c.in_ok-options.options.entries)
    c.in_ok-sha256.sha256 c.len-size.result c.in_ok-record.record.items
    (c.in_ok-depends.ensures ∙ ap (map string) c.as_slice-2.ensures) c.in_ok-names.ensures
    (c.in_ok-options.ensures ∙ ap (λ options. with_options options no_members) (c.as_slice-3.ensures ∙ ap (λ p. p.options) c.built.view_is))
    (c.in_ok-sha256.ensures ∙ ap (λ bytes. hex (digest_of bytes)) c.as_slice.ensures.value)
    (c.len-size.ensures ∙ sym c.as_slice.ensures.len ∙ ap length c.as_slice.ensures.value) c.in_ok-record.ensures
