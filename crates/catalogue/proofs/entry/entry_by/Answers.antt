use Rattle.std.proofs.Common.{◌≡◌, refl, ap, ◌∙◌, codes, length}
use Rattle.serde_json.specs.Data.{number, unsigned, string, object}
use Rattle.serde_json.specs.View.{members_view}
use Rattle.serde_json.proofs.Views.{view-Object, view-Array}
use Rattle.catalogue.specs.Catalogue.{entry_by}
use Rattle.catalogue.proofs.Entries.{one_more}
use Rattle.catalogue.proofs.entry.entry_by.Goals as goal

pub returns : goal.returns
unfolding entry_by
returns c =
    let sha256 : string c.as_str-3.result.now ≡ string c.args.sha256.now = ap string c.as_str-3.ensures.same in
    let origin : string c.as_str-2.result.now ≡ string c.args.built.now.origin = ap string (c.as_str-2.ensures.same ∙ ap (λ p. p.origin) c.built.view_is) in
    let name : string c.as_str.result.now ≡ string c.args.built.now.name = ap string (c.as_str.ensures.same ∙ ap (λ p. p.name) c.built.view_is) in
    let files : number (unsigned c.len.result) ≡ number (unsigned (length c.args.built.now.files)) = ap (λ n. number (unsigned n)) (c.len.ensures ∙ ap (λ p. length p.files) c.built.view_is) in
    view-Object c.put_number-2.new.members
    ∙ ap object
    (one_more (codes "size") _ _ _ _ _ c.in_ok-put_number-2.ensures refl
    (one_more (codes "sha256") _ _ _ _ _ c.in_ok-put_text-4.ensures sha256
    (one_more (codes "origin") _ _ _ _ _ c.in_ok-put_text-3.ensures origin
    (one_more (codes "options") _ _ _ _ _ c.in_ok-put-2.ensures.ok (view-Object c.args.options)
    (one_more (codes "name") _ _ _ _ _ c.in_ok-put_text-2.ensures name
    (one_more (codes "flavor") _ _ _ _ _ c.in_ok-put_text.ensures (ap string c.flavor_text.ensures)
    (one_more (codes "files") _ _ _ _ _ c.in_ok-put_number.ensures files
    (one_more (codes "depends") _ _ _ _ _ c.in_ok-put.ensures.ok (view-Array c.args.depends)
    (ap members_view c.new-members.ensures.empty)))))))))
