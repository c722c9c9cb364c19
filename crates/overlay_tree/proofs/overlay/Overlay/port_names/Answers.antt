use Rattle.std.proofs.Common.{◌≡◌, ◌<◌, ◌∙◌, List, ℕ, ap, sym, subst, length, arith}
use Rattle.std.specs.Prelude.{map, filter}
use Rattle.std.proofs.lemmas.List.{length-map}
use Rattle.bulk_base.specs.Path.{is_below}
use Rattle.outside.specs.Contents.{Contents, files_below}
use Rattle.overlay_tree.specs.Listed.{Alike, kept_of}
use Rattle.overlay_tree.specs.Places.{port_of}
use Rattle.overlay_tree.proofs.Told.{merged_listing, ports_told}
use Rattle.overlay_tree.proofs.overlay.Overlay.port_names.Goals as goal

pub returns-clause-listing : goal.returns-clause-listing
returns-clause-listing g c = merged_listing c.args.folder.now c.in_ok-lists.lists c.in_ok-merge.field-0 c.in_ok-merge.ensures.order c.in_ok-merge.ensures.kept c.in_ok-lists.ensures.apart

pub returns-clause-told : goal.returns-clause-told
returns-clause-told g c = λ t.
    let contents : List Contents = map g.T.Tree.content c.args.self.now in
    let folder : List ℕ = c.args.folder.now in
    let root : c.in_ok-root.root ≡ port_of folder = c.in_ok-root.ensures ∙ c.port_of.ensures.port ∙ ap port_of c.bytes.ensures.same in
    let lists : c.in_ok-lists.lists ≡ map (files_below (port_of folder)) contents = c.in_ok-lists.ensures.told t ∙ ap (λ r. map (files_below r) contents) root in
    ports_told folder contents c.in_ok-merge.field-0 c.requires.place (let l = c.requires.laid in omega (arith, length-map c.args.self.now g.T.Tree.content)) c.in_ok-merge.ensures.order
    (subst (λ ls. Alike c.in_ok-merge.field-0 (filter (is_below folder) (kept_of ls))) lists c.in_ok-merge.ensures.kept)
