use Rattle.std.proofs.Common.{◌≡◌, ◌<◌, ◌∙◌, true, false, List, ℕ, ap, sym, subst, length, arith}
use Rattle.std.specs.Prelude.{◌==◌, ◌||◌, map, IfOk}
use Rattle.std.proofs.lemmas.List.{length-map}
use Rattle.outside.specs.Contents.{Contents}
use Rattle.overlay_tree.specs.Places.{is_base, is_in_ports}
use Rattle.overlay_tree.proofs.Told.{base_names, nothing_there, empty_listing}
use Rattle.overlay_tree.proofs.overlay.OverlayTree.names.Goals as goal

pub names_at-requires : goal.names_at-requires
names_at-requires g c = c.is_base_folder.ensures.some

pub returns-then-is_base_folder-clause-told : goal.returns-then-is_base_folder-clause-told
returns-then-is_base_folder-clause-told g c = λ t.
    let contents : List Contents = map g.T.Tree.content c.args.self.now in
    let size : length contents ≡ length c.args.self.now = length-map c.args.self.now g.T.Tree.content in
    let some : 0 < length contents = (let s = c.is_base_folder.ensures.some in omega arith) in
    let base : (length contents == 1 || is_base c.args.folder.now) ≡ true = ap (λ n. n == 1 || is_base c.args.folder.now) size ∙ sym c.is_base_folder.ensures.base ∙ c.if-is_base_folder.true in
    subst (λ r. IfOk c.names_at.result (λ paths. paths ≡ r)) (base_names c.args.folder.now contents some base) (c.names_at.ensures.told t)

pub returns-clause-listing : goal.returns-clause-listing
returns-clause-listing g c = empty_listing c.args.folder.now c.new.result c.new.ensures

pub returns-clause-told : goal.returns-clause-told
returns-clause-told g c = λ t.
    let contents : List Contents = map g.T.Tree.content c.args.self.now in
    let size : length contents ≡ length c.args.self.now = length-map c.args.self.now g.T.Tree.content in
    let some : 0 < length contents = (let s = c.is_base_folder.ensures.some in omega arith) in
    let laid : (length contents == 1 || is_base c.args.folder.now) ≡ false = ap (λ n. n == 1 || is_base c.args.folder.now) size ∙ sym c.is_base_folder.ensures.base ∙ c.if-is_base_folder.false in
    let other : is_in_ports c.args.folder.now ≡ false = ap is_in_ports (sym c.bytes.ensures.same) ∙ sym c.is_in_ports.ensures ∙ c.if-is_in_ports.false in
    c.new.ensures ∙ nothing_there c.args.folder.now contents some laid other
