use Rattle.std.proofs.Common.{◌≡◌, ◌∙◌, ap₂, sym, subst, true}
use Rattle.bulk_base.specs.Names.{IsNode, IsPackageName}
use Rattle.pkg_record.specs.Said.{recorded}
use Rattle.pkg_record.specs.Reading.{depend_follows, last_of}
use Rattle.pkg_record.proofs.Names.{node_form, node_plain, package_name_form, package_name_plain, is_text-visible}
use Rattle.pkg_record.proofs.Lists.{depends_grow}
use Rattle.pkg_record.proofs.item_reader.depend_item.Goals as goal

pub of-requires : goal.of-requires
of-requires c = let d = c.in-Some.depend in is_text-visible d.node.now (node_plain d.node.now c.in-Some.ensures.node)

pub of-requires-2 : goal.of-requires-2
of-requires-2 c = let d = c.in-Some.depend in is_text-visible d.name.now (package_name_plain d.name.now c.in-Some.ensures.name)

pub returns-clause-form : goal.returns-clause-form
returns-clause-form c =
    let d = c.in-Some.depend in
    let e : c.in_ok-node.node ≡ d.node.now = c.in_ok-node.ensures in
    let f : c.in_ok-name.name ≡ d.name.now = c.in_ok-name.ensures in
    let follows : depend_follows (last_of c.args.before.now) (recorded d.kind d.node.now d.name.now d.digest) ≡ true = sym c.follows_depend.ensures ∙ c.if-not-follows_depend.false in
    depends_grow c.args.before.now (recorded d.kind c.in_ok-node.node c.in_ok-name.name d.digest)
    (ap₂ (λ n m. depend_follows (last_of c.args.before.now) (recorded d.kind n m d.digest)) e f ∙ follows)
    (subst IsNode (sym e) (node_form d.node.now c.in-Some.ensures.node))
    (subst IsPackageName (sym f) (package_name_form d.name.now c.in-Some.ensures.name))
