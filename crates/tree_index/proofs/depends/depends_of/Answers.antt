use Rattle.std.proofs.Common.{◌≡◌, ◌∙◌, ap, sym, subst, map, Some}
use Rattle.std.specs.Prelude.{IfSome}
use Rattle.bulk_model.specs.Facts.{IsDependList}
use Rattle.tree_index.specs.Facts.{AreTreeNodes}
use Rattle.tree_index.specs.Index.{IndexView}
use Rattle.tree_index.specs.Depends.{edges_of, depend_on}
use Rattle.tree_index.proofs.Depending.{depends_form, depends_some, depends_none}
use Rattle.tree_index.proofs.depends.depends_of.Goals as goal

pub returns-in_ok-depends_on-in-Some-clause-depends : goal.returns-in_ok-depends_on-in-Some-clause-depends
returns-in_ok-depends_on-in-Some-clause-depends c =
    let index : IndexView = c.args.index.now in
    let edges = c.in-Some.edges in
    let told : edges_of index c.args.n ≡ Some edges = sym c.in_ok-edges.ensures.edges ∙ c.in-Some.is in
    let nodes : c.as_slice.result.now ≡ index.nodes = c.as_slice.ensures ∙ ap (λ (view : IndexView). view.nodes) c.index.view_is in
    ap Some (c.in_ok-depends_on-in-Some.ensures ∙ (λ i. map (depend_on (nodes i)) (c.as_slice-in-Some.ensures i))) ∙ sym (depends_some index c.args.n edges told)

pub returns-in_ok-depends_on-in-Some-clause-form : goal.returns-in_ok-depends_on-in-Some-clause-form
returns-in_ok-depends_on-in-Some-clause-form c =
    let index : IndexView = c.args.index.now in
    let tree : AreTreeNodes index.nodes = subst AreTreeNodes (ap (λ (view : IndexView). view.nodes) c.index.view_is) c.index.invariant.tree in
    subst (λ told. IfSome told IsDependList) (sym (returns-in_ok-depends_on-in-Some-clause-depends c)) (depends_form index c.args.n tree)

pub returns-in-None-clause-depends : goal.returns-in-None-clause-depends
returns-in-None-clause-depends c = sym (depends_none c.args.index.now c.args.n (sym c.in_ok-edges.ensures.edges ∙ c.in-None.is))
