use Rattle.std.proofs.Common.{◌≡◌, ◌∙◌, ◌≤◌, ap, sym, subst, length, map, List, Ok}
use Rattle.std.specs.Prelude.{bytes_eq}
use Rattle.std.specs.List.{IsDistinct}
use Rattle.std.proofs.lemmas.Result.{err_from_is_err_and}
use Rattle.port_desc.proofs.Refused.{ok_then, err_then}
use Rattle.tree_index.specs.declared.node.NodeInfo.{NodeInfo}
use Rattle.bulk_model.specs.Limits.{most}
use Rattle.bulk_model.specs.declared.which.Which.TheVariants.{Nodes}
use Rattle.tree_index.specs.Facts.{AreTreeNodes}
use Rattle.tree_index.specs.Tree.{ordered, few, apart}
use Rattle.tree_index.proofs.Ordered.{tree_form}
use Rattle.tree_index.proofs.tree_reading.accept.Goals as goal

pub returns-in_err-refuse_many-clause-refused : goal.returns-in_err-refuse_many-clause-refused
returns-in_err-refuse_many-clause-refused c =
    let p = err_from_is_err_and c.from_residual-in_err-refuse_many.result c.from_residual-in_err-refuse_many.ensures.1 in
    rw (p.1, p.2) (λ some. err_then (few (ordered c.args.found)) apart _ (ap few (sym (c.as_slice.ensures ∙ c.in_ok-nodes.ensures)) ∙ c.in_err-refuse_many.ensures.refused))

pub returns-in_err-refuse_twins-clause-refused : goal.returns-in_err-refuse_twins-clause-refused
returns-in_err-refuse_twins-clause-refused c =
    let p = err_from_is_err_and c.from_residual-in_err-refuse_twins.result c.from_residual-in_err-refuse_twins.ensures.1 in
    let nodes = c.in_ok-nodes.nodes in
    let counted : few (ordered c.args.found) ≡ Ok nodes = ap few (sym (c.as_slice.ensures ∙ c.in_ok-nodes.ensures)) ∙ c.in_ok-refuse_many.ensures.ok ∙ ap Ok c.as_slice.ensures in
    rw (p.1, p.2) (λ some. ok_then (few (ordered c.args.found)) apart nodes counted ∙ ap apart (sym c.as_slice-2.ensures) ∙ c.in_err-refuse_twins.ensures.refused some)

pub returns-clause-ok : goal.returns-clause-ok
returns-clause-ok c =
    let nodes = c.in_ok-nodes.nodes in
    let counted : few (ordered c.args.found) ≡ Ok nodes = ap few (sym (c.as_slice.ensures ∙ c.in_ok-nodes.ensures)) ∙ c.in_ok-refuse_many.ensures.ok ∙ ap Ok c.as_slice.ensures in
    ok_then (few (ordered c.args.found)) apart nodes counted ∙ ap apart (sym c.as_slice-2.ensures) ∙ c.in_ok-refuse_twins.ensures.ok ∙ ap Ok c.as_slice-2.ensures

pub returns-clause-form : goal.returns-clause-form
returns-clause-form c = λ whole.
    let found = c.args.found in
    let many : length (ordered found) ≤ most Nodes = subst (λ (nodes : List NodeInfo). length nodes ≤ most Nodes) (c.as_slice.ensures ∙ c.in_ok-nodes.ensures) c.in_ok-refuse_many.ensures.form in
    let differ : IsDistinct bytes_eq (map (λ node. node.desc.name) (ordered found)) =
    subst (λ (nodes : List NodeInfo). IsDistinct bytes_eq (map (λ node. node.desc.name) nodes)) (c.as_slice-2.ensures ∙ c.in_ok-nodes.ensures) c.in_ok-refuse_twins.ensures.form in
    subst AreTreeNodes (sym c.in_ok-nodes.ensures) (tree_form found whole many differ)
