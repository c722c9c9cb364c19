use Rattle.std.proofs.Common.{◌≡◌, ◌∙◌, ◌<◌, ap, sym, subst, length, get_or}
use Rattle.std.specs.Prelude.{IfSome}
use Rattle.std.specs.List.{AllByRecursion}
use Rattle.std.proofs.lemmas.Result.{IfOk-weaker}
use Rattle.bulk_model.specs.declared.plan.Edge.{Edge}
use Rattle.tree_index.specs.declared.node.NodeInfo.{NodeInfo}
use Rattle.tree_index.specs.Facts.{AreWithin}
use Rattle.tree_index.specs.Index.{IndexView}
use Rattle.tree_index.proofs.Depending.{edges_at, edges_in, targets_at}
use Rattle.tree_index.proofs.depends.edges_of.Goals as goal

pub returns-clause-edges : goal.returns-clause-edges
returns-clause-edges c =
    let nodes = c.args.index.now.nodes in
    let node = c.index-as_slice-n.result in
    let same : c.index.inside.nodes ≡ nodes = ap (λ (index : IndexView). index.nodes) c.index.view_is in
    let here : node ≡ get_or nodes c.args.n node = c.index-as_slice-n.is ∙ ap (λ some. get_or some c.args.n node) (c.as_slice.ensures ∙ same) in
    let range : AllByRecursion (λ (some : NodeInfo). AreWithin (length nodes) some.targets) nodes =
    subst (λ all. AllByRecursion (λ (some : NodeInfo). AreWithin (length all) some.targets) all) same c.index.invariant.range in
    IfOk-weaker c.edges_from.result _ _ (λ edges h. h (length nodes) (targets_at nodes c.args.n node range here c.requires) ∙ edges_at c.args.index.now c.args.n node c.requires here) c.edges_from.ensures

pub returns-clause-within : goal.returns-clause-within
returns-clause-within c =
    IfOk-weaker c.edges_from.result _ _
    (λ edges e. subst (λ told. IfSome told (AllByRecursion (λ (edge : Edge). edge.to < length c.args.index.now.nodes))) (sym e) (edges_in c.args.index.now c.args.n)) (returns-clause-edges c)
