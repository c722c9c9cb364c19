use Rattle.std.proofs.Common.{◌≡◌, ◌∙◌, ap, get_or}
use Rattle.std.specs.List.{list_any}
use Rattle.bulk_base.specs.Words.{words_of}
use Rattle.tree_index.specs.declared.node.NodeInfo.{NodeInfo}
use Rattle.plan_maker.specs.Boosts.{is_boosted, is_match, base_name}
use Rattle.plan_maker.specs.Jobs.{node_at}
use Rattle.plan_maker.proofs.Marking.{marked_more, marked_all, none_marked}
use Rattle.plan_maker.proofs.boost.boosted.Goals as goal

pub loop-at-init : goal.loop-at-init
loop-at-init c = none_marked (λ n. is_boosted c.args.boost.now (node_at c.args.index.now n).desc.name) c.args.nodes.now c.in_ok-marks.marks c.in_ok-marks.ensures

pub loop-at-preserved : goal.loop-at-preserved
loop-at-preserved c =
    let name = (node_at c.args.index.now (get_or c.args.nodes.now c.loop-at.at 0)).desc.name in
    let base : c.in_ok-base.base ≡ base_name name = c.in_ok-base.ensures ∙ ap (λ (node : NodeInfo). base_name node.desc.name) c.node_at.ensures.node in
    let words : c.as_slice.result.now ≡ words_of c.args.boost.now = c.as_slice.ensures ∙ c.in_ok-patterns.ensures in
    let holds : c.is_matched.result ≡ is_boosted c.args.boost.now name =
    c.is_matched.ensures ∙ (λ i. list_any (λ word. is_match word (base i)) (words i)) in
    marked_more (λ n. is_boosted c.args.boost.now (node_at c.args.index.now n).desc.name) c.args.nodes.now c.loop-at.at c.loop-at.marks c.mark_where.new.marks c.is_matched.result c.loop-at-test.true c.mark_where.ensures holds c.loop-at.invariant

pub returns : goal.returns
returns c = marked_all (λ n. is_boosted c.args.boost.now (node_at c.args.index.now n).desc.name) c.args.nodes.now c.loop-at.at c.loop-at.marks c.loop-at-test.false c.loop-at.invariant
