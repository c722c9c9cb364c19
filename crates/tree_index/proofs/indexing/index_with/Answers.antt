use Rattle.std.proofs.Common.{◌∙◌, ap, sym, subst, length}
use Rattle.std.proofs.lemmas.List.{length-map}
use Rattle.tree_index.specs.Targets.{names_of, targets_of, with_targets}
use Rattle.tree_index.specs.Facts.{IsIndex}
use Rattle.tree_index.proofs.Resolved.{are_of, index_made, index_is}
use Rattle.tree_index.proofs.SameWords.{in_order_are}
use Rattle.tree_index.proofs.indexing.index_with.Goals as goal

pub invariant_of-result : goal.invariant_of-result
invariant_of-result c =
    let listed = c.args.listed in
    let names = c.in_ok-names.names in
    let those = are_of listed c.as_slice-all.result.now c.in_ok-numbers.numbers names c.in_ok-names_of.field-0 c.as_slice-all.ensures c.in_ok-names_of.ensures c.in_ok-names.ensures.same c.in_ok-numbers.ensures in
    subst (λ nodes. IsIndex nodes names) (sym (c.in_ok-nodes.ensures listed those)) (index_made listed names c.args.moved c.requires those.known)

pub returns-clause-index : goal.returns-clause-index
returns-clause-index c =
    let listed = c.args.listed in
    let names = c.in_ok-names.names in
    let those = are_of listed c.as_slice-all.result.now c.in_ok-numbers.numbers names c.in_ok-names_of.field-0 c.as_slice-all.ensures c.in_ok-names_of.ensures c.in_ok-names.ensures.same c.in_ok-numbers.ensures in
    index_is listed c.in_ok-nodes.nodes names c.args.moved (c.in_ok-nodes.ensures listed those) (in_order_are (names_of listed) names c.in_ok-names.ensures.order those.known)

pub returns-clause-nodes : goal.returns-clause-nodes
returns-clause-nodes c =
    let listed = c.args.listed in
    let moved = c.args.moved in
    let names = c.in_ok-names.names in
    let those = are_of listed c.as_slice-all.result.now c.in_ok-numbers.numbers names c.in_ok-names_of.field-0 c.as_slice-all.ensures c.in_ok-names_of.ensures c.in_ok-names.ensures.same c.in_ok-numbers.ensures in
    ap length (c.in_ok-nodes.ensures listed those) ∙ length-map listed (λ node. with_targets node (targets_of listed moved node))
