use Rattle.std.proofs.Common.{◌∙◌, map, sym, subst}
use Rattle.std.specs.Prelude.{bytes_eq}
use Rattle.std.specs.List.{AllByRecursion, IsDistinct}
use Rattle.tree_index.specs.Facts.{IsNodeInfo}
use Rattle.one_port.specs.NodeJobs.{nodes_at}
use Rattle.one_port.specs.Unserved.{is_unserved}
use Rattle.one_port.proofs.WantedNodes.{distinct_names, found_at}
use Rattle.one_port.proofs.ports_wanted.ports_of.Goals as goal

pub refusal_of_node-requires : goal.refusal_of_node-requires
refusal_of_node-requires g c =
    found_at IsNodeInfo is_unserved c.as_slice-nodes.result.now c.as_slice-numbers.result.now c.in-Some.node.now
    (subst (AllByRecursion IsNodeInfo) (sym c.as_slice-nodes.ensures) c.index.invariant.tree.forms) (sym c.in-Some.ensures)

pub invariant_of-result : goal.invariant_of-result
invariant_of-result g c =
    subst (IsDistinct bytes_eq)
    (sym (c.in_ok-jobs.ensures.names ∙ (λ k. map (λ node. node.desc.name) (nodes_at (c.as_slice-nodes.ensures k) (c.as_slice-numbers.ensures k)))))
    (distinct_names c.index.inside.nodes c.args.wanted.nodes c.index.invariant.tree.apart c.requires)
