use Rattle.std.proofs.Common.{◌≡◌, ◌+◌, ◌-◌, ◌<◌, ◌∙◌, ℕ, ap, sym, subst, length, arith}
use Rattle.std.specs.FinMap as finite
use Rattle.tree_index.specs.declared.node.NodeInfo.{NodeInfo}
use Rattle.tree_index.specs.Twins.{IsSeen}
use Rattle.tree_index.proofs.TwinNodes.{none_seen, no_twins, one_more_seen}
use Rattle.tree_index.proofs.twins.first_twins.Goals as goal

pub loop-at-init : goal.loop-at-init
loop-at-init c = record { seen = none_seen c.args.nodes.now c.new-seen.result c.new-seen.ensures; found = no_twins c.args.nodes.now }

pub loop-at-preserved : goal.loop-at-preserved
loop-at-preserved c =
    let nodes = c.args.nodes.now in
    let at : ℕ = c.loop-at.at - 1 in
    let node = c.index-nodes-at.result in
    let within : at < length nodes = omega arith in
    let next : c.loop-at.at ≡ at + 1 = omega arith in
    let put : c.insert.new.self ≡ finite.insert c.loop-at.seen node.desc.name at = c.in_ok-insert.ensures.ok ∙ ap (λ key. finite.insert c.loop-at.seen key at) (c.in_ok-copy.ensures ∙ ap (λ (n : NodeInfo). n.desc.name) (sym c.index-nodes-at.is)) in
    record {
      seen = subst (IsSeen nodes at) (sym put) (one_more_seen nodes at node c.loop-at.seen within c.index-nodes-at.is (subst (λ n. IsSeen nodes n c.loop-at.seen) next c.loop-at.invariant.seen));
      found = c.twins_from-found.ensures;
    }
