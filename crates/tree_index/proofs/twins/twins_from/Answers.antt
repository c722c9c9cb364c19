use Rattle.std.proofs.Common.{◌≡◌, ◌+◌, ◌<◌, ◌∙◌, ap, sym, subst, length}
use Rattle.std.specs.Prelude.{Some}
use Rattle.std.specs.Option.{option_copied}
use Rattle.std.specs.FinMap as finite
use Rattle.tree_index.specs.declared.node.NodeInfo.{NodeInfo}
use Rattle.tree_index.specs.Twins.{IsFirstNamed}
use Rattle.tree_index.proofs.TwinNodes.{twin_here}
use Rattle.tree_index.proofs.twins.twins_from.Goals as goal

pub returns-in-Some : goal.returns-in-Some
returns-in-Some c =
    let nodes = c.args.nodes.now in
    let name = c.index-nodes-at.result.desc.name in
    let within : c.args.at < length nodes = c.requires.within in
    let found : finite.get c.args.seen.now name ≡ Some c.in-Some.other.now = ap (λ (n : NodeInfo). finite.get c.args.seen.now n.desc.name) c.index-nodes-at.is ∙ sym c.get.ensures ∙ ap option_copied c.in-Some.is in
    twin_here nodes c.args.at c.in-Some.other.now c.index-nodes-at.result within c.index-nodes-at.is (subst (IsFirstNamed nodes (c.args.at + 1) name) found (c.requires.seen name))
