use Rattle.std.proofs.Common.{◌≡◌, ◌∙◌, ap, sym, Err}
use Rattle.tree_index.specs.declared.node.NodeInfo.{NodeInfo}
use Rattle.tree_index.specs.declared.fault.IndexError.TheVariants.{DupName}
use Rattle.tree_index.proofs.TwinNodes.{names_apart, no_first_twins, refused_by}
use Rattle.tree_index.proofs.twins.refuse_twins.Goals as goal

pub returns-in-None-clause-form : goal.returns-in-None-clause-form
returns-in-None-clause-form c = names_apart c.args.nodes.now (no_first_twins c.args.nodes.now c.in_ok-first_twins.field-0 c.in-None.is c.in_ok-first_twins.ensures)

pub returns-in_ok-copy-in-Some-3-clause-refused : goal.returns-in_ok-copy-in-Some-3-clause-refused
returns-in_ok-copy-in-Some-3-clause-refused c = λ _.
    let nodes = c.args.nodes.now in
    let a = c.index-nodes-twins.result in
    let b = c.index-nodes-twins-in-Some.result in
    let first : c.in_ok-copy-in-Some.field-0 ≡ a.node = c.in_ok-copy-in-Some.ensures in
    let second : c.in_ok-copy-in-Some-2.field-0 ≡ b.node = c.in_ok-copy-in-Some-2.ensures ∙ ap (λ (n : NodeInfo). n.node) (sym c.index-nodes-twins-in-Some.is) in
    let name : c.in_ok-copy-in-Some-3.field-0 ≡ a.desc.name = c.in_ok-copy-in-Some-3.ensures in
    refused_by nodes c.in_ok-first_twins.field-0 c.in-Some.twins a b c.in-Some.is c.index-nodes-twins.is c.index-nodes-twins-in-Some.is c.in_ok-first_twins.ensures
    ∙ (λ i. Err (DupName (sym first i) (sym second i) (sym name i)))
