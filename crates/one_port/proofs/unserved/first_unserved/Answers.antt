use Rattle.std.proofs.Common.{◌∙◌, sym}
use Rattle.one_port.specs.Unserved.{is_unserved}
use Rattle.one_port.proofs.NodeJob.{first_passes, none_passes, none_there}
use Rattle.one_port.proofs.unserved.first_unserved.Goals as goal
use Rattle.one_port.proofs.unserved.first_unserved.Goals.{in-Some+else-is_unserved_desc, in_default}

pub returns-then-is_unserved_desc : goal.returns-then-is_unserved_desc
returns-then-is_unserved_desc c =
    sym (first_passes is_unserved c.args.nodes.now c.args.numbers.now c.loop-number.number-index c.in-Some.node.now c.loop-number-test.true (sym c.in-Some.ensures)
    (sym c.if-is_unserved_desc.ensures) c.loop-number.invariant)

pub loop-number-preserved : goal.loop-number-preserved
loop-number-preserved c =
    elim c.match-node_at.branch [
      | in-Some+else-is_unserved_desc w ↦
          none_passes is_unserved c.args.nodes.now c.args.numbers.now c.loop-number.number-index w.in-Some.node.now c.loop-number-test.true (sym w.in-Some.ensures)
          (sym w.is_unserved_desc.ensures ∙ w.if-is_unserved_desc.false) c.loop-number.invariant
      | in_default w ↦ none_there is_unserved c.args.nodes.now c.args.numbers.now c.loop-number.number-index c.loop-number-test.true (sym w.in_default.ensures) c.loop-number.invariant
    ]
