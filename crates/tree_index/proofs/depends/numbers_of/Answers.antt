use Rattle.tree_index.proofs.Needed.{none_needed, more_needed}
use Rattle.tree_index.proofs.depends.numbers_of.Goals as goal

pub loop-target-init : goal.loop-target-init
loop-target-init c = none_needed c.args.targets.now c.args.kind c.new-numbers.result.keys c.new-numbers.ensures.empty

pub loop-target-preserved : goal.loop-target-preserved
loop-target-preserved c =
    more_needed c.args.targets.now c.args.kind c.loop-target.target-index c.target-item.result c.number_by.result c.loop-target.numbers.keys c.add_number.new.numbers.keys c.loop-target-test.true
    c.target-item.is c.number_by.ensures c.in_ok-add_number.ensures c.loop-target.invariant
