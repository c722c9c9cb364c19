use Rattle.std.proofs.Common.{false, slice_index_or}
use Rattle.loop_report.proofs.Choosing.{first_passing, none_passing}
use Rattle.loop_report.proofs.staying.first_staying.Goals as goal

pub returns-then-stays-n : goal.returns-then-stays-n
returns-then-stays-n c = first_passing (λ n. slice_index_or c.args.stays.now n false) _ c.loop-n.n c.loop-n-test.true c.loop-n.invariant c.if-stays-n.true

pub loop-n-preserved : goal.loop-n-preserved
loop-n-preserved c = none_passing (λ n. slice_index_or c.args.stays.now n false) c.loop-n.n c.loop-n.invariant c.if-stays-n.false
