use Rattle.std.proofs.Common.{arith}
use Rattle.port_desc.proofs.Once.{once_more}
use Rattle.port_desc.proofs.dependencies.each_once.Goals as goal

pub loop-text-preserved : goal.loop-text-preserved
loop-text-preserved c =
    once_more c.args.texts.now c.loop-text.before c.loop-text.found.items c.keep.new.before c.keep.new.found.items c.loop-text.text-index c.text-item.result
    (omega arith) c.text-item.is c.in_ok-keep.ensures.seen c.in_ok-keep.ensures.kept c.loop-text.invariant
