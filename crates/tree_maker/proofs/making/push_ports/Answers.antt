use Rattle.tree_maker.proofs.Files.{ports_more}
use Rattle.tree_maker.proofs.making.push_ports.Goals as goal

pub loop-i-preserved : goal.loop-i-preserved
loop-i-preserved c =
    ports_more c.args.ports c.loop-i.i c.loop-i.draws c.port_file.new.draws c.loop-i.files c.push.new.self _
    c.in_ok-port_file.field-0 c.loop-i-test.true c.loop-i.invariant c.in_ok-push.ensures.ok
    c.in_ok-port_file.ensures.file c.in_ok-port_file.ensures.state
