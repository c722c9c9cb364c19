use Rattle.std.specs.Option.{option_copied}
use Rattle.std.specs.FinMap as map
use Rattle.port_desc.proofs.Named.{parts_are}
use Rattle.port_desc.proofs.naming.parts_for.Goals as goal

pub returns : goal.returns
returns c =
    parts_are (map.get c.args.vars.now) (option_copied c.args.flavor) c.in_ok-part_for.field-0 c.in_ok-part_of.field-0 c.in_ok-part_for-2.field-0 c.in_ok-part_of-2.field-0
    c.in_ok-counter_of.field-0 c.in_ok-counter_of-2.field-0
    c.in_ok-part_for.ensures c.in_ok-part_of.ensures c.in_ok-part_for-2.ensures c.in_ok-part_of-2.ensures c.in_ok-counter_of.ensures c.in_ok-counter_of-2.ensures
