use Rattle.std.proofs.Common.{◌≡◌, take}
use Rattle.bulk_base.specs.Order.{set_of}
use Rattle.bulk_base.proofs.order.in_order.Given as goal

abbrev pub invariant-loop-text : goal.invariant-loop-text
invariant-loop-text l = l.set ≡ set_of (take l.text-index l.texts)
