use Rattle.std.proofs.Common.{map}
use Rattle.std.specs.String.{string_bytes}
use Rattle.status_lists.specs.Entries.{entry_in}
use Rattle.status_lists.specs.Fates.{fate_in}
use Rattle.status_lists.proofs.Entering.{entries_more}
use Rattle.status_lists.proofs.entries.entries.Goals as goal

pub loop-n-preserved : goal.loop-n-preserved
loop-n-preserved c =
    entries_more (λ n. entry_in c.args.part c.args.plan.now n (fate_in c.args.fates.now n)) c.loop-n.n
    (map string_bytes c.loop-n.entries.items) (map string_bytes c.push_entry.new.entries.items)
    c.loop-n.invariant c.in_ok-push_entry.ensures
