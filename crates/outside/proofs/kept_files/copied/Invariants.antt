use Rattle.std.proofs.Common.{◌≡◌, drop}
use Rattle.outside.specs.Given.{with_items, content_of_items}
use Rattle.outside.proofs.kept_files.copied.Given as goal

abbrev pub invariant-loop-item : goal.invariant-loop-item
invariant-loop-item l = with_items l.content (drop l.item-index l.items) ≡ content_of_items l.items
