use Rattle.std.proofs.Common.{◌∙◌, ap}
use Rattle.std.specs.Ordering.{nat_cmp}
use Rattle.std.specs.Cmp.Lexicographic.{slice_cmp}
use Rattle.std.specs.BTreeMap.{insert_entry}
use Rattle.tree_index.proofs.node_map.put_under_name.Goals as goal

pub returns-in_ok-insert-in-Ok : goal.returns-in_ok-insert-in-Ok
returns-in_ok-insert-in-Ok c = c.in_ok-insert-in-Ok.ensures.entries ∙ ap (λ name. insert_entry (slice_cmp nat_cmp) c.args.map.now.entries name c.args.node) c.in-Ok.ensures
