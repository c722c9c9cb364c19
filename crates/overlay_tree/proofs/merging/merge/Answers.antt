use Rattle.std.proofs.Common.{◌≡◌, ◌+◌, ◌-◌, ◌<◌, ◌∙◌, ap, sym, subst, length, arith, rules}
use Rattle.std.specs.Prelude.{filter}
use Rattle.std.specs.FinMap.{keys}
use Rattle.bulk_base.specs.Path.{is_below}
use Rattle.overlay_tree.specs.Listed.{Alike, kept_of}
use Rattle.overlay_tree.proofs.Walks.{merged_begin, merged_more, merged_all, all_alike_keys}
use Rattle.overlay_tree.proofs.merging.merge.Goals as goal

pub loop-at-init : goal.loop-at-init
loop-at-init c = merged_begin c.args.lists.now c.len-at.result c.new-kept.result c.new-later.result c.len-at.ensures c.new-kept.ensures c.new-later.ensures

pub loop-at-preserved : goal.loop-at-preserved
loop-at-preserved c =
    merged_more c.args.lists.now c.loop-at.at (c.loop-at.at - 1) c.index-as_slice-at.result c.loop-at.kept c.keep.new.kept c.loop-at.later c.add.new.paths (omega arith) (search rules)
    c.in_ok-keep.ensures c.in_ok-add.ensures c.loop-at.invariant

pub returns-clause-kept : goal.returns-clause-kept
returns-clause-kept c = all_alike_keys c.args.folder.now c.args.lists.now c.loop-at.at c.loop-at.kept c.loop-at.later c.keys_below.result (omega arith) c.keys_below.ensures.below c.loop-at.invariant
