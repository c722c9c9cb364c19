use Rattle.std.proofs.Common.{◌∙◌, ap, sym, length, true, false, arith, rules}
use Rattle.std.specs.FinMap.{keys, insert}
use Rattle.overlay_tree.specs.Listed.{stays}
use Rattle.overlay_tree.proofs.Walks.{keep_one}
use Rattle.overlay_tree.proofs.merging.keep.Goals as goal
use Rattle.overlay_tree.proofs.merging.keep.Goals.{then-branch+in_ok-copy+in_ok-insert, else-branch}

pub loop-path-preserved : goal.loop-path-preserved
loop-path-preserved c = elim c.if-branch.branch [
  | then-branch+in_ok-copy+in_ok-insert w ↦ keep_one (stays (keys c.args.later.now)) c.args.list.now c.loop-path.path-index c.path-item.result c.loop-path.kept c.if-branch.kept (keys c.args.kept.now) true
      (omega (arith, ap length c.as_slice-path-items.ensures)) (search rules) (sym c.in_ok-stays.ensures ∙ w.if-branch.true)
      (w.kept-is ∙ w.in_ok-insert.ensures.ok ∙ ap (λ k. insert c.loop-path.kept k tt) w.in_ok-copy.ensures) c.loop-path.invariant
  | else-branch w ↦ keep_one (stays (keys c.args.later.now)) c.args.list.now c.loop-path.path-index c.path-item.result c.loop-path.kept c.if-branch.kept (keys c.args.kept.now) false
      (omega (arith, ap length c.as_slice-path-items.ensures)) (search rules) (sym c.in_ok-stays.ensures ∙ w.if-branch.false) w.kept-is c.loop-path.invariant
]
