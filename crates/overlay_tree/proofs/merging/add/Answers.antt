use Rattle.std.proofs.Common.{◌∙◌, ◌++◌, ap, sym, subst, length, take, arith, rules}
use Rattle.std.specs.FinMap.{keys, insert}
use Rattle.overlay_tree.specs.Listed.{Alike}
use Rattle.overlay_tree.proofs.Walks.{put_one, one_more}
use Rattle.overlay_tree.proofs.merging.add.Goals as goal

pub loop-path-preserved : goal.loop-path-preserved
loop-path-preserved c =
    let list = c.args.list.now in
    let at = c.loop-path.path-index in
    subst (λ xs. Alike (keys c.insert.new.self) (xs ++ keys c.args.paths.now)) (sym (one_more list at c.path-item.result (omega (arith, ap length c.as_slice-path-items.ensures)) (search rules)))
    (put_one c.loop-path.paths c.insert.new.self c.path-item.result (take at list) (keys c.args.paths.now)
    (c.in_ok-insert.ensures.ok ∙ ap (λ k. insert c.loop-path.paths k tt) c.in_ok-copy.ensures) c.loop-path.invariant)
