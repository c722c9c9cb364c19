use Rattle.std.proofs.Common.{ap}
use Rattle.std.specs.Prelude.{◌==◌}
use Rattle.tree_maker.specs.Made.{category_of}
use Rattle.tree_maker.proofs.Ranges.{passing_more}
use Rattle.tree_maker.proofs.file.ports_in.Goals as goal

pub loop-i-preserved : goal.loop-i-preserved
loop-i-preserved c =
    passing_more (λ i. category_of i == c.args.c) c.loop-i.i c.loop-i.numbers.items c.push_if.new.numbers.items
    (c.category_of.result == c.args.c) c.loop-i.invariant (ap (λ k. k == c.args.c) c.category_of.ensures)
    c.in_ok-push_if.ensures
