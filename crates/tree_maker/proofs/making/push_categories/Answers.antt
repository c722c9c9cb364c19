use Rattle.tree_maker.specs.Made.{category_file}
use Rattle.tree_maker.proofs.Ranges.{mapped_more}
use Rattle.tree_maker.proofs.making.push_categories.Goals as goal

pub loop-c-preserved : goal.loop-c-preserved
loop-c-preserved c =
    mapped_more (category_file c.args.ports) c.loop-c.c c.args.files.now c.loop-c.files c.push.new.self
    c.in_ok-category_file.field-0 c.loop-c.invariant c.in_ok-push.ensures.ok c.in_ok-category_file.ensures
