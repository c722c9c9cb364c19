use Rattle.std.proofs.Common.{ap, ◌∙◌}
use Rattle.bulk_model.specs.Views.{node_of_package}
use Rattle.run_store.proofs.Firsts.{first_none, first_more}
use Rattle.run_store.proofs.keeping.first_packages.Goals as goal

pub loop-made-init : goal.loop-made-init
loop-made-init c = first_none c.new-firsts.result c.new-firsts.ensures

pub loop-made-preserved : goal.loop-made-preserved
loop-made-preserved c =
    first_more c.args.packages.now c.loop-made.made-index c.made-item.result c.in_ok-node.node c.loop-made.firsts c.put_first.new.firsts c.loop-made-test.true c.made-item.is
    (c.in_ok-node.ensures ∙ ap node_of_package (c.fields.view_is ∙ c.get-fields.ensures)) c.loop-made.invariant c.in_ok-put_first.ensures
