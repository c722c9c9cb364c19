use Rattle.std.proofs.Common.{false, [], ap, filter, slice_index_or, ◌∙◌}
use Rattle.std.specs.Option.{unwrap_or}
use Rattle.std.proofs.lemmas.List.{get_or_read}
use Rattle.dep_graph.specs.Graphs.{targets}
use Rattle.bulk_base.specs.Least.{least}
use Rattle.loop_report.specs.Loops.{next_among}
use Rattle.loop_report.proofs.Choosing.{mapped_more}
use Rattle.loop_report.proofs.staying.steps.Goals as goal

pub loop-n-preserved : goal.loop-n-preserved
loop-n-preserved c =
    mapped_more (next_among (λ d. slice_index_or c.args.stays.now d false) c.args.graph.now) c.loop-n.n c.unwrap_or.result c.loop-n.steps.items c.push.new.self.items
    c.in_ok-push.ensures.items c.loop-n.invariant
    (c.unwrap_or.ensures ∙ ap (λ o. unwrap_or o c.loop-n.n) (c.least_target.ensures
    ∙ ap (λ edges. least (filter (λ d. slice_index_or c.args.stays.now d false) (targets edges)))
    (c.as_slice.ensures ∙ get_or_read c.args.graph.now c.loop-n.n c.index-graph-n.result c.loop-n-test.true c.index-graph-n.is [])))
