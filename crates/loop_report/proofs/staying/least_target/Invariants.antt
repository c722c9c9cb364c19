use Rattle.std.proofs.Common.{◌≡◌, false, take, filter, slice_index_or}
use Rattle.dep_graph.specs.Graphs.{targets}
use Rattle.bulk_base.specs.Least.{least}
use Rattle.loop_report.proofs.staying.least_target.Given as goal

abbrev pub invariant-loop-edge : goal.invariant-loop-edge
invariant-loop-edge l = l.least ≡ least (filter (λ d. slice_index_or l.stays d false) (targets (take l.edge-index l.edges)))
