use Rattle.std.proofs.Common.{length, get_or, ap, ◌∙◌}
use Rattle.std.specs.Prelude.{filter, ◌==◌}
use Rattle.std.specs.List.{range_with_len}
use Rattle.dep_graph.proofs.Ordered.{begin_waiting}
use Rattle.dep_graph.proofs.order.Waiting.new.Goals as goal

pub returns : goal.returns
returns c =
    begin_waiting c.args.graph.now c.in_ok-open.open.items c.in_ok-order.order.items c.in_ok-open.ensures
    (c.in_ok-order.ensures ∙ ap (λ l. filter (λ n. get_or l n 0 == 0) (range_with_len 0 (length l))) c.as_slice.ensures.value)
