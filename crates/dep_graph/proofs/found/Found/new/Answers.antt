use Rattle.dep_graph.proofs.Finding.{none_found}
use Rattle.dep_graph.proofs.found.Found.new.Goals as goal

pub invariant_of-result : goal.invariant_of-result
invariant_of-result c = none_found c.args.count c.in_ok-vec.field-0.items c.new.result.items (c.in_ok-vec.ensures.items_if_clones_equal (λ y h. h)) c.new.ensures.items
