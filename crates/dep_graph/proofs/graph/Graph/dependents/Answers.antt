use Rattle.std.proofs.Common.{sym, subst, ◌∙◌}
use Rattle.dep_graph.specs.Turned.{IsTurned}
use Rattle.dep_graph.proofs.Turns.{is_turned}
use Rattle.dep_graph.proofs.graph.Graph.dependents.Goals as goal

pub returns-clause-counts : goal.returns-clause-counts
returns-clause-counts c =
    subst (λ graph. IsTurned graph c.from_vec.result) (c.as_slice.ensures ∙ c.self.view_is)
    (subst (IsTurned c.as_slice.result.now) (sym (c.from_vec.ensures ∙ c.in_ok-turned.ensures.value)) (is_turned c.as_slice.result.now))
