use Rattle.std.proofs.Common.{◌≤◌, length, subst}
use Rattle.dep_graph.specs.Found.{FoundView}
use Rattle.dep_graph.proofs.Members.{at_most}
use Rattle.dep_graph.proofs.found.Found.get.Goals as goal

pub returns-clause-few : goal.returns-clause-few
returns-clause-few c =
    subst (λ (f : FoundView). length f.nodes ≤ f.count) c.self.view_is
    (at_most c.self.inside.nodes.items (length c.self.inside.marks.items) c.self.invariant.once c.self.invariant.below)
