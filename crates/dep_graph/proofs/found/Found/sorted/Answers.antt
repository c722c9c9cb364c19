use Rattle.std.proofs.Common.{◌≡◌, length, subst, ◌∙◌}
use Rattle.std.specs.Prelude.{filter}
use Rattle.std.specs.List.{range_with_len}
use Rattle.std.specs.List.Sorted.{IsPermutation}
use Rattle.dep_graph.specs.Graphs.{has}
use Rattle.dep_graph.specs.Found.{FoundView}
use Rattle.dep_graph.proofs.Sorting.{sorted_are}
use Rattle.dep_graph.proofs.found.Found.sorted.Goals as goal

pub returns : goal.returns
returns c =
    let moved : IsPermutation c.self.inside.nodes.items c.sort_unstable.new.self.items =
    subst (λ nodes. IsPermutation nodes c.sort_unstable.new.self.items) (c.in_ok-nodes.ensures.items ∙ c.as_slice.ensures.value) c.sort_unstable.ensures.permutation in
    c.from_vec.ensures
    ∙ subst (λ (found : FoundView). c.sort_unstable.new.self.items ≡ filter (has found.nodes) (range_with_len 0 found.count)) c.self.view_is
    (sorted_are c.self.inside.nodes.items c.sort_unstable.new.self.items (length c.self.inside.marks.items) c.self.invariant.once c.self.invariant.below moved c.sort_unstable.ensures.sorted)
