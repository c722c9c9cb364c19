use Rattle.std.proofs.Common.{◌≡◌, [], length, ap, sym, subst, ◌∙◌}
use Rattle.dep_graph.specs.Found.{FoundView, IsFound, unmarked}
use Rattle.dep_graph.proofs.Finding.{length-unmarked, none_marked}
use Rattle.dep_graph.proofs.found.Found.clear.Goals as goal

pub invariant_of-self : goal.invariant_of-self
invariant_of-self c =
    let marks : c.unmark.new.marks.items ≡ unmarked c.self.inside.marks.items c.self.inside.nodes.items = c.unmark.ensures ∙ ap (unmarked c.self.inside.marks.items) c.as_slice.ensures.value in
    subst (IsFound c.unmark.new.marks.items) (sym c.clear.ensures.items)
    (subst (λ list. IsFound list []) (sym marks) (none_marked c.self.inside.marks.items c.self.inside.nodes.items c.self.invariant))

pub returns : goal.returns
returns c =
    let size : length c.unmark.new.marks.items ≡ c.args.self.now.count =
    ap length c.unmark.ensures ∙ length-unmarked c.self.inside.marks.items c.as_slice.result.now ∙ ap (λ f. f.count) c.self.view_is in
    ap (λ count. let v : FoundView = record { count = count; nodes = c.clear.new.self.items } in v) size
    ∙ ap (λ nodes. let v : FoundView = record { count = c.args.self.now.count; nodes = nodes } in v) c.clear.ensures.items
