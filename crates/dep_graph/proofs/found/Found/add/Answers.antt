use Rattle.std.proofs.Common.{◌≡◌, ◌<◌, true, false, length, get_or, set, arith, subst, sym, ap, ◌∙◌}
use Rattle.std.proofs.lemmas.List.{get_or_read}
use Rattle.dep_graph.specs.Found.{IsFound}
use Rattle.dep_graph.proofs.Finding.{found_more}
use Rattle.dep_graph.proofs.found.Found.add.Goals as goal

pub invariant_of-self-then-not-index : goal.invariant_of-self-then-not-index
invariant_of-self-then-not-index c =
    let within : c.args.n < length c.self.inside.marks.items = omega (arith, c.requires, ap (λ f. f.count) c.self.view_is) in
    let new : get_or c.self.inside.marks.items c.args.n false ≡ false = sym (get_or_read c.self.inside.marks.items c.args.n c.index.result.now within c.index.ensures false) ∙ c.if-not-index.true in
    subst (λ nodes. IsFound (set c.self.inside.marks.items c.args.n true) nodes) (sym c.in_ok-push.ensures.items)
    (found_more c.self.inside.marks.items c.self.inside.nodes.items c.args.n within new c.self.invariant)
