use Rattle.std.proofs.Common.{◌≡◌, ◌<◌, ◌++◌, ◌∷◌, [], false, cond, length, get_or, arith, ap, sym, ◌∙◌}
use Rattle.std.proofs.lemmas.List.{append-nil}
use Rattle.dep_graph.specs.Graphs.{has}
use Rattle.dep_graph.proofs.Members.{marked_more}
use Rattle.dep_graph.proofs.found.Found.ascending.Goals as goal
use Rattle.dep_graph.proofs.found.Found.ascending.Goals.{then-index+in_ok-push, else-index}

pub loop-n-preserved : goal.loop-n-preserved
loop-n-preserved c =
    let l : c.loop-n.n < length c.self.inside.marks.items = omega arith in
    let is : get_or c.self.inside.marks.items c.loop-n.n false ≡ has c.args.self.now.nodes c.loop-n.n =
    c.self.invariant.marked c.loop-n.n l ∙ ap (λ f. has f.nodes c.loop-n.n) c.self.view_is in
    marked_more (has c.args.self.now.nodes) c.self.inside.marks.items c.loop-n.n c.index.result.now c.loop-n.numbers c.if-index.numbers l c.index.ensures is c.loop-n.invariant
    (elim c.if-index.branch [
      | then-index+in_ok-push w ↦ w.numbers-is ∙ w.in_ok-push.ensures.ok ∙ ap (λ b. c.loop-n.numbers ++ cond b (c.loop-n.n ∷ []) []) (sym w.if-index.true)
      | else-index w ↦ w.numbers-is ∙ sym (append-nil c.loop-n.numbers) ∙ ap (λ b. c.loop-n.numbers ++ cond b (c.loop-n.n ∷ []) []) (sym w.if-index.false)
    ])
