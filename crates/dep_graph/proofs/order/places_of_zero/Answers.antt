use Rattle.std.proofs.Common.{true, false, get_or, ap, sym, ◌∙◌}
use Rattle.std.specs.Prelude.{◌==◌}
use Rattle.std.proofs.lemmas.Bool.{eq-eqb, ne_eqb}
use Rattle.std.proofs.lemmas.List.{append-nil}
use Rattle.dep_graph.proofs.Members.{filter_more}
use Rattle.dep_graph.proofs.order.places_of_zero.Goals as goal
use Rattle.dep_graph.proofs.order.places_of_zero.Goals.{then-counts-n-eq0+in_ok-push, else-counts-n-eq0}

pub loop-n-preserved : goal.loop-n-preserved
loop-n-preserved c =
    elim c.if-counts-n-eq0.branch [
      | then-counts-n-eq0+in_ok-push w ↦
          filter_more (λ n. get_or c.args.counts.now n 0 == 0) c.loop-n.n true c.loop-n.nodes.items c.if-counts-n-eq0.nodes.items c.loop-n.invariant
          (eq-eqb (get_or c.args.counts.now c.loop-n.n 0) 0 w.if-counts-n-eq0.true) (ap (λ v. v.items) w.nodes-is ∙ w.in_ok-push.ensures.items)
      | else-counts-n-eq0 w ↦
          filter_more (λ n. get_or c.args.counts.now n 0 == 0) c.loop-n.n false c.loop-n.nodes.items c.if-counts-n-eq0.nodes.items c.loop-n.invariant
          (ne_eqb (get_or c.args.counts.now c.loop-n.n 0) 0 w.if-counts-n-eq0.false) (ap (λ v. v.items) w.nodes-is ∙ sym (append-nil c.loop-n.nodes.items))
    ]
