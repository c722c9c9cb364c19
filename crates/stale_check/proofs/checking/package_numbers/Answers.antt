use Rattle.std.proofs.Common.{◌++◌, [], ◌∙◌, ap, sym}
use Rattle.std.specs.List.{cons_option}
use Rattle.std.proofs.lemmas.List.{append-nil}
use Rattle.tree_index.specs.Index.{IndexView}
use Rattle.stale_check.specs.Own.{number_of}
use Rattle.stale_check.proofs.Filing.{given_more}
use Rattle.stale_check.proofs.checking.package_numbers.Goals as goal
use Rattle.stale_check.proofs.checking.package_numbers.Goals.{in-Some+in_ok-push, in_default}

pub loop-made-preserved : goal.loop-made-preserved
loop-made-preserved c =
    given_more (number_of c.args.index.now.nodes) c.as_slice-made-items.result.now c.loop-made.made-index c.made-item.result c.in_ok-n.field-0 c.loop-made.found.items c.match-branch-3.found.items
    c.loop-made-test.true c.made-item.is (c.in_ok-n.ensures.number ∙ ap (number_of c.as_slice-nodes.result.now) c.get.ensures
    ∙ ap (λ ns. number_of ns c.made-item.result) (c.as_slice-nodes.ensures ∙ ap (λ (i : IndexView). i.nodes) c.index.view_is))
    c.loop-made.invariant
    (elim c.match-branch-3.branch [
      | in-Some+in_ok-push w ↦
          ap (λ v. v.items) w.found-is ∙ w.in_ok-push.ensures.items ∙ ap (λ o. c.loop-made.found.items ++ cons_option o []) (sym w.in-Some.is)
      | in_default w ↦
          ap (λ v. v.items) w.found-is ∙ sym (append-nil c.loop-made.found.items) ∙ ap (λ o. c.loop-made.found.items ++ cons_option o []) (sym w.in_default.is)
    ])
