use Rattle.std.proofs.Common.{◌≡◌, ◌<◌, [], ◌∷◌, ◌++◌, length, get_or, set, arith, ap, subst, ◌∙◌}
use Rattle.std.specs.Prelude.{Some, None}
use Rattle.std.proofs.lemmas.List.{get_or_read}
use Rattle.bulk_model.specs.declared.plan.Edge.{Edge}
use Rattle.stale_check.specs.Recording.{IsHolder}
use Rattle.stale_check.proofs.Noting.{no_recorded, and_true, and_false, all_more, noted_some, noted_none}
use Rattle.stale_check.proofs.holders.note.Goals as goal
use Rattle.stale_check.proofs.holders.note.Goals.{in-Some+in_ok-push-in-Some, in-None}

pub loop-depend-preserved : goal.loop-depend-preserved
loop-depend-preserved c =
    let edge : Edge = record { kind = c.depend-item.result.kind; to = c.args.at } in
    let is : c.depend-item.result ≡ get_or c.args.depends.now c.loop-depend.depend-index no_recorded = get_or_read c.args.depends.now c.loop-depend.depend-index c.depend-item.result c.loop-depend-test.true c.depend-item.is no_recorded in
    elim c.match-branch-2.branch [
      | in-Some+in_ok-push-in-Some w ↦
          (let holder : IsHolder c.args.members.now (get_or c.args.depends.now c.loop-depend.depend-index no_recorded) (Some w.in-Some.place) =
          subst (λ h. IsHolder c.args.members.now (get_or c.args.depends.now c.loop-depend.depend-index no_recorded) h) w.in-Some.is
          (subst (λ d. IsHolder c.args.members.now d c.in_ok-place.field-0) is c.in_ok-place.ensures.holder) in
          let within : w.in-Some.place < length c.loop-depend.dependents.items = (let h : w.in-Some.place < length c.args.members.now = holder.within in omega (arith, c.loop-depend.invariant.noted.size, c.requires.size)) in
          record {
            all = all_more c.args.members.now c.args.depends.now c.loop-depend.depend-index (Some w.in-Some.place) c.loop-depend.all c.match-branch-2.all c.loop-depend-test.true holder c.loop-depend.invariant.all (w.all-is ∙ and_true c.loop-depend.all);
            noted = noted_some c.args.members.now c.loop-depend.depend-index w.in-Some.place edge c.args.depends.now c.args.dependents.now.items c.loop-depend.dependents.items c.match-branch-2.dependents.items c.loop-depend-test.true within holder
                c.loop-depend.invariant.noted
                (ap (λ v. v.items) w.dependents-is ∙ ap (set c.loop-depend.dependents.items w.in-Some.place)
                (w.in_ok-push-in-Some.ensures.ok ∙ ap (λ xs. xs ++ edge ∷ []) (get_or_read c.loop-depend.dependents.items w.in-Some.place w.index_mut.result.now within w.index_mut.ensures.value [])));
            known = c.in_ok-place.ensures.kept;
          })
      | in-None w ↦
          (let holder : IsHolder c.args.members.now (get_or c.args.depends.now c.loop-depend.depend-index no_recorded) None =
          subst (λ h. IsHolder c.args.members.now (get_or c.args.depends.now c.loop-depend.depend-index no_recorded) h) w.in-None.is
          (subst (λ d. IsHolder c.args.members.now d c.in_ok-place.field-0) is c.in_ok-place.ensures.holder) in
          record {
            all = all_more c.args.members.now c.args.depends.now c.loop-depend.depend-index None c.loop-depend.all c.match-branch-2.all c.loop-depend-test.true holder c.loop-depend.invariant.all (w.all-is ∙ and_false c.loop-depend.all);
            noted = noted_none c.args.members.now c.args.at c.loop-depend.depend-index c.args.depends.now c.args.dependents.now.items c.loop-depend.dependents.items c.match-branch-2.dependents.items c.loop-depend-test.true holder
                c.loop-depend.invariant.noted (ap (λ v. v.items) w.dependents-is);
            known = c.in_ok-place.ensures.kept;
          })
    ]
