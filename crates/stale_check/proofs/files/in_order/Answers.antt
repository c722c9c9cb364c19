use Rattle.std.proofs.Common.{◌≡◌, ◌++◌, ◌∷◌, [], get_or, ap, sym, ◌∙◌}
use Rattle.std.specs.FinMap as files
use Rattle.std.proofs.lemmas.List.{get_or_read, append-nil}
use Rattle.std.specs.Option.{option_copied}
use Rattle.bulk_model.specs.declared.reason.Stale.{Stale}
use Rattle.std.specs.List.{cons_option}
use Rattle.stale_check.proofs.Filing.{stale_of, stale_more}
use Rattle.stale_check.proofs.files.in_order.Goals as goal
use Rattle.stale_check.proofs.files.in_order.Goals.{in-Some+in_ok-copy+in_ok-push, in_default}

pub loop-file-preserved : goal.loop-file-preserved
loop-file-preserved c =
    let here : c.file-item.result ≡ get_or c.as_slice-file-items.result.now c.loop-file.file-index [] =
    get_or_read c.as_slice-file-items.result.now c.loop-file.file-index c.file-item.result c.loop-file-test.true c.file-item.is [] in
    stale_more c.args.reasons.now c.as_slice-file-items.result.now c.loop-file.file-index (option_copied c.get.result) c.loop-file.list c.match-get.list c.loop-file-test.true
    (c.get.ensures ∙ ap (files.get c.args.reasons.now) here) c.loop-file.invariant
    (elim c.match-get.branch [
      | in-Some+in_ok-copy+in_ok-push w ↦
          w.list-is ∙ w.in_ok-push.ensures.ok
          ∙ ap (λ file. c.loop-file.list ++ (let g : Stale = record { file = file; reason = w.in-Some.reason.now } in g) ∷ []) (w.in_ok-copy.ensures ∙ here)
          ∙ ap (λ o. c.loop-file.list ++ cons_option (stale_of (get_or c.as_slice-file-items.result.now c.loop-file.file-index []) (option_copied o)) []) (sym w.in-Some.is)
      | in_default w ↦
          w.list-is ∙ sym (append-nil c.loop-file.list)
          ∙ ap (λ o. c.loop-file.list ++ cons_option (stale_of (get_or c.as_slice-file-items.result.now c.loop-file.file-index []) (option_copied o)) []) (sym w.in_default.is)
    ])
