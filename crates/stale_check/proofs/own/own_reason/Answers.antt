use Rattle.std.proofs.Common.{◌∙◌, ap}
use Rattle.std.proofs.lemmas.Result.{IfOk-weaker}
use Rattle.tree_index.specs.Index.{IndexView}
use Rattle.stale_check.specs.Own.{number_of}
use Rattle.stale_check.proofs.Reasons.{own_at, own_no_port}
use Rattle.stale_check.proofs.own.own_reason.Goals as goal

pub returns-in-Some : goal.returns-in-Some
returns-in-Some c =
    IfOk-weaker c.reason_at.result _ _
    (λ reason h list flags.
    own_at c.args.index.now list c.args.recipes.now c.args.made.now c.in-Some.n c.in_ok-n.field-0 reason
    (c.in_ok-n.ensures.number ∙ ap (λ ns. number_of ns c.args.made.now) (c.as_slice.ensures ∙ ap (λ (i : IndexView). i.nodes) c.index.view_is)) c.in-Some.is (h list flags)) c.reason_at.ensures

pub returns-in-None : goal.returns-in-None
returns-in-None c = λ list flags.
    own_no_port c.args.index.now list c.args.recipes.now c.args.made.now c.in_ok-n.field-0
    (c.in_ok-n.ensures.number ∙ ap (λ ns. number_of ns c.args.made.now) (c.as_slice.ensures ∙ ap (λ (i : IndexView). i.nodes) c.index.view_is)) c.in-None.is
