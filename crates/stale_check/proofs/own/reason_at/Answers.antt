use Rattle.std.proofs.Common.{◌≡◌, ◌<◌, ◌∙◌, List, length, ap, sym, refl, arith, Some}
use Rattle.std.specs.List.{slice_get}
use Rattle.std.proofs.lemmas.Option.{slice_get_read}
use Rattle.std.proofs.lemmas.Result.{IfOk-weaker}
use Rattle.tree_index.specs.Index.{IndexView}
use Rattle.tree_index.specs.declared.node.NodeInfo.{NodeInfo}
use Rattle.stale_check.specs.Own.{early_reason}
use Rattle.stale_check.proofs.Reasons.{early_is, late_is}
use Rattle.stale_check.proofs.own.reason_at.Goals as goal

pub returns-in-Some : goal.returns-in-Some
returns-in-Some c =
    let nodes : c.as_slice.result.now ≡ c.args.index.now.nodes = c.as_slice.ensures ∙ ap (λ (i : IndexView). i.nodes) c.index.view_is in
    let within : c.args.n < length c.as_slice.result.now = omega (arith, c.requires.node, ap length nodes) in
    let is : slice_get c.args.index.now.nodes c.args.n ≡ Some c.index-as_slice-n.result =
    sym (ap (λ (ns : List NodeInfo). slice_get ns c.args.n) nodes)
    ∙ slice_get_read c.as_slice.result.now (length c.as_slice.result.now) c.args.n c.index-as_slice-n.result refl within c.index-as_slice-n.is in
    λ numbers flags.
    early_is c.args.index.now numbers c.args.recipes.now c.args.made.now c.args.n c.index-as_slice-n.result c.args.asked.now c.requires.node is flags
    c.early_reason.result c.in-Some.reason (c.early_reason.ensures ∙ ap (λ b. early_reason b c.index-as_slice-n.result c.args.made.now) c.get.ensures) c.in-Some.is

pub returns-in-None : goal.returns-in-None
returns-in-None c =
    let nodes : c.as_slice.result.now ≡ c.args.index.now.nodes = c.as_slice.ensures ∙ ap (λ (i : IndexView). i.nodes) c.index.view_is in
    let within : c.args.n < length c.as_slice.result.now = omega (arith, c.requires.node, ap length nodes) in
    let is : slice_get c.args.index.now.nodes c.args.n ≡ Some c.index-as_slice-n.result =
    sym (ap (λ (ns : List NodeInfo). slice_get ns c.args.n) nodes)
    ∙ slice_get_read c.as_slice.result.now (length c.as_slice.result.now) c.args.n c.index-as_slice-n.result refl within c.index-as_slice-n.is in
    IfOk-weaker c.late_reason.result _ _
    (λ late h numbers flags.
    late_is c.args.index.now numbers c.args.recipes.now c.args.made.now c.args.n c.index-as_slice-n.result c.args.asked.now c.requires.node is flags
    c.early_reason.result late (c.early_reason.ensures ∙ ap (λ b. early_reason b c.index-as_slice-n.result c.args.made.now) c.get.ensures) c.in-None.is h) c.late_reason.ensures
