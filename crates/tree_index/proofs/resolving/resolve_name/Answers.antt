use Rattle.std.proofs.Common.{◌≡◌, List, ◌∙◌, ap, sym}
use Rattle.std.specs.Option.{option_copied}
use Rattle.std.proofs.lemmas.Result.{IfOk-weaker}
use Rattle.tree_index.specs.declared.node.NodeInfo.{NodeInfo}
use Rattle.tree_index.specs.Numbers.{AreOf}
use Rattle.tree_index.specs.Targets.{moved_to, destination}
use Rattle.tree_index.proofs.Resolved.{place_moved}
use Rattle.tree_index.proofs.resolving.resolve_name.Goals as goal

pub returns-in_ok-follow-in-None : goal.returns-in_ok-follow-in-None
returns-in_ok-follow-in-None c =
    let numbers = c.args.numbers.now in
    let names = c.args.names.now in
    let moved = c.args.moved.now in
    let name = c.args.name.now in
    IfOk-weaker c.resolve_by_moved.result (λ at. at ≡ moved_to name c.in_ok-follow-in-None.field-0) (λ at. (nodes : List NodeInfo) → AreOf nodes numbers names → at ≡ destination nodes moved name)
    (λ at said nodes those. said ∙ ap (moved_to name) c.in_ok-follow-in-None.ensures.answer ∙ place_moved nodes numbers names moved name (sym c.get.ensures ∙ ap option_copied c.in-None.is) those) c.resolve_by_moved.ensures
