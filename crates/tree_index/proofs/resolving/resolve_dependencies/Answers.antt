use Rattle.std.proofs.Common.{◌≡◌, ◌∷◌, [], ◌++◌, ◌∙◌, ap, sym, length, arith}
use Rattle.std.specs.Prelude.{map}
use Rattle.std.specs.Vec.{vec_len}
use Rattle.std.proofs.lemmas.List.{map-append, map-id}
use Rattle.std.proofs.lemmas.Iterator.Adapters.{YieldsList-from_vec}
use Rattle.std.proofs.lemmas.Iterator.Consumers.{YieldsList-end}
use Rattle.tree_index.specs.Targets.{targets_of, with_targets}
use Rattle.tree_index.proofs.resolving.resolve_dependencies.Goals as goal

pub loop-info-preserved : goal.loop-info-preserved
loop-info-preserved c = λ all those.
    let moved = c.args.moved.now in
    c.in_ok-push.ensures.ok
    ∙ ap (λ found. found ++ c.in_ok-resolve_node.field-0 ∷ []) (c.loop-info.invariant all those)
    ∙ ap (λ info. map (λ node. with_targets node (targets_of all moved node)) c.loop-info.yielded ++ info ∷ []) (c.in_ok-resolve_node.ensures all those)
    ∙ sym (map-append (λ node. with_targets node (targets_of all moved node)) c.loop-info.yielded (c.in-Some.info ∷ []))

pub returns : goal.returns
returns c = λ all those.
    let moved = c.args.moved.now in
    let v = c.into_vec-info-items.result in
    let len : vec_len v ≡ length v.items = omega (arith, v.ok.0) in
    let it = c.into_iter-info-iterator.result in
    let given = c.into_iter-info-iterator.ensures.into_iter_gives in
    let road = YieldsList-from_vec {s = it} c.args.nodes (given.0 ∙ c.into_vec-info-items.ensures) (given.1 ∙ len ∙ ap length c.into_vec-info-items.ensures) in
    let end = YieldsList-end road c.loop-info.yielded c.loop-info.info-iterator c.loop-info.yielded_by c.next.result c.next.new.self c.in-None.is c.next.ensures.steps in
    c.loop-info.invariant all those ∙ ap (map (λ node. with_targets node (targets_of all moved node))) (sym (map-id c.loop-info.yielded) ∙ end.0)
