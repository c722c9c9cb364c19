use Rattle.std.proofs.Common.{◌≡◌, ◌≢◌, Ok, Err, IfOk, IfErr, map, subst, ap, ◌∙◌, rules, tests}
use Rattle.std.specs.Prelude.{◌==◌}
use Rattle.std.specs.List.{slice_split}
use Rattle.std.specs.Vec.{vec_items}
use Rattle.std.proofs.lemmas.Result.{IfOk-at_ok}
use Rattle.std.proofs.lemmas.Iterator.Consumers.{map_from_collect}
use Rattle.std.proofs.lemmas.Iterator.Splits.{YieldsList-from_slice_split}
use Rattle.port_desc.specs.Dependencies.{target_in, target_of}
use Rattle.port_desc.specs.declared.fault.DescError.TheVariants.{NoMemory}
use Rattle.port_desc.proofs.dependencies.target_of.Goals as goal

says_is : (c : goal.After-drop-parts) → target_in c.args.word.now (map (λ part. part.now) c.as_slice.result.now) ≡ target_of c.args.word.now
unfolding target_of
says_is c =
    let parts : map (λ part. part.now) c.in_ok-parts.parts.items ≡ slice_split (λ b. b == 58) c.bytes.result.now =
    IfOk-at_ok (λ found. map (λ part. part.now) (vec_items found) ≡ slice_split (λ b. b == 58) c.bytes.result.now) c.in_ok-parts.was
    (map_from_collect _ c.collect.ensures.ran
    (YieldsList-from_slice_split _ _ c.bytes.result.now c.split.ensures.rest c.split.ensures.done c.split.ensures.closure (λ x b q k. search (rules, tests))))
    in ap (target_in c.args.word.now) (ap (map (λ part. part.now)) c.as_slice.ensures.value ∙ parts ∙ ap (slice_split (λ b. b == 58)) c.bytes.ensures.same)

pub returns-clause-ok : goal.returns-clause-ok
returns-clause-ok c = subst (λ says. IfOk c.target_in.result (λ target. says ≡ Ok target)) (says_is c) c.target_in.ensures.ok

pub returns-clause-refused : goal.returns-clause-refused
returns-clause-refused c = subst (λ says. IfErr c.target_in.result (λ e. e ≢ NoMemory → says ≡ Err e)) (says_is c) c.target_in.ensures.refused
