use Rattle.std.proofs.Common.{◌≡◌, ◌∙◌, ap, sym, length, arith}
use Rattle.std.specs.Vec.{vec_len}
use Rattle.std.proofs.lemmas.List.{map-id}
use Rattle.std.proofs.lemmas.Iterator.Adapters.{YieldsList-from_vec}
use Rattle.std.proofs.lemmas.Iterator.Consumers.{YieldsList-end}
use Rattle.port_name.specs.Sets.{is_among}
use Rattle.port_name.proofs.SetView.{among_push}
use Rattle.port_name.proofs.names.Names.new.Goals as goal

pub loop-name-init : goal.loop-name-init
loop-name-init c = record { same = λ name. ap (λ keys. is_among keys name) c.new-set.ensures.empty; order = c.new-set.ensures.ordered }

pub loop-name-preserved : goal.loop-name-preserved
loop-name-preserved c =
    record {
      same = among_push c.loop-name.set c.insert.new.self c.loop-name.yielded c.in-Some.name c.in_ok-insert.ensures.updates c.loop-name.invariant.same;
      order = c.insert.ensures.ordered;
    }

pub returns-clause-same : goal.returns-clause-same
returns-clause-same c = λ name.
    let v = c.into_vec-name-items.result in
    let len : vec_len v ≡ length v.items = omega (arith, v.ok.0) in
    let it = c.into_iter-name-iterator.result in
    let given = c.into_iter-name-iterator.ensures.into_iter_gives in
    let road = YieldsList-from_vec {s = it} c.args.names (given.0 ∙ c.into_vec-name-items.ensures) (given.1 ∙ len ∙ ap length c.into_vec-name-items.ensures) in
    let all = YieldsList-end road c.loop-name.yielded c.loop-name.name-iterator c.loop-name.yielded_by c.next.result c.next.new.self c.in-None.is c.next.ensures.steps in
    c.loop-name.invariant.same name ∙ ap (λ names. is_among names name) (sym (map-id c.loop-name.yielded) ∙ all.0)

pub returns-clause-order : goal.returns-clause-order
returns-clause-order c = c.loop-name.invariant.order
