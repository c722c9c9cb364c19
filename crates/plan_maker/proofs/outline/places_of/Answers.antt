use Rattle.std.proofs.Common.{◌≡◌, ◌∙◌, ◌<◌, true, ap, length, get_or, arith}
use Rattle.std.specs.Prelude.{IsTrue}
use Rattle.std.proofs.lemmas.List.{get_or_default}
use Rattle.std.proofs.lemmas.List.Elements.{All-get_or}
use Rattle.dep_graph.specs.Graphs.{has}
use Rattle.dep_graph.proofs.Members.{all_has}
use Rattle.tree_index.specs.Index.{IndexView}
use Rattle.plan_maker.specs.PlanEdges.{place_in}
use Rattle.plan_maker.proofs.EdgeNumbers.{map_more}
use Rattle.plan_maker.proofs.outline.places_of.Goals as goal

pub index-requires : goal.index-requires
index-requires c =
    let n = get_or c.args.wanted.now c.loop-n.n-index 0 in
    let wanted : has c.args.nodes.now n ≡ true = All-get_or (λ m. IsTrue (has c.args.nodes.now m)) c.args.wanted.now c.loop-n.n-index 0 c.loop-n-test.true c.requires.begun in
    let below : n < length c.args.index.now.nodes = all_has (λ m. m < length c.args.index.now.nodes) c.args.nodes.now n c.requires.needed.within wanted in
    let size : length c.in_ok-numbers.numbers.items ≡ length c.args.index.now.nodes = c.in_ok-numbers.ensures.size ∙ c.len.ensures ∙ ap (λ (view : IndexView). length view.nodes) c.index.view_is in
    omega (arith, c.in_ok-numbers.numbers.ok)

pub loop-n-preserved : goal.loop-n-preserved
loop-n-preserved c =
    let n = get_or c.args.wanted.now c.loop-n.n-index 0 in
    let wanted : has c.args.nodes.now n ≡ true = All-get_or (λ m. IsTrue (has c.args.nodes.now m)) c.args.wanted.now c.loop-n.n-index 0 c.loop-n-test.true c.requires.begun in
    let below : n < length c.args.index.now.nodes = all_has (λ m. m < length c.args.index.now.nodes) c.args.nodes.now n c.requires.needed.within wanted in
    let size : length c.in_ok-numbers.numbers.items ≡ length c.args.index.now.nodes = c.in_ok-numbers.ensures.size ∙ c.len.ensures ∙ ap (λ (view : IndexView). length view.nodes) c.index.view_is in
    let number : get_or c.in_ok-numbers.numbers.items n c.index-in-loop-n.result.now ≡ place_in c.args.nodes.now n =
    get_or_default c.in_ok-numbers.numbers.items n c.index-in-loop-n.result.now 0 (omega arith) ∙ c.in_ok-numbers.ensures.places n wanted in
    map_more (place_in c.args.nodes.now) c.args.wanted.now c.loop-n.n-index c.index-in-loop-n.result.now c.loop-n.places c.push.new.self c.loop-n-test.true c.loop-n.invariant (c.index-in-loop-n.ensures ∙ number) c.in_ok-push.ensures.ok
