use Rattle.std.proofs.Common.{◌∙◌, rules}
use Rattle.phase_runner.proofs.Placing.{no_places, place_next}
use Rattle.phase_runner.proofs.marks.first_places.Goals as goal

pub loop-at-init : goal.loop-at-init
loop-at-init c = no_places c.args.packages.now c.new-places.result c.new-places.ensures

pub loop-at-preserved : goal.loop-at-preserved
loop-at-preserved c =
    place_next c.args.packages.now c.loop-at.at c.index-packages-at.result c.loop-at.places c.place_first.new.places c.in_ok-copy.field-0 c.loop-at-test.true
    (c.in_ok-copy.ensures ∙ (search rules)) c.in_ok-place_first.ensures c.loop-at.invariant
