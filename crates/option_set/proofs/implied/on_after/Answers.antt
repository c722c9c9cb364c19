use Rattle.std.proofs.Common.{ap, ◌∙◌}
use Rattle.std.specs.Prelude.{is_some}
use Rattle.std.specs.List.{flat_map}
use Rattle.std.specs.Ordering.{nat_cmp}
use Rattle.std.specs.Cmp.Lexicographic.{slice_cmp}
use Rattle.std.specs.FinMap as map
use Rattle.option_set.specs.Implied.{implied_by}
use Rattle.option_set.proofs.Spreading.{spread_begin}
use Rattle.option_set.proofs.Rounds.{one_round}
use Rattle.option_set.proofs.implied.on_after.Goals as goal

pub loop-round-init : goal.loop-round-init
loop-round-init c =
    spread_begin (implied_by c.args.vars.now) c.args.begun.now c.in_ok-new.new c.new-on.result c.turn_on.new.on
    (λ name. ap (λ set. map.contains_key set name) c.new-on.ensures ∙ ap is_some (map.get-empty (slice_cmp nat_cmp) name))
    c.in_ok-new.ensures.on c.in_ok-new.ensures.new

pub loop-round-preserved : goal.loop-round-preserved
loop-round-preserved c =
    one_round (implied_by c.args.vars.now) c.args.begun.now c.loop-round._round c.loop-round.new c.in_ok-new-2.new c.as_slice-in-loop-round.result.now c.loop-round.on c.turn_on-in-loop-round.new.on
    (c.as_slice-in-loop-round.ensures ∙ c.in_ok-words.ensures ∙ ap (flat_map (implied_by c.args.vars.now)) c.as_slice.ensures)
    c.in_ok-new-2.ensures.on c.in_ok-new-2.ensures.new c.loop-round.invariant
