use Rattle.std.proofs.Common.{◌∙◌, ◌∷◌, false, sym, refl, rules}
use Rattle.conf_file.proofs.Starred.{at_end}
use Rattle.conf_file.proofs.Cutting.{decides, no_star, star_goes_on, star_ends}
use Rattle.conf_file.proofs.pattern.matches_behind_star.Goals as goal

pub returns-in_default : goal.returns-in_default
returns-in_default c =
    decides false (42 ∷ c.args.pattern.now) c.args.name.now
    (sym (star_ends c.loop-pattern.pattern.now c.loop-pattern.name.now c.cut.result.0.now c.cut.result.1.now (search rules) c.cut.ensures.front c.cut.ensures.back (c.in_default.ensures.nowhere refl))
    ∙ c.loop-pattern.invariant)

pub loop-pattern-preserved : goal.loop-pattern-preserved
loop-pattern-preserved c =
    star_goes_on c.loop-pattern.pattern.now c.loop-pattern.name.now c.cut.result.0.now c.cut.result.1.now c.in-Some.behind.now (search rules) c.cut.ensures.front c.cut.ensures.back c.in-Some.ensures.first
    ∙ c.loop-pattern.invariant

pub returns : goal.returns
returns c =
    decides c.ends.result (42 ∷ c.args.pattern.now) c.args.name.now
    (c.ends.ensures ∙ sym (at_end c.loop-pattern.pattern.now c.loop-pattern.name.now (no_star c.loop-pattern.pattern.now (search rules))) ∙ c.loop-pattern.invariant)
