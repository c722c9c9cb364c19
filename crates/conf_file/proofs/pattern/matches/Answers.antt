use Rattle.std.proofs.Common.{◌∙◌, ◌∷◌, false, length, refl, rules, eq-eqb, ne_eqb}
use Rattle.conf_file.proofs.Cutting.{decides, decided, head_goes_on, head_ends, plain_whole, plain_other, same_match}
use Rattle.conf_file.proofs.pattern.matches.Goals as goal

pub returns-then-pattern-name : goal.returns-then-pattern-name
returns-then-pattern-name c =
    decides c.begins.result c.args.pattern.now c.args.name.now
    (c.begins.ensures ∙ plain_whole c.bytes-pattern.result.now c.bytes-name.result.now (search rules) (eq-eqb (length c.bytes-pattern.result.now) (length c.bytes-name.result.now) c.if-pattern-name.true)
    ∙ same_match c.bytes-pattern.result.now c.bytes-name.result.now c.args.pattern.now c.args.name.now c.bytes-pattern.ensures.same c.bytes-name.ensures.same)

pub returns-else-pattern-name : goal.returns-else-pattern-name
returns-else-pattern-name c =
    decides _ c.args.pattern.now c.args.name.now
    (ne_eqb (length c.bytes-pattern.result.now) (length c.bytes-name.result.now) c.if-pattern-name.false ∙ plain_other c.bytes-pattern.result.now c.bytes-name.result.now (search rules) (ne_eqb (length c.bytes-pattern.result.now) (length c.bytes-name.result.now) c.if-pattern-name.false)
    ∙ same_match c.bytes-pattern.result.now c.bytes-name.result.now c.args.pattern.now c.args.name.now c.bytes-pattern.ensures.same c.bytes-name.ensures.same)

pub returns-in-Some : goal.returns-in-Some
returns-in-Some c =
    decides c.matches_behind_star.result c.args.pattern.now c.args.name.now
    (decided c.matches_behind_star.result (42 ∷ c.cut.result.1.now) c.in-Some.behind.now c.matches_behind_star.ensures
    ∙ head_goes_on c.bytes-pattern.result.now c.bytes-name.result.now c.cut.result.0.now c.cut.result.1.now c.in-Some.behind.now (search rules) c.cut.ensures.front c.cut.ensures.back c.in-Some.ensures.begins c.in-Some.ensures.rest
    ∙ same_match c.bytes-pattern.result.now c.bytes-name.result.now c.args.pattern.now c.args.name.now c.bytes-pattern.ensures.same c.bytes-name.ensures.same)

pub returns-in-None : goal.returns-in-None
returns-in-None c =
    decides false c.args.pattern.now c.args.name.now
    (head_ends c.bytes-pattern.result.now c.bytes-name.result.now c.cut.result.0.now c.cut.result.1.now (search rules) c.cut.ensures.front c.cut.ensures.back (c.in-None.ensures.other refl)
    ∙ same_match c.bytes-pattern.result.now c.bytes-name.result.now c.args.pattern.now c.args.name.now c.bytes-pattern.ensures.same c.bytes-name.ensures.same)
