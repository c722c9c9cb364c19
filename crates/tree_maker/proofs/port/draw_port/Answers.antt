use Rattle.std.proofs.Common.{◌≡◌, ◌/◌, ◌%◌, ◌^◌, ap, ◌∙◌}
use Rattle.tree_maker.specs.Draws.{next}
use Rattle.tree_maker.specs.Made.{count_of, depends_count}
use Rattle.tree_maker.proofs.Drawing.{targets_are, last_is}
use Rattle.tree_maker.proofs.port.draw_port.Goals as goal

pub returns-clause-targets : goal.returns-clause-targets
returns-clause-targets c =
    let state : c.draw.new.self ≡ next (next c.args.draws.now) = c.draw.ensures.state ∙ ap next c.draw-version.ensures.state in
    let count : c.count_of-count.result ≡ depends_count c.args.i c.args.draws.now =
    c.count_of-count.ensures.count ∙ ap (count_of c.args.i) (c.draw.ensures.number ∙ ap (λ s. next s / 2 ^ 33) c.draw-version.ensures.state) in
    targets_are c.args.draws.now c.args.i c.count_of-count.result c.draw.new.self c.in_ok-targets.targets.items state c.in_ok-targets.ensures.targets count

pub returns-clause-fate : goal.returns-clause-fate
returns-clause-fate c =
    let state : c.draw.new.self ≡ next (next c.args.draws.now) = c.draw.ensures.state ∙ ap next c.draw-version.ensures.state in
    let count : c.count_of-count.result ≡ depends_count c.args.i c.args.draws.now =
    c.count_of-count.ensures.count ∙ ap (count_of c.args.i) (c.draw.ensures.number ∙ ap (λ s. next s / 2 ^ 33) c.draw-version.ensures.state) in
    ap (λ n. n % 16) (c.draw-fate.ensures.number
    ∙ ap (λ s. s / 2 ^ 33) (last_is c.args.draws.now c.args.i c.count_of-count.result c.draw.new.self c.draw_targets.new.draws state c.in_ok-targets.ensures.state count))

pub returns-clause-state : goal.returns-clause-state
returns-clause-state c =
    let state : c.draw.new.self ≡ next (next c.args.draws.now) = c.draw.ensures.state ∙ ap next c.draw-version.ensures.state in
    let count : c.count_of-count.result ≡ depends_count c.args.i c.args.draws.now =
    c.count_of-count.ensures.count ∙ ap (count_of c.args.i) (c.draw.ensures.number ∙ ap (λ s. next s / 2 ^ 33) c.draw-version.ensures.state) in
    c.draw-fate.ensures.state
    ∙ last_is c.args.draws.now c.args.i c.count_of-count.result c.draw.new.self c.draw_targets.new.draws state c.in_ok-targets.ensures.state count
