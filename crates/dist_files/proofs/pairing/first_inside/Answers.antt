use Rattle.std.proofs.Common.{arith, rules, length, ◌∙◌, ap}
use Rattle.std.specs.FinMap as map
use Rattle.dist_files.proofs.Inside.{found_inside, searched_more}
use Rattle.dist_files.proofs.pairing.first_inside.Goals as goal

pub returns-then-branch : goal.returns-then-branch
returns-then-branch c =
    found_inside c.args.files.now c.loop-file.file-index c.file-item.result c.loop-file.before c.in_ok-has_nested.field-0 c.requires (omega (arith, ap length c.as_slice-file-items.ensures)) (search rules)
    c.in_ok-has_nested.ensures c.if-branch.true c.loop-file.invariant

pub loop-file-preserved : goal.loop-file-preserved
loop-file-preserved c =
    searched_more c.args.files.now c.loop-file.file-index c.file-item.result c.loop-file.before c.insert.new.self c.in_ok-has_nested.field-0 c.requires (omega (arith, ap length c.as_slice-file-items.ensures)) (search rules)
    c.in_ok-has_nested.ensures c.if-branch.false (c.in_ok-insert.ensures.ok ∙ ap (λ k. map.insert c.loop-file.before k tt) c.in_ok-copy.ensures) c.loop-file.invariant
