use Rattle.std.proofs.Common.{◌≡◌, ◌∙◌, true, false, ap, sym, arith}
use Rattle.std.specs.Prelude.{◌||◌}
use Rattle.origin_flavor.specs.Nodes.{is_wanted}
use Rattle.origin_flavor.proofs.Meant.{found_for, found_in_sets}
use Rattle.origin_flavor.proofs.Numbered.{numbers_more, numbers_all}
use Rattle.origin_flavor.proofs.nodes.wanted_numbers.Goals as goal
use Rattle.origin_flavor.proofs.nodes.wanted_numbers.Goals.{then-branch+in_ok-push, else-branch}

pub loop-at-preserved : goal.loop-at-preserved
loop-at-preserved c =
    let meant = c.in_ok-meant.meant in
    let node = c.index-nodes-at.result in
    let test = is_wanted c.args.all c.args.every_flavor c.args.answers.now in
    let says : test node ≡ c.in_ok-is_wanted.field-0 =
    ap (λ b. c.args.all || b) (sym (found_in_sets meant.names meant.with_flavors c.args.every_flavor c.args.answers.now node c.in_ok-meant.ensures.names c.in_ok-meant.ensures.flavors))
    ∙ ap (λ b. b || found_for meant.names meant.with_flavors node) (sym c.in_ok-meant.ensures.all) ∙ sym c.in_ok-is_wanted.ensures in
    elim c.if-branch.branch [
      | then-branch+in_ok-push w ↦
          numbers_more test true c.args.nodes.now c.loop-at.at node c.loop-at.found c.if-branch.found (omega arith) c.index-nodes-at.is (says ∙ w.if-branch.true) (w.found-is ∙ w.in_ok-push.ensures.ok) c.loop-at.invariant
      | else-branch w ↦
          numbers_more test false c.args.nodes.now c.loop-at.at node c.loop-at.found c.if-branch.found (omega arith) c.index-nodes-at.is (says ∙ w.if-branch.false) w.found-is c.loop-at.invariant
    ]

pub returns : goal.returns
returns c = numbers_all c.args.all c.args.every_flavor c.args.answers.now c.args.nodes.now c.loop-at.at c.loop-at.found (omega arith) c.loop-at.invariant
