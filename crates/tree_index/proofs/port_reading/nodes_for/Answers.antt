use Rattle.std.proofs.Common.{◌≡◌, ◌∙◌, ℕ, Bool, List, Option, Result, ap, true, ◌∷◌}
use Rattle.std.specs.Prelude.{map}
use Rattle.std.specs.Option.{option_copied}
use Rattle.std.proofs.lemmas.Result.{IfOk-weaker, IfErr-weaker}
use Rattle.port_vars.specs.Assignment.{mapped}
use Rattle.port_desc.specs.declared.fault.DescError.{DescError}
use Rattle.tree_index.specs.declared.node.NodeInfo.{NodeInfo}
use Rattle.tree_index.specs.PortNodes.{other_flavor, with_default, nodes_for}
use Rattle.tree_index.proofs.NodesSoFar.{all_flavors, node_next}
use Rattle.tree_index.proofs.port_reading.nodes_for.Goals as goal

pub returns-clause-ok : goal.returns-clause-ok
returns-clause-ok c =
    let flavors = c.args.flavors.now in
    let others = c.behind_first-others.result.now in
    let first = option_copied c.first-first.result in
    let from : List (Option (List ℕ) × Bool) → Result (List NodeInfo) DescError = λ fs. nodes_for c.args.try_broken c.args.origin.now c.args.vars.now c.args.options.now fs in
    let begun : from (with_default flavors) ≡ mapped (λ more. c.in_ok-default.default ∷ more) (from (map other_flavor others)) =
    ap from (all_flavors flavors others first c.first-first.ensures.value c.behind_first-others.ensures)
    ∙ node_next c.args.try_broken c.args.origin.now c.args.vars.now c.args.options.now first true c.in_ok-default.default (map other_flavor others) c.in_ok-default.ensures.ok in
    IfOk-weaker c.nodes_behind.result _ _ (λ nodes h. begun ∙ h) c.nodes_behind.ensures.ok

pub returns-clause-refused : goal.returns-clause-refused
returns-clause-refused c =
    let flavors = c.args.flavors.now in
    let others = c.behind_first-others.result.now in
    let first = option_copied c.first-first.result in
    let from : List (Option (List ℕ) × Bool) → Result (List NodeInfo) DescError = λ fs. nodes_for c.args.try_broken c.args.origin.now c.args.vars.now c.args.options.now fs in
    let begun : from (with_default flavors) ≡ mapped (λ more. c.in_ok-default.default ∷ more) (from (map other_flavor others)) =
    ap from (all_flavors flavors others first c.first-first.ensures.value c.behind_first-others.ensures)
    ∙ node_next c.args.try_broken c.args.origin.now c.args.vars.now c.args.options.now first true c.in_ok-default.default (map other_flavor others) c.in_ok-default.ensures.ok in
    IfErr-weaker c.nodes_behind.result _ _ (λ e h some. begun ∙ ap (mapped (λ more. c.in_ok-default.default ∷ more)) (h some)) c.nodes_behind.ensures.refused
