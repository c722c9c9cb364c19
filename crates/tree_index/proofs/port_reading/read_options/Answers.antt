use Rattle.std.proofs.Common.{◌∙◌, ap, sym}
use Rattle.std.proofs.lemmas.Result.{IfErr-weaker}
use Rattle.tree_index.specs.VarFiles.{vars_if_there}
use Rattle.tree_index.proofs.port_reading.read_options.Goals as goal

pub returns-clause-refused : goal.returns-clause-refused
returns-clause-refused g c t =
    IfErr-weaker c.read_vars_if_there.result _ _ (λ e h some no_fault. ap (vars_if_there (g.T.Tree.content c.args.tree.now)) (sym c.in_ok-path.ensures) ∙ h some no_fault)
    (c.read_vars_if_there.ensures.refused t)
