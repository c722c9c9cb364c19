use Rattle.std.proofs.Common.{◌∙◌, ap, sym}
use Rattle.std.proofs.lemmas.Result.{err_from_is_err_and, IfOk-weaker, IfErr-weaker}
use Rattle.outside.specs.Contents.{Contents}
use Rattle.tree_index.specs.VarFiles.{listed_in}
use Rattle.tree_index.specs.Tree.{with_ports}
use Rattle.tree_index.proofs.CategorySteps.{list_refused, list_read}
use Rattle.tree_index.proofs.category.read_category.Goals as goal

pub returns-in_err-ports-clause-refused : goal.returns-in_err-ports-clause-refused
returns-in_err-ports-clause-refused g c t =
    let p = err_from_is_err_and c.from_residual-in_err-ports.result c.from_residual-in_err-ports.ensures.1 in
    let content : Contents = g.T.Tree.content c.args.tree.now in
    rw (p.1, p.2) (λ some no_fault. list_refused c.args.make.now c.args.try_broken content c.args.begun c.args.category.now _
    (ap (listed_in content) (sym c.in_ok-ports_file.ensures) ∙ c.in_err-ports.ensures.refused t some no_fault))

pub returns-clause-ok : goal.returns-clause-ok
returns-clause-ok g c t =
    let content : Contents = g.T.Tree.content c.args.tree.now in
    let by = list_read c.args.make.now c.args.try_broken content c.args.begun c.args.category.now c.in_ok-ports.ports (ap (listed_in content) (sym c.in_ok-ports_file.ensures) ∙ c.in_ok-ports.ensures.ok t) in
    IfOk-weaker c.read_ports.result _ _ (λ nodes h. by ∙ ap (λ m. with_ports c.args.make.now c.args.try_broken m c.args.category.now c.args.begun c.in_ok-ports.ports) (sym c.in_ok-ports.ensures.same) ∙ h) (c.read_ports.ensures.ok t)

pub returns-clause-refused : goal.returns-clause-refused
returns-clause-refused g c t =
    let content : Contents = g.T.Tree.content c.args.tree.now in
    let by = list_read c.args.make.now c.args.try_broken content c.args.begun c.args.category.now c.in_ok-ports.ports (ap (listed_in content) (sym c.in_ok-ports_file.ensures) ∙ c.in_ok-ports.ensures.ok t) in
    IfErr-weaker c.read_ports.result _ _ (λ e h some no_fault. by ∙ ap (λ m. with_ports c.args.make.now c.args.try_broken m c.args.category.now c.args.begun c.in_ok-ports.ports) (sym c.in_ok-ports.ensures.same) ∙ h some no_fault) (c.read_ports.ensures.refused t)
