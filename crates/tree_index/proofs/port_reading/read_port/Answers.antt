use Rattle.std.proofs.Common.{◌∙◌, sym}
use Rattle.std.proofs.lemmas.Result.{err_from_is_err_and}
use Rattle.outside.specs.Contents.{Contents}
use Rattle.tree_index.specs.VarFiles.{vars_at, size_at}
use Rattle.tree_index.proofs.PortSteps.{options_file_refused, port_file_refused, both_read}
use Rattle.tree_index.proofs.port_reading.read_port.Goals as goal

pub returns-in_err-file-clause-refused : goal.returns-in_err-file-clause-refused
returns-in_err-file-clause-refused g c t =
    let p = err_from_is_err_and c.from_residual.result c.from_residual.ensures.1 in
    let content : Contents = g.T.Tree.content c.args.tree.now in
    rw (p.1, p.2) (λ some no_fault. options_file_refused c.args.make.now c.args.try_broken content c.args.origin.now _ (c.in_err-file.ensures.refused t some no_fault))

pub returns-in_err-own-clause-refused : goal.returns-in_err-own-clause-refused
returns-in_err-own-clause-refused g c t =
    let p = err_from_is_err_and c.from_residual-in_err-own.result c.from_residual-in_err-own.ensures.1 in
    let content : Contents = g.T.Tree.content c.args.tree.now in
    rw (p.1, p.2) (λ some no_fault.
    port_file_refused c.args.make.now c.args.try_broken content c.args.origin.now c.in_ok-file.file _ (c.in_ok-file.ensures.ok t)
    ((λ i. vars_at (sym c.in_ok-file.ensures.same i) (sym c.in_ok-path.ensures i)) ∙ c.in_err-own.ensures.refused t some no_fault))

pub returns-in_err-nodes-clause-refused : goal.returns-in_err-nodes-clause-refused
returns-in_err-nodes-clause-refused g c t =
    let p = err_from_is_err_and c.from_residual-in_err-nodes.result c.from_residual-in_err-nodes.ensures.1 in
    let content : Contents = g.T.Tree.content c.args.tree.now in
    let by = both_read c.args.make.now c.args.try_broken content c.args.origin.now c.in_ok-file.file c.in_ok-own.own.vars (c.in_ok-file.ensures.ok t)
    ((λ i. vars_at (sym c.in_ok-file.ensures.same i) (sym c.in_ok-path.ensures i)) ∙ c.in_ok-own.ensures.ok t) in
    rw (p.1, p.2) (λ some no_fault. by ∙ c.in_err-nodes.ensures.refused some)

pub returns-clause-ok : goal.returns-clause-ok
returns-clause-ok g c t =
    let content : Contents = g.T.Tree.content c.args.tree.now in
    both_read c.args.make.now c.args.try_broken content c.args.origin.now c.in_ok-file.file c.in_ok-own.own.vars (c.in_ok-file.ensures.ok t)
    ((λ i. vars_at (sym c.in_ok-file.ensures.same i) (sym c.in_ok-path.ensures i)) ∙ c.in_ok-own.ensures.ok t)
    ∙ c.in_ok-nodes.ensures.ok

pub returns-clause-size : goal.returns-clause-size
returns-clause-size g c t = (λ i. size_at (sym c.in_ok-file.ensures.same i) (sym c.in_ok-path.ensures i)) ∙ c.in_ok-own.ensures.size t
