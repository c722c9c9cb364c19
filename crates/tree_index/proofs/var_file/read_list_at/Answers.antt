use Rattle.std.proofs.Common.{◌∙◌, ap, sym, arith, Err}
use Rattle.std.specs.FinMap.{get}
use Rattle.std.proofs.lemmas.Result.{err_from_is_err_and, IfOk-weaker, IfErr-weaker}
use Rattle.tree_index.specs.declared.fault.IndexError.TheVariants.{BadPort}
use Rattle.tree_index.specs.declared.fault.PortKind.TheVariants.{Absent}
use Rattle.tree_index.specs.VarFiles.{list_in}
use Rattle.tree_index.proofs.EnoughBytes.{found_list, no_file}
use Rattle.tree_index.proofs.var_file.read_list_at.Goals as goal

pub returns-in_err-bytes-clause-refused : goal.returns-in_err-bytes-clause-refused
returns-in_err-bytes-clause-refused g c t =
    let p = err_from_is_err_and c.from_residual.result c.from_residual.ensures.1 in
    let path = c.args.path.now in
    rw (p.1, p.2) (λ some no_fault.
    let absent = c.in_err-bytes.ensures.refused t some no_fault in
    no_file 1048577 (list_in path) (get (g.T.Tree.content c.args.tree.now) path) (Err (BadPort path 0 Absent)) absent.0 ∙ ap Err (sym absent.1))

pub returns-clause-ok : goal.returns-clause-ok
returns-clause-ok g c t =
    let path = c.args.path.now in
    let is = found_list 1048577 path c.in_ok-bytes.bytes.items (get (g.T.Tree.content c.args.tree.now) path) (Err (BadPort path 0 Absent)) (omega arith) (c.in_ok-bytes.ensures.ok t) in
    IfOk-weaker c.list_in.result _ _ (λ vars h. is ∙ ap (list_in path) (sym c.as_slice.ensures.value) ∙ h) c.list_in.ensures.ok

pub returns-clause-refused : goal.returns-clause-refused
returns-clause-refused g c t =
    let path = c.args.path.now in
    let is = found_list 1048577 path c.in_ok-bytes.bytes.items (get (g.T.Tree.content c.args.tree.now) path) (Err (BadPort path 0 Absent)) (omega arith) (c.in_ok-bytes.ensures.ok t) in
    IfErr-weaker c.list_in.result _ _ (λ e h some no_fault. is ∙ ap (list_in path) (sym c.as_slice.ensures.value) ∙ h some) c.list_in.ensures.refused
