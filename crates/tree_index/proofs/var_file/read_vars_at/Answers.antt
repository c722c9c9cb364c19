use Rattle.std.proofs.Common.{◌∙◌, ap, sym, arith, length, Err}
use Rattle.std.specs.FinMap.{get}
use Rattle.std.proofs.lemmas.Result.{err_from_is_err_and}
use Rattle.tree_index.specs.declared.fault.IndexError.TheVariants.{BadPort}
use Rattle.tree_index.specs.declared.fault.PortKind.TheVariants.{Absent}
use Rattle.tree_index.specs.VarFiles.{vars_in}
use Rattle.tree_index.proofs.EnoughBytes.{found_file, no_file, found_size}
use Rattle.tree_index.proofs.var_file.read_vars_at.Goals as goal

pub returns-in_err-bytes-clause-refused : goal.returns-in_err-bytes-clause-refused
returns-in_err-bytes-clause-refused g c t =
    let p = err_from_is_err_and c.from_residual.result c.from_residual.ensures.1 in
    let path = c.args.path.now in
    rw (p.1, p.2) (λ some no_fault.
    let absent = c.in_err-bytes.ensures.refused t some no_fault in
    no_file 65537 (vars_in path) (get (g.T.Tree.content c.args.tree.now) path) (Err (BadPort path 0 Absent)) absent.0 ∙ ap Err (sym absent.1))

pub returns-in_err-vars-clause-refused : goal.returns-in_err-vars-clause-refused
returns-in_err-vars-clause-refused g c t =
    let p = err_from_is_err_and c.from_residual-in_err-vars.result c.from_residual-in_err-vars.ensures.1 in
    let path = c.args.path.now in
    rw (p.1, p.2) (λ some no_fault.
    found_file 65537 path c.in_ok-bytes.bytes.items (get (g.T.Tree.content c.args.tree.now) path) (Err (BadPort path 0 Absent)) (omega arith) (c.in_ok-bytes.ensures.ok t)
    ∙ ap (vars_in path) (sym c.as_slice.ensures.value) ∙ c.in_err-vars.ensures.refused some)

pub returns-clause-ok : goal.returns-clause-ok
returns-clause-ok g c t =
    let path = c.args.path.now in
    found_file 65537 path c.in_ok-bytes.bytes.items (get (g.T.Tree.content c.args.tree.now) path) (Err (BadPort path 0 Absent)) (omega arith) (c.in_ok-bytes.ensures.ok t)
    ∙ ap (vars_in path) (sym c.as_slice.ensures.value) ∙ c.in_ok-vars.ensures.ok

pub returns-clause-size : goal.returns-clause-size
returns-clause-size g c t =
    let path = c.args.path.now in
    found_size 65537 path c.in_ok-bytes.bytes.items (get (g.T.Tree.content c.args.tree.now) path) c.in_ok-vars.vars (omega arith) (c.in_ok-bytes.ensures.ok t)
    (ap (vars_in path) (sym c.as_slice.ensures.value) ∙ c.in_ok-vars.ensures.ok)
    ∙ sym (ap length c.as_slice.ensures.value) ∙ c.as_slice.ensures.len ∙ sym c.len.ensures
