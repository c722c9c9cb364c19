use Rattle.std.proofs.Common.{◌∙◌, ap, sym, Vec, Global, ℕ, arith, Ok}
use Rattle.std.specs.Option.{option_map}
use Rattle.std.specs.FinMap.{get, empty}
use Rattle.std.proofs.lemmas.Result.{IfOk-weaker, IfErr-weaker}
use Rattle.tree_index.specs.VarFiles.{vars_in}
use Rattle.tree_index.proofs.EnoughBytes.{found_file, no_file, no_bytes}
use Rattle.tree_index.proofs.var_file.read_vars_if_there.Goals as goal

pub returns-in-Some-clause-ok : goal.returns-in-Some-clause-ok
returns-in-Some-clause-ok g c t =
    let path = c.args.path.now in
    let held = get (g.T.Tree.content c.args.tree.now) path in
    let is = found_file 65537 path c.in-Some.bytes.items held (Ok empty) (omega arith)
    (ap (option_map (λ (b : Vec ℕ Global). b.items)) (sym c.in-Some.is) ∙ c.in_ok-bytes.ensures.told t) in
    IfOk-weaker c.vars_in.result _ _ (λ vars h. is ∙ ap (vars_in path) (sym c.as_slice.ensures.value) ∙ h) c.vars_in.ensures.ok

pub returns-in-Some-clause-refused : goal.returns-in-Some-clause-refused
returns-in-Some-clause-refused g c t =
    let path = c.args.path.now in
    let held = get (g.T.Tree.content c.args.tree.now) path in
    let is = found_file 65537 path c.in-Some.bytes.items held (Ok empty) (omega arith)
    (ap (option_map (λ (b : Vec ℕ Global). b.items)) (sym c.in-Some.is) ∙ c.in_ok-bytes.ensures.told t) in
    IfErr-weaker c.vars_in.result _ _ (λ e h some no_fault. is ∙ ap (vars_in path) (sym c.as_slice.ensures.value) ∙ h some) c.vars_in.ensures.refused

pub returns-in-None-clause-ok : goal.returns-in-None-clause-ok
returns-in-None-clause-ok g c t =
    let path = c.args.path.now in
    let held = get (g.T.Tree.content c.args.tree.now) path in
    let is = no_file 65537 (vars_in path) held (Ok empty) (ap (option_map (λ (b : Vec ℕ Global). b.items)) (sym c.in-None.is) ∙ c.in_ok-bytes.ensures.told t) in
    IfOk-weaker c.vars_in-in-None.result _ _ (λ vars h. is ∙ sym (no_bytes path) ∙ h) c.vars_in-in-None.ensures.ok

pub returns-in-None-clause-refused : goal.returns-in-None-clause-refused
returns-in-None-clause-refused g c t =
    let path = c.args.path.now in
    let held = get (g.T.Tree.content c.args.tree.now) path in
    let is = no_file 65537 (vars_in path) held (Ok empty) (ap (option_map (λ (b : Vec ℕ Global). b.items)) (sym c.in-None.is) ∙ c.in_ok-bytes.ensures.told t) in
    IfErr-weaker c.vars_in-in-None.result _ _ (λ e h some no_fault. is ∙ sym (no_bytes path) ∙ h some) c.vars_in-in-None.ensures.refused
