use Rattle.std.proofs.Common.{◌≡◌, ◌∙◌, ap, sym, Ok}
use Rattle.std.proofs.lemmas.Result.{err_from_is_err_and}
use Rattle.outside.specs.Contents.{Contents}
use Rattle.tree_index.specs.Places.{categories_file}
use Rattle.tree_index.specs.VarFiles.{listed_in}
use Rattle.tree_index.specs.Tree.{moved_at, nodes_in}
use Rattle.tree_index.proofs.TreeSteps.{categories_refused, moved_refused, nodes_refused, nothing_refused}
use Rattle.tree_index.proofs.tree_reading.read_tree.Goals as goal

pub returns-in_err-categories-clause-refused : goal.returns-in_err-categories-clause-refused
returns-in_err-categories-clause-refused g c t =
    let p = err_from_is_err_and c.from_residual-in_err-categories.result c.from_residual-in_err-categories.ensures.1 in
    let content : Contents = g.T.Tree.content c.args.tree.now in
    rw (p.1, p.2) (λ some no_fault. categories_refused c.args.make.now c.args.try_broken content _
    (ap (listed_in content) (sym c.in_ok-categories_file.ensures) ∙ c.in_err-categories.ensures.refused t some no_fault))

pub returns-in_err-moved-clause-refused : goal.returns-in_err-moved-clause-refused
returns-in_err-moved-clause-refused g c t =
    let p = err_from_is_err_and c.from_residual-in_err-moved.result c.from_residual-in_err-moved.ensures.1 in
    let content : Contents = g.T.Tree.content c.args.tree.now in
    let categories = c.in_ok-categories.categories in
    let listed : listed_in content categories_file ≡ Ok categories = ap (listed_in content) (sym c.in_ok-categories_file.ensures) ∙ c.in_ok-categories.ensures.ok t in
    rw (p.1, p.2) (λ some no_fault. moved_refused c.args.make.now c.args.try_broken content categories listed _
    (ap moved_at (sym c.in_ok-categories.ensures.same) ∙ c.in_err-moved.ensures.refused t some no_fault))

pub returns-in_err-nodes-clause-refused : goal.returns-in_err-nodes-clause-refused
returns-in_err-nodes-clause-refused g c t =
    let p = err_from_is_err_and c.from_residual-in_err-nodes.result c.from_residual-in_err-nodes.ensures.1 in
    let content : Contents = g.T.Tree.content c.args.tree.now in
    let categories = c.in_ok-categories.categories in
    let listed : listed_in content categories_file ≡ Ok categories = ap (listed_in content) (sym c.in_ok-categories_file.ensures) ∙ c.in_ok-categories.ensures.ok t in
    let told : moved_at content ≡ Ok c.in_ok-moved.moved = ap moved_at (sym c.in_ok-categories.ensures.same) ∙ c.in_ok-moved.ensures.ok t in
    rw (p.1, p.2) (λ some no_fault. nodes_refused c.args.make.now c.args.try_broken content categories listed c.in_ok-moved.moved told _
    (ap (λ m. nodes_in c.args.make.now c.args.try_broken m categories) (sym (c.in_ok-moved.ensures.same ∙ c.in_ok-categories.ensures.same)) ∙ c.in_err-nodes.ensures.refused t some no_fault))

pub returns-clause-ok : goal.returns-clause-ok
returns-clause-ok g c t =
    let content : Contents = g.T.Tree.content c.args.tree.now in
    let categories = c.in_ok-categories.categories in
    let listed : listed_in content categories_file ≡ Ok categories = ap (listed_in content) (sym c.in_ok-categories_file.ensures) ∙ c.in_ok-categories.ensures.ok t in
    let told : moved_at content ≡ Ok c.in_ok-moved.moved = ap moved_at (sym c.in_ok-categories.ensures.same) ∙ c.in_ok-moved.ensures.ok t in
    nothing_refused c.args.make.now c.args.try_broken content categories listed c.in_ok-moved.moved told c.in_ok-nodes.nodes
    (ap (λ m. nodes_in c.args.make.now c.args.try_broken m categories) (sym (c.in_ok-moved.ensures.same ∙ c.in_ok-categories.ensures.same)) ∙ c.in_ok-nodes.ensures.ok t)
