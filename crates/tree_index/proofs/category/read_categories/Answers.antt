use Rattle.std.proofs.Common.{◌≡◌, ◌∙◌, ◌++◌, ap, refl, sym, subst, ◌<◌, length, List, [], Ok, Err}
use Rattle.std.proofs.lemmas.Result.{err_from_is_err_and}
use Rattle.outside.specs.Contents.{Contents}
use Rattle.tree_index.specs.declared.node.NodeInfo.{NodeInfo}
use Rattle.tree_index.specs.Gathered.{IsNameList, AreWhole}
use Rattle.port_vars.specs.Assignment.{mapped}
use Rattle.tree_index.specs.declared.found.Found.{Found}
use Rattle.tree_index.specs.Tree.{with_category, each_in_turn, nothing_found, nodes_of_categories}
use Rattle.tree_index.proofs.InTurn.{turn_next, turn_fault, turn_end}
use Rattle.tree_index.proofs.Whole.{whole_none}
use Rattle.tree_index.proofs.Gathering.{AreBefore, category_of, with_category as whole_with_category, still_before}
use Rattle.tree_index.proofs.category.read_categories.Goals as goal

abbrev begun : List NodeInfo → Found
begun nodes = record { nodes = nodes; bytes = 0 }

pub loop-category-init : goal.loop-category-init
loop-category-init g c =
    let content : Contents = g.T.Tree.content c.args.tree.now in
    let categories = c.as_slice-category-items.result.now in
    record {
      told = λ t. ap (λ nodes. each_in_turn (with_category c.args.make.now c.args.try_broken content) (begun nodes) categories) (sym c.new.ensures);
      whole = subst AreWhole (sym c.new.ensures) whole_none;
      before = subst (AreBefore category_of categories) (sym c.new.ensures) tt;
      same = refl;
      quiet = refl;
    }

pub returns-in_err-found-clause-refused : goal.returns-in_err-found-clause-refused
returns-in_err-found-clause-refused g c t =
    let p = err_from_is_err_and c.from_residual.result c.from_residual.ensures.1 in
    let content : Contents = g.T.Tree.content c.args.tree.now in
    let make = c.args.make.now in
    let categories = c.as_slice-category-items.result.now in
    let category = c.category-item.result in
    rw (p.1, p.2) (λ some no_fault.
    let read : with_category make c.args.try_broken content c.loop-category.found category ≡ Err c.in_err-found.field-0.0 =
    ap (λ m. with_category make c.args.try_broken m c.loop-category.found category) (sym c.loop-category.invariant.same) ∙ c.in_err-found.ensures.refused t some no_fault in
    ap (nodes_of_categories make c.args.try_broken content) (sym c.as_slice-category-items.ensures)
    ∙ ap (mapped (λ found. found.nodes)) (turn_fault (with_category make c.args.try_broken content) categories c.loop-category.category-index category c.loop-category.found c.in_err-found.field-0.0
    (each_in_turn (with_category make c.args.try_broken content) nothing_found categories) c.loop-category-test.true c.category-item.is read (c.loop-category.invariant.told t)))

pub loop-category-preserved : goal.loop-category-preserved
loop-category-preserved g c =
    let content : Contents = g.T.Tree.content c.args.tree.now in
    let make = c.args.make.now in
    let categories = c.as_slice-category-items.result.now in
    let at = c.loop-category.category-index in
    let category = c.category-item.result in
    let nodes : List NodeInfo = c.loop-category.found.nodes in
    let form = c.in_ok-found.ensures.form in
    let within : at < length categories = c.loop-category-test.true in
    record {
      told = λ t.
          let read : with_category make c.args.try_broken content c.loop-category.found category ≡ Ok c.in_ok-found.found =
          ap (λ m. with_category make c.args.try_broken m c.loop-category.found category) (sym c.loop-category.invariant.same) ∙ c.in_ok-found.ensures.ok t in
          turn_next (with_category make c.args.try_broken content) categories at category c.loop-category.found c.in_ok-found.found
          (each_in_turn (with_category make c.args.try_broken content) nothing_found categories) within c.category-item.is read (c.loop-category.invariant.told t);
      whole = whole_with_category categories at category nodes form.more c.in_ok-found.found.nodes within c.category-item.is form.whole form.here form.all c.loop-category.invariant.whole c.loop-category.invariant.before;
      before = still_before category_of categories at category nodes form.more c.in_ok-found.found.nodes (subst IsNameList (sym c.as_slice-category-items.ensures) c.requires) within c.category-item.is
          form.here form.all c.loop-category.invariant.before;
      same = c.in_ok-found.ensures.same ∙ c.loop-category.invariant.same;
      quiet = c.in_ok-found.ensures.cause.kept refl ∙ c.loop-category.invariant.quiet;
    }

pub returns-clause-ok : goal.returns-clause-ok
returns-clause-ok g c t =
    let content : Contents = g.T.Tree.content c.args.tree.now in
    let step = with_category c.args.make.now c.args.try_broken content in
    ap (nodes_of_categories c.args.make.now c.args.try_broken content) (sym c.as_slice-category-items.ensures)
    ∙ ap (mapped (λ found. found.nodes)) (turn_end step c.as_slice-category-items.result.now c.loop-category.category-index c.loop-category.found
    (each_in_turn step nothing_found c.as_slice-category-items.result.now) c.loop-category-test.false (c.loop-category.invariant.told t))
