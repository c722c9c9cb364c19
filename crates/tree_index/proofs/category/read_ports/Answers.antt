use Rattle.std.proofs.Common.{◌≡◌, ◌∙◌, ◌++◌, ap, refl, sym, subst, ◌<◌, length, List, [], Ok, Err}
use Rattle.std.proofs.lemmas.Result.{err_from_is_err_and}
use Rattle.std.proofs.lemmas.List.{append_assoc, append-nil}
use Rattle.outside.specs.Contents.{Contents}
use Rattle.port_name.specs.declared.place.Origin.{Origin}
use Rattle.tree_index.specs.declared.node.NodeInfo.{NodeInfo}
use Rattle.tree_index.specs.Gathered.{IsNameList, AreWhole, AreOf}
use Rattle.tree_index.specs.PortNodes.{port_nodes}
use Rattle.tree_index.specs.Places.{port_file}
use Rattle.tree_index.specs.Tree.{with_port, with_ports}
use Rattle.tree_index.specs.VarFiles.{size_at}
use Rattle.tree_index.proofs.CategorySteps.{port_refused, port_read}
use Rattle.tree_index.proofs.InTurn.{turn_next, turn_fault, turn_end}
use Rattle.tree_index.proofs.Whole.{whole_none}
use Rattle.tree_index.proofs.Gathering.{AreBefore, port_of, port_here, category_here, with_port as whole_with_port, still_before}
use Rattle.tree_index.proofs.category.read_ports.Goals as goal

pub loop-port-init : goal.loop-port-init
loop-port-init g c = record {
  told = λ t. refl;
  more = [];
  all = sym (append-nil c.args.begun.nodes);
  whole = whole_none;
  here = tt;
  before = tt;
  same = refl;
  quiet = refl;
}

pub returns-in_err-port-clause-refused : goal.returns-in_err-port-clause-refused
returns-in_err-port-clause-refused g c t =
    let p = err_from_is_err_and c.from_residual-in_err-port.result c.from_residual-in_err-port.ensures.1 in
    let content : Contents = g.T.Tree.content c.args.tree.now in
    let make = c.args.make.now in
    let category = c.args.category.now in
    let ports = c.as_slice-port-items.result.now in
    let port = c.port-item.result in
    let place : c.in_ok-origin.origin ≡ (let o : Origin = record { category = category; port = port } in o) = (λ i. record { category = c.in_ok-origin.ensures.category i; port = c.in_ok-origin.ensures.port i }) in
    rw (p.1, p.2) (λ some no_fault.
    let read : port_nodes make c.args.try_broken content (record { category = category; port = port }) ≡ Err c.in_err-port.field-0.0 =
    (λ i. port_nodes make c.args.try_broken (sym c.loop-port.invariant.same i) (sym place i)) ∙ c.in_err-port.ensures.refused t some no_fault in
    ap (with_ports make c.args.try_broken content category c.args.begun) (sym c.as_slice-port-items.ensures)
    ∙ turn_fault (λ found port. with_port make c.args.try_broken content found (record { category = category; port = port })) ports c.loop-port.port-index port c.loop-port.found c.in_err-port.field-0.0
    (with_ports make c.args.try_broken content category c.args.begun ports) c.loop-port-test.true c.port-item.is
    (port_refused make c.args.try_broken content c.loop-port.found (record { category = category; port = port }) c.in_err-port.field-0.0 read) (c.loop-port.invariant.told t))

pub returns-in_err-found-clause-refused : goal.returns-in_err-found-clause-refused
returns-in_err-found-clause-refused g c t =
    let p = err_from_is_err_and c.from_residual-in_err-found.result c.from_residual-in_err-found.ensures.1 in
    let content : Contents = g.T.Tree.content c.args.tree.now in
    let make = c.args.make.now in
    let category = c.args.category.now in
    let ports = c.as_slice-port-items.result.now in
    let port = c.port-item.result in
    let place : c.in_ok-origin.origin ≡ (let o : Origin = record { category = category; port = port } in o) = (λ i. record { category = c.in_ok-origin.ensures.category i; port = c.in_ok-origin.ensures.port i }) in
    let read : port_nodes make c.args.try_broken content (record { category = category; port = port }) ≡ Ok c.in_ok-port.port.nodes =
    (λ i. port_nodes make c.args.try_broken (sym c.loop-port.invariant.same i) (sym place i)) ∙ c.in_ok-port.ensures.ok t in
    let size : size_at content (port_file (record { category = category; port = port })) ≡ c.in_ok-port.port.size =
    (λ i. size_at (sym c.loop-port.invariant.same i) (port_file (sym place i))) ∙ c.in_ok-port.ensures.size t in
    rw (p.1, p.2) (λ some no_fault.
    ap (with_ports make c.args.try_broken content category c.args.begun) (sym c.as_slice-port-items.ensures)
    ∙ turn_fault (λ found port. with_port make c.args.try_broken content found (record { category = category; port = port })) ports c.loop-port.port-index port c.loop-port.found c.in_err-found.field-0.0
    (with_ports make c.args.try_broken content category c.args.begun ports) c.loop-port-test.true c.port-item.is
    (port_read make c.args.try_broken content c.loop-port.found (record { category = category; port = port }) c.in_ok-port.port.nodes c.in_ok-port.port.size read size ∙ c.in_err-found.ensures.refused some) (c.loop-port.invariant.told t))

pub loop-port-preserved : goal.loop-port-preserved
loop-port-preserved g c =
    let content : Contents = g.T.Tree.content c.args.tree.now in
    let make = c.args.make.now in
    let category = c.args.category.now in
    let ports = c.as_slice-port-items.result.now in
    let at = c.loop-port.port-index in
    let port = c.port-item.result in
    let origin = c.in_ok-origin.origin in
    let more : List NodeInfo = c.loop-port.invariant.more in
    let new : List NodeInfo = c.in_ok-port.port.nodes in
    let within : at < length ports = c.loop-port-test.true in
    let place : origin ≡ (let o : Origin = record { category = category; port = port } in o) = (λ i. record { category = c.in_ok-origin.ensures.category i; port = c.in_ok-origin.ensures.port i }) in
    record {
      told = λ t.
          let read : port_nodes make c.args.try_broken content (record { category = category; port = port }) ≡ Ok new =
          (λ i. port_nodes make c.args.try_broken (sym c.loop-port.invariant.same i) (sym place i)) ∙ c.in_ok-port.ensures.ok t in
          let size : size_at content (port_file (record { category = category; port = port })) ≡ c.in_ok-port.port.size =
          (λ i. size_at (sym c.loop-port.invariant.same i) (port_file (sym place i))) ∙ c.in_ok-port.ensures.size t in
          turn_next (λ found port. with_port make c.args.try_broken content found (record { category = category; port = port })) ports at port c.loop-port.found c.in_ok-found.found
          (with_ports make c.args.try_broken content category c.args.begun ports) within c.port-item.is
          (port_read make c.args.try_broken content c.loop-port.found (record { category = category; port = port }) new c.in_ok-port.port.size read size ∙ c.in_ok-found.ensures.ok) (c.loop-port.invariant.told t);
      more = more ++ new;
      all = c.in_ok-found.ensures.nodes ∙ ap (λ nodes. nodes ++ new) c.loop-port.invariant.all ∙ append_assoc c.args.begun.nodes more new;
      whole = whole_with_port origin ports at port more new (more ++ new) within c.port-item.is c.in_ok-origin.ensures.port c.in_ok-port.ensures.form refl c.loop-port.invariant.whole c.loop-port.invariant.before;
      here = category_here category origin more new (more ++ new) c.in_ok-origin.ensures.category c.in_ok-port.ensures.form refl c.loop-port.invariant.here;
      before = still_before port_of ports at port more new (more ++ new) (subst IsNameList (sym c.as_slice-port-items.ensures) c.requires.ports) within c.port-item.is
          (port_here origin new port c.in_ok-origin.ensures.port c.in_ok-port.ensures.form) refl c.loop-port.invariant.before;
      same = c.in_ok-port.ensures.same ∙ c.loop-port.invariant.same;
      quiet = c.in_ok-port.ensures.cause.kept refl ∙ c.loop-port.invariant.quiet;
    }

pub returns-clause-ok : goal.returns-clause-ok
returns-clause-ok g c t =
    let content : Contents = g.T.Tree.content c.args.tree.now in
    ap (with_ports c.args.make.now c.args.try_broken content c.args.category.now c.args.begun) (sym c.as_slice-port-items.ensures)
    ∙ turn_end (λ found port. with_port c.args.make.now c.args.try_broken content found (record { category = c.args.category.now; port = port })) c.as_slice-port-items.result.now c.loop-port.port-index c.loop-port.found
    (with_ports c.args.make.now c.args.try_broken content c.args.category.now c.args.begun c.as_slice-port-items.result.now) c.loop-port-test.false (c.loop-port.invariant.told t)

pub returns-clause-form : goal.returns-clause-form
returns-clause-form g c = record {
  more = c.loop-port.invariant.more;
  all = c.loop-port.invariant.all;
  whole = c.loop-port.invariant.whole;
  here = c.loop-port.invariant.here;
}
