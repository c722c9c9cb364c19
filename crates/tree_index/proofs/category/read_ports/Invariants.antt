use Rattle.std.proofs.Common.{◌≡◌, ◌++◌, List, drop}
use Rattle.std.specs.Prelude.{IsTrue}
use Rattle.tree_index.specs.declared.node.NodeInfo.{NodeInfo}
use Rattle.tree_index.specs.Gathered.{AreWhole, AreOf}
use Rattle.tree_index.specs.Tree.{with_ports}
use Rattle.tree_index.proofs.Gathering.{AreBefore, port_of}
use Rattle.tree_index.proofs.category.read_ports.Given as goal

abbrev pub invariant-loop-port : goal.invariant-loop-port
invariant-loop-port g l = record {
  told : IsTrue g.T.Tree.tells → with_ports l.make l.try_broken (g.T.Tree.content l.initial.tree) l.category l.fn.begun l.port-items
      ≡ with_ports l.make l.try_broken (g.T.Tree.content l.initial.tree) l.category l.found (drop l.port-index l.port-items);
  more : List NodeInfo;
  all : l.found.nodes ≡ l.fn.begun.nodes ++ more;
  whole : AreWhole more;
  here : AreOf l.category more;
  before : AreBefore port_of (drop l.port-index l.port-items) more;
  same : g.T.Tree.content l.tree ≡ g.T.Tree.content l.initial.tree;
  quiet : g.T.Tree.faults l.tree ≡ g.T.Tree.faults l.initial.tree;
}
