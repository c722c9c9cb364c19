-- The index of a ports tree.
use Rattle.std.specs.Prelude.{ℕ, Bool, List}
use Rattle.std.specs.declared.result.Result.{Result}
use Rattle.std.specs.declared.result.Result.TheVariants.{Ok}
use Rattle.outside.specs.Contents.{Contents}
use Rattle.port_vars.specs.Assignment.{◌>>=◌}
use Rattle.conf_file.specs.declared.make.MakeConf.{MakeConf}
use Rattle.moved_list.specs.declared.line.MovedLine.{MovedLine}
use Rattle.bulk_base.specs.Order.{in_order}
use Rattle.tree_index.specs.declared.fault.IndexError.{IndexError}
use Rattle.tree_index.specs.declared.node.NodeInfo.{NodeInfo}
use Rattle.tree_index.specs.Tree.{Listed, tree_nodes}
use Rattle.tree_index.specs.Targets.{resolved, names_of}

-- an index as its nodes, what MOVED says, and the names that are there
pub record IndexView : Type 0 where
  pub nodes : List NodeInfo
  pub moved : List MovedLine
  pub names : List (List ℕ)

-- the index of nodes
abbrev pub index_with : Listed → IndexView
index_with listed = record { nodes = resolved listed.1 listed.0; moved = listed.0; names = in_order (names_of listed.1) }

-- the index of a tree, or the first refusal
abbrev pub index_of : MakeConf → Bool → Contents → Result IndexView IndexError
index_of make try_broken content = do
  listed ← tree_nodes make try_broken content
  Ok (index_with listed)
