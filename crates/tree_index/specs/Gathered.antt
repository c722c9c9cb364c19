-- What holds of names that a file lists, and of the nodes of ports that were read one after another.
use Rattle.std.specs.Prelude.{◌≡◌, ◌++◌, ℕ, List, map, filter, length, IsTrue, bytes_eq}
use Rattle.std.specs.List.{AllByRecursion, IsDistinct}
use Rattle.bulk_base.specs.Names.{is_port_name}
use Rattle.outside.specs.Contents.{IsAscending}
use Rattle.tree_index.specs.declared.node.NodeInfo.{NodeInfo}
use Rattle.tree_index.specs.Facts.{IsNodeInfo, is_default_of}

-- names of categories or ports, in byte order, each once
pub record IsNameList (names : List (List ℕ)) : Type 0 where
  pub order : IsAscending names
  pub forms : AllByRecursion (λ name. IsTrue (is_port_name name)) names

-- nodes of whole ports: each once, and one default for each port
pub record AreWhole (nodes : List NodeInfo) : Type 0 where
  pub forms : AllByRecursion IsNodeInfo nodes
  pub once : IsDistinct bytes_eq (map (λ node. node.node) nodes)
  pub one_default : AllByRecursion (λ node. length (filter (is_default_of node.origin) nodes) ≡ 1) nodes

-- nodes of ports of one category
abbrev pub AreOf : List ℕ → List NodeInfo → Type 0
AreOf category nodes = AllByRecursion (λ node. node.origin.category ≡ category) nodes

-- nodes with those of whole ports of one category behind them
pub record AddsCategory (category : List ℕ) (before after : List NodeInfo) : Type 0 where
  pub more : List NodeInfo
  pub all : after ≡ before ++ more
  pub whole : AreWhole more
  pub here : AreOf category more
