-- Nodes of whole ports in the byte order of their names.
use Rattle.std.proofs.Common.{◌≡◌, ℕ, ◌≤◌, List, sym, subst, ◌∙◌, length, arith}
use Rattle.std.specs.Prelude.{map, filter, bytes_eq}
use Rattle.std.specs.List.{IsDistinct}
use Rattle.bulk_base.proofs.MapView.{keys_ascend}
use Rattle.outside.specs.Contents.{IsAscending}
use Rattle.tree_index.specs.declared.node.NodeInfo.{NodeInfo}
use Rattle.bulk_model.specs.Limits.{most}
use Rattle.bulk_model.specs.declared.which.Which.TheVariants.{Nodes}
use Rattle.tree_index.specs.Facts.{IsNodeInfo, AreTreeNodes, is_default_of}
use Rattle.tree_index.specs.Gathered.{AreWhole}
use Rattle.tree_index.specs.Tree.{ordered, by_name}
use Rattle.tree_index.proofs.Lists.{all_weaker}
use Rattle.tree_index.proofs.Puts.{all_put_in, holds_of_all, names_are_keys, as_many}

abbrev name_of : NodeInfo → List ℕ
name_of node = node.node

pub tree_form : (nodes : List NodeInfo) → AreWhole nodes → length (ordered nodes) ≤ most Nodes → IsDistinct bytes_eq (map (λ node. node.desc.name) (ordered nodes)) → AreTreeNodes (ordered nodes)
unfolding ordered
tree_form nodes h few apart = record {
  forms = holds_of_all IsNodeInfo name_of nodes h.forms;
  order = subst IsAscending (sym (names_are_keys name_of nodes)) (keys_ascend (by_name nodes));
  few = omega arith;
  apart = apart;
  one_default = all_weaker (λ node. length (filter (is_default_of node.origin) nodes) ≡ 1) (λ node. length (filter (is_default_of node.origin) (all_put_in name_of nodes)) ≡ 1) (all_put_in name_of nodes)
      (λ node e. as_many (is_default_of node.origin) name_of nodes h.once ∙ e) (holds_of_all (λ node. length (filter (is_default_of node.origin) nodes) ≡ 1) name_of nodes h.one_default);
}
