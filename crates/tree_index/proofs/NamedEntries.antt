-- Nodes that are put into a tree map under their names.
use Rattle.std.proofs.Common.{◌≡◌, ℕ, List, [], ◌∷◌, refl, ap, sym, ◌∙◌}
use Rattle.std.specs.declared.cmp.Ordering.{Ordering}
use Rattle.std.specs.declared.cmp.Ordering.TheVariants.{Less, Equal, Greater}
use Rattle.std.specs.Ordering.{nat_cmp, match_ordering}
use Rattle.std.specs.Cmp.Lexicographic.{slice_cmp, nat_list_cmp_total}
use Rattle.std.specs.List.{fold}
use Rattle.std.specs.BTreeMap.{insert_entry}
use Rattle.std.specs.FinMap as finite
use Rattle.std.specs.FinMap.Entries.{put, by_order}
use Rattle.tree_index.specs.declared.node.NodeInfo.{NodeInfo}
use Rattle.tree_index.specs.Tree.{NodeMap, by_name}
use Rattle.tree_index.proofs.Puts.{entries_none}

abbrev pub Entries : Type 0
Entries = List (List ℕ × NodeInfo)

abbrev pub order : List ℕ → List ℕ → Ordering
order = slice_cmp nat_cmp

-- entries after nodes that are put in one after another
abbrev pub put_all : Entries → List NodeInfo → Entries
put_all es [] = es
put_all es (node ∷ nodes) = put_all (insert_entry order es node.node node) nodes

same_place : (k : List ℕ) (v : NodeInfo) (es : Entries) → insert_entry order es k v ≡ put order k v es
same_place k v [] = refl
same_place k v (e ∷ es) = elim (order k e.0) as (λ o. match_ordering o ((k, v) ∷ e ∷ es) ((e.0, v) ∷ es) (e ∷ insert_entry order es k v) ≡ by_order o ((k, v) ∷ e ∷ es) ((e.0, v) ∷ es) (e ∷ put order k v es)) [
  | Less ↦ refl
  | Equal ↦ refl
  | Greater ↦ ap (λ rest. e ∷ rest) (same_place k v es)
]

from_map : (m : NodeMap) (nodes : List NodeInfo) → put_all (finite.entries m) nodes ≡ finite.entries (fold (λ map node. finite.insert map node.node node) m nodes)
from_map m [] = refl
from_map m (node ∷ nodes) =
    ap (λ es. put_all es nodes) (same_place node.node node (finite.entries m) ∙ sym (finite.entries-insert nat_list_cmp_total m node.node node)) ∙ from_map (finite.insert m node.node node) nodes

pub all_put : (nodes : List NodeInfo) → put_all [] nodes ≡ finite.entries (by_name nodes)
all_put nodes = ap (λ es. put_all es nodes) (sym (entries_none NodeInfo)) ∙ from_map finite.empty nodes
