-- Nodes with targets: where these lead, and what the nodes keep.
use Rattle.std.proofs.Common.{◌≡◌, ℕ, Bool, true, false, List, [], ◌∷◌, length, arith, ◌∙◌, ap, refl, sym, suc, cond, subst}
use Rattle.std.specs.Prelude.{Option, Some, None, map, filter, bytes_eq}
use Rattle.std.specs.List.{AllByRecursion, IsDistinct}
use Rattle.std.specs.FinMap.{get}
use Rattle.std.proofs.lemmas.List.{length-map}
use Rattle.port_name.specs.Sets.{is_among}
use Rattle.port_desc.specs.declared.entry.Entry.{Entry}
use Rattle.moved_list.specs.declared.line.MovedLine.{MovedLine}
use Rattle.moved_list.specs.declared.chain.Follow.{Follow}
use Rattle.moved_list.specs.declared.chain.Follow.TheVariants as follow
use Rattle.moved_list.specs.Walk.{leads_to}
use Rattle.moved_list.proofs.Walked.{leads_alike}
use Rattle.outside.specs.Contents.{IsAscending}
use Rattle.tree_index.specs.declared.node.NodeInfo.{NodeInfo}
use Rattle.tree_index.specs.declared.node.At.{At}
use Rattle.tree_index.specs.declared.node.At.TheVariants.{Node}
use Rattle.tree_index.specs.declared.node.Target.{Target}
use Rattle.tree_index.specs.Places.{origin_name}
use Rattle.tree_index.specs.Targets.{number_in, names_of, moved_to, destination, target_of, targets_of, with_targets, resolved}
use Rattle.tree_index.specs.Numbers.{Numbers, IsNumbering, AreOf}
use Rattle.bulk_base.specs.Order.{in_order}
use Rattle.tree_index.specs.Index.{IndexView, index_with}
use Rattle.tree_index.specs.Facts.{IsNodeInfo, AreTreeNodes, IsAtWithin, IsIndex, is_default_of}
use Rattle.tree_index.proofs.Known.{number_within}

-- where a name leads, by the number of the node that it means
abbrev led_by : List NodeInfo → List MovedLine → List ℕ → Option ℕ → At
led_by nodes moved name (Some n) = Node n
led_by nodes moved name None = moved_to name (leads_to (names_of nodes) moved name)

led_by_number : (nodes : List NodeInfo) (moved : List MovedLine) (name : List ℕ) (o : Option ℕ) → number_in nodes name ≡ o → led_by nodes moved name o ≡ destination nodes moved name
led_by_number nodes moved name o h = ap (led_by nodes moved name) (sym h)

-- a name that has a number leads to that node
pub place_numbered : (nodes : List NodeInfo) (numbers : Numbers) (names : List (List ℕ)) (moved : List MovedLine) (name : List ℕ) (n : ℕ) → get numbers name ≡ Some n
    → AreOf nodes numbers names → Node n ≡ destination nodes moved name
place_numbered nodes numbers names moved name n h those = led_by_number nodes moved name (Some n) (sym (those.numbering name) ∙ h)

-- a name that has no number leads where MOVED leads it
pub place_moved : (nodes : List NodeInfo) (numbers : Numbers) (names : List (List ℕ)) (moved : List MovedLine) (name : List ℕ) → get numbers name ≡ None
    → AreOf nodes numbers names → moved_to name (leads_to names moved name) ≡ destination nodes moved name
place_moved nodes numbers names moved name h those =
    ap (moved_to name) (leads_alike names (names_of nodes) those.known moved name) ∙ led_by_number nodes moved name None (sym (those.numbering name) ∙ h)

moved_within : (count : ℕ) (name : List ℕ) (answer : Follow) → IsAtWithin count (moved_to name answer)
moved_within count name follow.Here = tt
moved_within count name (follow.At new) = tt
moved_within count name follow.Absent = tt
moved_within count name (follow.Gone reason) = tt
moved_within count name (follow.Circle origins) = tt

place_within : (nodes : List NodeInfo) (moved : List MovedLine) (name : List ℕ) (o : Option ℕ) → number_in nodes name ≡ o → IsAtWithin (length nodes) (led_by nodes moved name o)
place_within nodes moved name (Some n) h = number_within nodes name n h
place_within nodes moved name None h = moved_within (length nodes) name (leads_to (names_of nodes) moved name)

targets_within : (nodes : List NodeInfo) (moved : List MovedLine) (entries : List Entry)
    → AllByRecursion (λ target. IsAtWithin (length nodes) target.at) (map (target_of nodes moved) entries)
targets_within nodes moved [] = tt
targets_within nodes moved (entry ∷ entries) = (place_within nodes moved entry.target (number_in nodes entry.target) refl, targets_within nodes moved entries)

module _ (targets : NodeInfo → List Target) where
  abbrev with_those : NodeInfo → NodeInfo
  with_those node = with_targets node (targets node)

  kept_map : {X : Type 0} (f : NodeInfo → X) → ((node : NodeInfo) → f (with_those node) ≡ f node) → (nodes : List NodeInfo) → map f (map with_those nodes) ≡ map f nodes
  kept_map f same [] = refl
  kept_map f same (node ∷ nodes) = ap (λ x. x ∷ map f (map with_those nodes)) (same node) ∙ ap (λ xs. f node ∷ xs) (kept_map f same nodes)

  kept_all : (P Q : NodeInfo → Type 0) → ((node : NodeInfo) → P node → Q (with_those node)) → (nodes : List NodeInfo) → AllByRecursion P nodes → AllByRecursion Q (map with_those nodes)
  kept_all P Q keeps [] h = tt
  kept_all P Q keeps (node ∷ nodes) h = (keeps node h.0, kept_all P Q keeps nodes h.1)

  count_case : (t : Bool) (x y : NodeInfo) (xs ys : List NodeInfo) → length xs ≡ length ys → length (cond t (x ∷ xs) xs) ≡ length (cond t (y ∷ ys) ys)
  count_case true x y xs ys e = ap (λ size. suc size) e
  count_case false x y xs ys e = e

  kept_count : (p : NodeInfo → Bool) → ((node : NodeInfo) → p (with_those node) ≡ p node) → (nodes : List NodeInfo) → length (filter p (map with_those nodes)) ≡ length (filter p nodes)
  kept_count p same [] = refl
  kept_count p same (node ∷ nodes) =
      ap (λ t. length (cond t (with_those node ∷ filter p (map with_those nodes)) (filter p (map with_those nodes)))) (same node)
      ∙ count_case (p node) (with_those node) node (filter p (map with_those nodes)) (filter p nodes) (kept_count p same nodes)

  kept_names : (nodes : List NodeInfo) → names_of (map with_those nodes) ≡ names_of nodes
  kept_names [] = refl
  kept_names (node ∷ nodes) = ap (λ others. node.node ∷ origin_name node.origin ∷ others) (kept_names nodes)

  form_kept : (node : NodeInfo) → IsNodeInfo node → IsNodeInfo (with_those node)
  form_kept node form = record {
    origin = form.origin;
    flavor = form.flavor;
    spelled = form.spelled;
    name = form.name;
    entries = form.entries;
    options = form.options;
  }

  -- nodes of a tree stay such with targets
  tree_kept : (nodes : List NodeInfo) → AreTreeNodes nodes → AreTreeNodes (map with_those nodes)
  tree_kept nodes tree = record {
    forms = kept_all IsNodeInfo IsNodeInfo form_kept nodes tree.forms;
    order = subst IsAscending (sym (kept_map (λ node. node.node) (λ _. refl) nodes)) tree.order;
    few = omega (arith, length-map nodes with_those, tree.few);
    apart = subst (IsDistinct bytes_eq) (sym (kept_map (λ node. node.desc.name) (λ _. refl) nodes)) tree.apart;
    one_default =
        kept_all (λ node. length (filter (is_default_of node.origin) nodes) ≡ 1) (λ node. length (filter (is_default_of node.origin) (map with_those nodes)) ≡ 1)
        (λ node one. kept_count (is_default_of node.origin) (λ _. refl) nodes ∙ one) nodes tree.one_default;
  }

resolved_within : (all : List NodeInfo) (moved : List MovedLine) (nodes : List NodeInfo)
    → AllByRecursion (λ node. AllByRecursion (λ target. IsAtWithin (length all) target.at) node.targets) (map (λ node. with_targets node (targets_of all moved node)) nodes)
resolved_within all moved [] = tt
resolved_within all moved (node ∷ nodes) = (targets_within all moved node.desc.entries, resolved_within all moved nodes)

-- the nodes of a tree with targets, and all their names, are an index
pub index_made : (nodes : List NodeInfo) (names : List (List ℕ)) (moved : List MovedLine) → AreTreeNodes nodes
    → ((name : List ℕ) → is_among names name ≡ is_among (names_of nodes) name) → IsIndex (resolved nodes moved) names
index_made nodes names moved tree known = record {
  tree = tree_kept (targets_of nodes moved) nodes tree;
  range =
      subst (λ count. AllByRecursion (λ node. AllByRecursion (λ target. IsAtWithin count target.at) node.targets) (resolved nodes moved))
      (sym (length-map nodes (λ node. with_targets node (targets_of nodes moved node)))) (resolved_within nodes moved nodes);
  known = λ name. known name ∙ ap (λ all. is_among all name) (sym (kept_names (targets_of nodes moved) nodes));
}

-- numbers and names that were made of nodes are theirs
pub are_of : (nodes slice : List NodeInfo) (numbers : Numbers) (names list : List (List ℕ)) → slice ≡ nodes → list ≡ names_of slice
    → ((name : List ℕ) → is_among names name ≡ is_among list name) → IsNumbering slice numbers → AreOf nodes numbers names
are_of nodes slice numbers names list same listed known numbering =
    subst (λ some. AreOf some numbers names) same (record { numbering = numbering; known = λ name. known name ∙ ap (λ all. is_among all name) listed })

abbrev view_of : List NodeInfo → List MovedLine → List (List ℕ) → IndexView
view_of nodes moved names = record { nodes = nodes; moved = moved; names = names }

-- an index is known by its nodes and names
pub index_is : (listed nodes : List NodeInfo) (names : List (List ℕ)) (moved : List MovedLine) → nodes ≡ resolved listed moved → names ≡ in_order (names_of listed)
    → view_of nodes moved names ≡ index_with (moved, listed)
index_is listed nodes names moved p q = ap (λ some. view_of some moved names) p ∙ ap (view_of (resolved listed moved) moved) q
