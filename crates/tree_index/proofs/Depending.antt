-- What nodes depend on stands in order, and is among the nodes.
use Rattle.std.proofs.Common.{◌≡◌, ℕ, ◌+◌, ◌<◌, ◌≤◌, true, false, List, [], ◌∷◌, ◌++◌, refl, ap, sym, subst, ◌∙◌, length, get_or, take, cond, arith, zero, suc}
use Rattle.std.specs.Prelude.{Option, Some, None, map, IfSome, slice_get, is_some}
use Rattle.std.specs.Option.{option_map, option_and_then}
use Rattle.std.specs.declared.cmp.Ordering.{Ordering}
use Rattle.std.specs.declared.cmp.Ordering.TheVariants.{Less, Equal, Greater}
use Rattle.std.specs.Ordering.{nat_cmp, is_lt, ordering_then, MatchOrdering}
use Rattle.std.specs.Cmp.{nat_cmp_is, ranks}
use Rattle.std.specs.Cmp.Lexicographic.{slice_cmp}
use Rattle.std.specs.List.{AllByRecursion, list_all, list_any, flat_map}
use Rattle.std.specs.List.Sorted.{IsStrictlySortedBy}
use Rattle.std.proofs.lemmas.Bool.{and_from}
use Rattle.std.proofs.lemmas.List.{length-map, take_more, take_all, flat_map_more}
use Rattle.std.proofs.lemmas.Option.{slice_get-get_or}
use Rattle.std.proofs.lemmas.Map.Keys.{Less-from_sorted}
use Rattle.bulk_base.specs.Names.{IsNode, IsPackageName}
use Rattle.outside.specs.Contents.{IsAscending}
use Rattle.bulk_model.specs.Facts.{kind_number, comes_before, each_before, IsDependList}
use Rattle.bulk_model.specs.declared.depend.DepKind.{DepKind}
use Rattle.bulk_model.specs.declared.depend.Depend.{Depend}
use Rattle.bulk_model.specs.declared.plan.Edge.{Edge}
use Rattle.tree_index.specs.declared.node.NodeInfo.{NodeInfo}
use Rattle.tree_index.specs.declared.node.Target.{Target}
use Rattle.tree_index.specs.Places.{origin_name}
use Rattle.tree_index.specs.Facts.{IsNodeInfo, AreTreeNodes, AreWithin}
use Rattle.tree_index.specs.Index.{IndexView}
use Rattle.tree_index.specs.Depends.{kinds, reaches_node, is_needed, numbers_of, edge_to, edges_by, edges_from, edges_of, name_at, package_at, depend_on, depends_of}
use Rattle.tree_index.proofs.Lists.{all_append, all_at, all_weaker, all_mapped, sorted_append}
use Rattle.tree_index.proofs.Needed.{all_passing, passing_ascend}

-- by kind, then by number
abbrev edge_cmp : Edge → Edge → Ordering
edge_cmp a b = ordering_then (nat_cmp (kind_number a.kind) (kind_number b.kind)) (nat_cmp a.to b.to)

abbrev kind_cmp : DepKind → DepKind → Ordering
kind_cmp a b = nat_cmp (kind_number a) (kind_number b)

edges_of_kind : (kind : DepKind) (numbers : List ℕ) → IsStrictlySortedBy nat_cmp numbers → IsStrictlySortedBy edge_cmp (map (edge_to kind) numbers)
unfolding IsStrictlySortedBy
edges_of_kind kind [] s = tt
edges_of_kind kind (n ∷ more) s = (
  all_mapped (λ e. edge_cmp (edge_to kind n) e ≡ Less) (edge_to kind) more
      (all_weaker (λ m. nat_cmp n m ≡ Less) (λ m. edge_cmp (edge_to kind n) (edge_to kind m) ≡ Less) more
      (λ m h. ap (λ o. ordering_then o (nat_cmp n m)) (sym (nat_cmp_is (kind_number kind) (kind_number kind) Equal refl)) ∙ h) s.0),
  edges_of_kind kind more s.1,
)

module _ (numbers : DepKind → List ℕ) where
  abbrev edges_for : DepKind → List Edge
  edges_for kind = map (edge_to kind) (numbers kind)

  all_edges : (P : Edge → Type 0) (ks : List DepKind) → AllByRecursion (λ kind. AllByRecursion (λ n. P (edge_to kind n)) (numbers kind)) ks → AllByRecursion P (flat_map edges_for ks)
  all_edges P [] h = tt
  all_edges P (kind ∷ ks) h = all_append P (edges_for kind) (flat_map edges_for ks) (all_mapped P (edge_to kind) (numbers kind) h.0) (all_edges P ks h.1)

  all_of : (P : ℕ → Type 0) (ns : List ℕ) → ((n : ℕ) → P n) → AllByRecursion P ns
  all_of P [] f = tt
  all_of P (n ∷ ns) f = (f n, all_of P ns f)

  kinds_ascend : (ks : List DepKind) → ((kind : DepKind) → IsStrictlySortedBy nat_cmp (numbers kind)) → IsStrictlySortedBy kind_cmp ks → IsStrictlySortedBy edge_cmp (flat_map edges_for ks)
  unfolding IsStrictlySortedBy
  kinds_ascend [] each s = tt
  kinds_ascend (kind ∷ ks) each s =
      sorted_append edge_cmp (edges_for kind) (flat_map edges_for ks) (edges_of_kind kind (numbers kind) (each kind)) (kinds_ascend ks each s.1)
      (all_mapped (λ a. AllByRecursion (λ b. edge_cmp a b ≡ Less) (flat_map edges_for ks)) (edge_to kind) (numbers kind)
      (all_of (λ n. AllByRecursion (λ b. edge_cmp (edge_to kind n) b ≡ Less) (flat_map edges_for ks)) (numbers kind)
      (λ n. all_edges (λ b. edge_cmp (edge_to kind n) b ≡ Less) ks
      (all_weaker (λ other. kind_cmp kind other ≡ Less) (λ other. AllByRecursion (λ m. edge_cmp (edge_to kind n) (edge_to other m) ≡ Less) (numbers other)) ks
      (λ other h. all_of (λ m. edge_cmp (edge_to kind n) (edge_to other m) ≡ Less) (numbers other) (λ m. ap (λ o. ordering_then o (nat_cmp n m)) h)) s.0))))

kinds_in_order : IsStrictlySortedBy kind_cmp kinds
unfolding IsStrictlySortedBy
kinds_in_order = ((refl, (refl, (refl, (refl, (refl, (refl, tt)))))), ((refl, (refl, (refl, (refl, (refl, tt))))), ((refl, (refl, (refl, (refl, tt)))), ((refl, (refl, (refl, tt))), ((refl, (refl, tt)), ((refl, tt), (tt, tt)))))))

edges_ascend : (count : ℕ) (targets : List Target) → IsStrictlySortedBy edge_cmp (edges_by count targets)
edges_ascend count targets =
    kinds_ascend (numbers_of count targets) kinds (λ kind. passing_ascend (λ n. list_any (is_needed kind n) targets) 0 count) kinds_in_order

all_kinds : (P : DepKind → Type 0) (ks : List DepKind) → ((kind : DepKind) → P kind) → AllByRecursion P ks
all_kinds P [] f = tt
all_kinds P (kind ∷ ks) f = (f kind, all_kinds P ks f)

edges_within : (count : ℕ) (targets : List Target) → AllByRecursion (λ (edge : Edge). edge.to < count) (edges_by count targets)
edges_within count targets =
    all_edges (numbers_of count targets) (λ edge. edge.to < count) kinds
    (all_kinds (λ kind. AllByRecursion (λ n. n < count) (numbers_of count targets kind)) kinds
    (λ kind. all_passing (λ n. list_any (is_needed kind n) targets) (λ n. n < count) 0 count (λ n low high. omega arith)))

-- what a node depends on is in order, and among the nodes
pub record AreEdges (count : ℕ) (edges : List Edge) : Type 0 where
  pub order : IsStrictlySortedBy edge_cmp edges
  pub within : AllByRecursion (λ (edge : Edge). edge.to < count) edges

no_edges : (count : ℕ) → AreEdges count []
unfolding IsStrictlySortedBy
no_edges count = record { order = tt; within = tt }

edges_from_are : (count : ℕ) (node : NodeInfo) → IfSome (edges_from count node) (AreEdges count)
edges_from_are count node =
    elim (is_some node.ignored) as (λ a. IfSome (cond a (Some []) (cond (list_all (λ target. reaches_node target.at) node.targets) (Some (edges_by count node.targets)) None)) (AreEdges count)) [
      | true ↦ no_edges count
      | false ↦ elim (list_all (λ target. reaches_node target.at) node.targets) as (λ b. IfSome (cond b (Some (edges_by count node.targets)) None) (AreEdges count)) [
        | true ↦ record { order = edges_ascend count node.targets; within = edges_within count node.targets }
        | false ↦ tt
      ]
    ]

edges_are : (index : IndexView) (n : ℕ) → IfSome (edges_of index n) (AreEdges (length index.nodes))
unfolding edges_of
edges_are index n = elim (slice_get index.nodes n) as (λ o. IfSome (option_and_then (edges_from (length index.nodes)) o) (AreEdges (length index.nodes))) [
  | None ↦ tt
  | Some node ↦ edges_from_are (length index.nodes) node
]

some_within : (count : ℕ) (edges : Option (List Edge)) → IfSome edges (AreEdges count) → IfSome edges (AllByRecursion (λ (edge : Edge). edge.to < count))
some_within count None form = tt
some_within count (Some edges) form = form.within

pub edges_in : (index : IndexView) (n : ℕ) → IfSome (edges_of index n) (AllByRecursion (λ (edge : Edge). edge.to < length index.nodes))
edges_in index n = some_within (length index.nodes) (edges_of index n) (edges_are index n)

-- the node of a number
pub edges_at : (index : IndexView) (n : ℕ) (node : NodeInfo) → n < length index.nodes → node ≡ get_or index.nodes n node → edges_from (length index.nodes) node ≡ edges_of index n
unfolding edges_of
edges_at index n node l e = ap (option_and_then (edges_from (length index.nodes))) (ap Some e ∙ sym (slice_get-get_or index.nodes n node l))

pub targets_at : (nodes : List NodeInfo) (n : ℕ) (node : NodeInfo) → AllByRecursion (λ (some : NodeInfo). AreWithin (length nodes) some.targets) nodes → node ≡ get_or nodes n node → n < length nodes
    → AreWithin (length nodes) node.targets
targets_at nodes n node range e l =
    subst (λ (some : NodeInfo). AreWithin (length nodes) some.targets) (sym e) (all_at (λ (some : NodeInfo). AreWithin (length nodes) some.targets) nodes n node range l)

-- one kind more
pub edges_more : (numbers : DepKind → List ℕ) (ks : List DepKind) (at : ℕ) (kind : DepKind) (before after : List Edge) → at < length ks
    → after ≡ before ++ map (edge_to (get_or ks at kind)) (numbers (get_or ks at kind)) → before ≡ flat_map (λ kind. map (edge_to kind) (numbers kind)) (take at ks)
    → after ≡ flat_map (λ kind. map (edge_to kind) (numbers kind)) (take (at + 1) ks)
edges_more numbers ks at kind before after l put so_far =
    put ∙ ap (λ some. some ++ edges_for numbers (get_or ks at kind)) so_far ∙ flat_map_more (edges_for numbers) [] (take at ks) (get_or ks at kind)
    ∙ ap (flat_map (edges_for numbers)) (sym (take_more ks at kind l))

pub edges_all : (count : ℕ) (targets : List Target) (ks : List DepKind) (at : ℕ) (edges : List Edge) → length ks ≤ at → ks ≡ kinds
    → edges ≡ flat_map (λ kind. map (edge_to kind) (numbers_of count targets kind)) (take at ks) → edges ≡ edges_by count targets
edges_all count targets ks at edges l e so_far = so_far ∙ ap (flat_map (edges_for (numbers_of count targets))) (take_all at ks l ∙ e)

-- the same of names of nodes
less_than : (x y : ℕ) → nat_cmp x y ≡ Less → x < y
less_than x y h = subst (λ o. MatchOrdering o (x < y) (x ≡ y) (y < x)) h (ranks x y)

then_before : (o p q : Ordering) → ordering_then o p ≡ Less → (p ≡ Less → q ≡ Less) → is_lt (ordering_then o q) ≡ true
then_before Less p q h f = refl
then_before Equal p q h f = ap is_lt (f h)
then_before Greater p q h f = cc

module _ (nodes : List NodeInfo) where
  abbrev names : List (List ℕ)
  names = map (λ node. node.node) nodes

  one_before : IsAscending names → (a b : Edge) → b.to < length nodes → edge_cmp a b ≡ Less → comes_before (depend_on nodes a) (depend_on nodes b) ≡ true
  one_before ascend a b l h =
      then_before (nat_cmp (kind_number a.kind) (kind_number b.kind)) (nat_cmp a.to b.to) (slice_cmp nat_cmp (name_at nodes a.to) (name_at nodes b.to)) h
      (λ less. let low : a.to < b.to = less_than a.to b.to less in
      Less-from_sorted (slice_cmp nat_cmp) names a.to b.to [] ascend low (let size : length names ≡ length nodes = length-map nodes (λ node. node.node) in omega arith))

  all_before : IsAscending names → (edges : List Edge) → IsStrictlySortedBy edge_cmp edges → AllByRecursion (λ (edge : Edge). edge.to < length nodes) edges
      → each_before (map (depend_on nodes) edges) ≡ true
  unfolding IsStrictlySortedBy
  all_before ascend [] s w = refl
  all_before ascend (a ∷ []) s w = refl
  all_before ascend (a ∷ b ∷ more) s w = and_from _ _ (one_before ascend a b w.1.0 s.0.0) (all_before ascend (b ∷ more) s.1 w.1)

  at_node : (P : List ℕ → Type 0) (f : NodeInfo → List ℕ) (some : List NodeInfo) (n : ℕ) → AllByRecursion IsNodeInfo some → ((node : NodeInfo) → IsNodeInfo node → P (f node)) → n < length some
      → P (get_or (map f some) n [])
  at_node P f [] n h each l = absurd (omega arith)
  at_node P f (node ∷ more) zero h each l = each node h.0
  at_node P f (node ∷ more) (suc n) h each l = at_node P f more n h.1 each (omega arith)

is_node : (info : NodeInfo) → IsNodeInfo info → IsNode info.node
is_node info form = record {
  origin = origin_name info.origin;
  flavor = info.flavor;
  origin_form = record {
    category = info.origin.category;
    port = info.origin.port;
    category_form = form.origin.category;
    port_form = form.origin.port;
    spelled = refl;
  };
  flavor_form = form.flavor;
  spelled = form.spelled;
}

depends_are : (nodes : List NodeInfo) (edges : List Edge) → AreTreeNodes nodes → AreEdges (length nodes) edges → IsDependList (map (depend_on nodes) edges)
depends_are nodes edges tree form = record {
  order = all_before nodes tree.order edges form.order form.within;
  nodes =
      all_mapped (λ (d : Depend). IsNode d.node) (depend_on nodes) edges
      (all_weaker (λ (edge : Edge). edge.to < length nodes) (λ edge. IsNode (name_at nodes edge.to)) edges (λ edge l. at_node nodes IsNode (λ node. node.node) nodes edge.to tree.forms is_node l) form.within);
  names =
      all_mapped (λ (d : Depend). IsPackageName d.name) (depend_on nodes) edges
      (all_weaker (λ (edge : Edge). edge.to < length nodes) (λ edge. IsPackageName (package_at nodes edge.to)) edges
      (λ edge l. at_node nodes IsPackageName (λ node. node.desc.name) nodes edge.to tree.forms (λ node f. f.name) l) form.within);
}

mapped_are : (nodes : List NodeInfo) (edges : Option (List Edge)) → AreTreeNodes nodes → IfSome edges (AreEdges (length nodes)) → IfSome (option_map (map (depend_on nodes)) edges) IsDependList
mapped_are nodes None tree form = tt
mapped_are nodes (Some edges) tree form = depends_are nodes edges tree form

-- what the node of a number depends on is a list as jobs and packages have it
pub depends_form : (index : IndexView) (n : ℕ) → AreTreeNodes index.nodes → IfSome (depends_of index n) IsDependList
unfolding depends_of
depends_form index n tree = mapped_are index.nodes (edges_of index n) tree (edges_are index n)

pub depends_some : (index : IndexView) (n : ℕ) (edges : List Edge) → edges_of index n ≡ Some edges → depends_of index n ≡ Some (map (depend_on index.nodes) edges)
unfolding depends_of
depends_some index n edges h = ap (option_map (map (depend_on index.nodes))) h

pub depends_none : (index : IndexView) (n : ℕ) → edges_of index n ≡ None → depends_of index n ≡ None
unfolding depends_of
depends_none index n h = ap (option_map (map (depend_on index.nodes))) h
