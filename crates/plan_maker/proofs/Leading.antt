-- What a node depends on is among what it leads to, and what nodes lead to are nodes.
use Rattle.std.proofs.Common.{◌≡◌, ◌≢◌, ◌∙◌, ℕ, zero, suc, ◌+◌, ◌<◌, ◌≤◌, ◌^◌, Bool, true, false, List, [], ◌∷◌, ap, sym, subst, refl, length, get_or, take, map, cond, arith, inl, inr}
use Rattle.std.specs.Prelude.{Result, Ok, Option, Some, None, is_some, Contains, filter, slice_get, IfSome}
use Rattle.std.specs.Option.{option_map, option_and_then}
use Rattle.std.specs.List.{All, AllByRecursion, list_all, list_any, filter_map, flat_map, range_with_len, cons_option}
use Rattle.std.proofs.lemmas.Bool.{and_parts, eqb-true, cases_lt}
use Rattle.std.proofs.lemmas.List.{length-map, get_or-map, take_all}
use Rattle.std.proofs.lemmas.List.Elements.{All-nil, All-cons, Contains-append_cases}
use Rattle.std.proofs.lemmas.Option.{same_Some, slice_get-get_or, slice_get_past}
use Rattle.bulk_base.proofs.Members.{Member, Source, any_member, map_contains, contains_map, filter_out_of, contains_none, given_filter_map}
use Rattle.bulk_model.specs.declared.depend.DepKind.{DepKind}
use Rattle.bulk_model.specs.declared.plan.Edge.{Edge}
use Rattle.dep_graph.specs.Graphs.{has, targets, depends_at, IsWithin, IsGraph}
use Rattle.tree_index.specs.declared.node.NodeInfo.{NodeInfo}
use Rattle.tree_index.specs.declared.node.At.{At}
use Rattle.tree_index.specs.declared.node.At.TheVariants.{Node, Nowhere, Moved}
use Rattle.tree_index.specs.declared.node.Target.{Target}
use Rattle.tree_index.specs.Depends.{kinds, is_needed, leads_to, numbers_of, edge_to, edges_by, edges_from, edges_of, reaches_node}
use Rattle.tree_index.specs.Facts.{IsAtWithin, AreWithin}
use Rattle.tree_index.specs.Index.{IndexView}
use Rattle.tree_index.proofs.Lists.{all_weaker}
use Rattle.plan_maker.specs.Edges.{AreNeeded}
use Rattle.plan_maker.specs.Nodes.{AreNodes}
use Rattle.dep_graph.specs.Reached.{reach, is_reached, IsReach, IsClosed}
use Rattle.plan_maker.specs.Needed.{node_number, edge_of, needs_of, needs}

-- ---- one target

leads_of : (n : ℕ) (kind : DepKind) (at : At) (targets_now : List Target) (target : Target) → target.at ≡ at → target.kind ≡ kind → leads_to n at ≡ true → edge_of target ≡ Some (edge_to kind n)
leads_of n kind (Node m) ts target e k h =
    let same : n ≡ m = eqb-true n m h in
    (λ i. option_map (edge_to (k i)) (node_number (e i))) ∙ ap (λ x. Some (edge_to kind x)) (sym same)
leads_of n kind (Nowhere name) ts target e k h = absurd (cc)
leads_of n kind (Moved old new) ts target e k h = absurd (cc)

-- the node that an edge leads to is one that a target leads to
in_needs : (kind : DepKind) (n : ℕ) (ts : List Target) (target : Target) → Contains ts target → is_needed kind n target ≡ true → Contains (targets (filter_map edge_of ts)) n
in_needs kind n ts target c h =
    let both = and_parts _ (leads_to n target.at) h in
    let edge : edge_of target ≡ Some (edge_to target.kind n) = leads_of n target.kind target.at ts target refl refl both.1 in
    contains_map (λ (e : Edge). e.to) (filter_map edge_of ts) (edge_to target.kind n) (given_filter_map edge_of ts target (edge_to target.kind n) c edge)

of_kind : (count : ℕ) (ts : List Target) (kind : DepKind) (edge : Edge) → Contains (map (edge_to kind) (numbers_of count ts kind)) edge → Contains (targets (filter_map edge_of ts)) edge.to
of_kind count ts kind edge c =
    let source : Source (edge_to kind) (numbers_of count ts kind) edge = map_contains (edge_to kind) (numbers_of count ts kind) edge c in
    let passes = filter_out_of (λ n. list_any (is_needed kind n) ts) (range_with_len 0 count) source.one source.is in
    let target : Member (is_needed kind source.one) ts = any_member (is_needed kind source.one) ts passes.1 in
    subst (λ e. Contains (targets (filter_map edge_of ts)) e.to) source.gives (in_needs kind source.one ts target.one target.is target.does)

of_kinds : (count : ℕ) (ts : List Target) (ks : List DepKind) (edge : Edge) → Contains (flat_map (λ kind. map (edge_to kind) (numbers_of count ts kind)) ks) edge → Contains (targets (filter_map edge_of ts)) edge.to
of_kinds count ts [] edge c = absurd (contains_none edge c)
of_kinds count ts (kind ∷ ks) edge c = elim (Contains-append_cases (map (edge_to kind) (numbers_of count ts kind)) (flat_map (λ kind. map (edge_to kind) (numbers_of count ts kind)) ks) edge c) [
  | inl here ↦ of_kind count ts kind edge here
  | inr more ↦ of_kinds count ts ks edge more
]

-- ---- one node

from_edges : (count : ℕ) (node : NodeInfo) (edges : List Edge) (edge : Edge) (b r : Bool) → is_some node.ignored ≡ b → list_all (λ target. reaches_node target.at) node.targets ≡ r
    → cond b (Some []) (cond r (Some (edges_by count node.targets)) None) ≡ Some edges → Contains edges edge → Contains (targets (needs_of node)) edge.to
from_edges count node edges edge true r e f h c = absurd (contains_none edge (subst (λ es. Contains es edge) (sym (same_Some [] edges h)) c))
from_edges count node edges edge false false e f h c = absurd (cc)
from_edges count node edges edge false true e f h c =
    subst (λ b. Contains (targets (cond b [] (filter_map edge_of node.targets))) edge.to) (sym e)
    (of_kinds count node.targets kinds edge (subst (λ es. Contains es edge) (sym (same_Some (edges_by count node.targets) edges h)) c))

at_node : (index : IndexView) (n : ℕ) (found : Option NodeInfo) (edges : List Edge) (edge : Edge) → slice_get index.nodes n ≡ found → option_and_then (edges_from (length index.nodes)) found ≡ Some edges → Contains edges edge
    → IfSome found (λ node. Contains (targets (needs_of node)) edge.to)
at_node index n None edges edge e h c = absurd (cc)
at_node index n (Some node) edges edge e h c =
    from_edges (length index.nodes) node edges edge (is_some node.ignored) (list_all (λ target. reaches_node target.at) node.targets) refl refl h c

needs_at : (nodes : List NodeInfo) (n : ℕ) (node : NodeInfo) → slice_get nodes n ≡ Some node → get_or (map needs_of nodes) n [] ≡ needs_of node
needs_at nodes n node e =
    elim (cases_lt n (length nodes)) [
      | inl l ↦ get_or-map needs_of nodes n node [] l ∙ ap needs_of (sym (same_Some node (get_or nodes n node) (sym e ∙ slice_get-get_or nodes n node l)))
      | inr g ↦ absurd (let no : None ≡ Some node = sym (slice_get_past nodes n g) ∙ e in cc)
    ]

leading : (index : IndexView) (n : ℕ) (found : Option NodeInfo) (to : ℕ) → slice_get index.nodes n ≡ found → found ≢ None → IfSome found (λ node. Contains (targets (needs_of node)) to) → Contains (depends_at (needs index) n) to
leading index n None to e some h = absurd (some refl)
leading index n (Some node) to e some h = subst (λ es. Contains (targets es) to) (sym (needs_at index.nodes n node e)) h

some_found : (index : IndexView) (n : ℕ) (edges : List Edge) (found : Option NodeInfo) → option_and_then (edges_from (length index.nodes)) found ≡ Some edges → found ≢ None
some_found index n edges None h = absurd (cc)
some_found index n edges (Some node) h = λ e. cc

pub edge_leads : (index : IndexView) (n : ℕ) (edges : List Edge) (edge : Edge) → edges_of index n ≡ Some edges → Contains edges edge → Contains (depends_at (needs index) n) edge.to
unfolding edges_of
edge_leads index n edges edge h c =
    leading index n (slice_get index.nodes n) edge.to refl (some_found index n edges (slice_get index.nodes n) h) (at_node index n (slice_get index.nodes n) edges edge refl h c)

-- ---- what nodes lead to is within

one_within : (count : ℕ) (kind : DepKind) (at : At) (more : List Edge) → IsAtWithin count at → AllByRecursion (λ (e : Edge). e.to < count) more
    → AllByRecursion (λ (e : Edge). e.to < count) (cons_option (option_map (edge_to kind) (node_number at)) more)
one_within count kind (Node m) more w h = (w, h)
one_within count kind (Nowhere name) more w h = h
one_within count kind (Moved old new) more w h = h

within_targets : (count : ℕ) (ts : List Target) → AreWithin count ts → AllByRecursion (λ (e : Edge). e.to < count) (filter_map edge_of ts)
within_targets count [] h = tt
within_targets count (target ∷ ts) h = one_within count target.kind target.at (filter_map edge_of ts) h.0 (within_targets count ts h.1)

pub all_rec : {X : Type 0} (P : X → Type 0) (xs : List X) → AllByRecursion P xs → All P xs
all_rec P [] h = All-nil P
all_rec P (x ∷ xs) h = All-cons P x xs h.0 (all_rec P xs h.1)

within_node : (count : ℕ) (node : NodeInfo) (b : Bool) → AreWithin count node.targets → All (λ (e : Edge). e.to < count) (cond b [] (filter_map edge_of node.targets))
within_node count node true h = all_rec (λ (e : Edge). e.to < count) [] tt
within_node count node false h = all_rec (λ (e : Edge). e.to < count) (filter_map edge_of node.targets) (within_targets count node.targets h)

within_nodes : (count : ℕ) (nodes : List NodeInfo) → AllByRecursion (λ (node : NodeInfo). AreWithin count node.targets) nodes → AllByRecursion (λ es. All (λ (e : Edge). e.to < count) es) (map needs_of nodes)
within_nodes count [] h = tt
within_nodes count (node ∷ nodes) h = (within_node count node (is_some node.ignored) h.0, within_nodes count nodes h.1)

pub needs_within : (nodes : List NodeInfo) → AllByRecursion (λ (node : NodeInfo). AreWithin (length nodes) node.targets) nodes → IsWithin (length (map needs_of nodes)) (map needs_of nodes)
needs_within nodes h =
    subst (λ count. IsWithin count (map needs_of nodes)) (sym (length-map nodes needs_of)) (all_rec (λ es. All (λ (e : Edge). e.to < length nodes) es) (map needs_of nodes) (within_nodes (length nodes) nodes h))

-- numbers below a bound that pass a test are below it
filter_below : (p : ℕ → Bool) (from count : ℕ) → AllByRecursion (λ n. n < from + count) (filter p (range_with_len from count))
filter_below p from zero = tt
filter_below p from (suc count) =
    let rest : AllByRecursion (λ n. n < from + suc count) (filter p (range_with_len (from + 1) count)) =
    all_weaker (λ n. n < from + 1 + count) (λ n. n < from + suc count) (filter p (range_with_len (from + 1) count)) (λ n l. omega arith) (filter_below p (from + 1) count) in
    elim (p from) as (λ b. AllByRecursion (λ n. n < from + suc count) (cond b (from ∷ filter p (range_with_len (from + 1) count)) (filter p (range_with_len (from + 1) count)))) [
      | true ↦ (omega arith, rest)
      | false ↦ rest
    ]

pub needed_within : (index : IndexView) (wanted nodes : List ℕ) → nodes ≡ reach (needs index) wanted → AreNodes index nodes
needed_within index wanted nodes e =
    let size : length (needs index) ≡ length index.nodes = length-map index.nodes needs_of in
    subst (λ ns. AreNodes index ns) (sym e)
    (all_weaker (λ n. n < 0 + length (needs index)) (λ n. n < length index.nodes) (reach (needs index) wanted) (λ n l. omega arith)
    (filter_below (is_reached (depends_at (needs index)) (length (needs index)) wanted (length (needs index))) 0 (length (needs index))))

pub wanted_in : (index : IndexView) (wanted : List ℕ) → AreNodes index wanted → All (λ n. n < length (needs index)) wanted
wanted_in index wanted h =
    all_rec (λ n. n < length (needs index)) wanted (subst (λ count. AllByRecursion (λ n. n < count) wanted) (sym (length-map index.nodes needs_of)) h)

pub are_needed : (index : IndexView) (wanted nodes : List ℕ) → IsReach (needs index) wanted nodes → AreNodes index nodes → length nodes ≤ 6144 → AreNeeded index nodes
are_needed index wanted nodes r w l = record {
  few = omega arith;
  order = r.ascending;
  within = all_rec (λ n. n < length index.nodes) nodes w;
  closed = subst (λ count. IsClosed (depends_at (needs index)) count (has nodes)) (length-map index.nodes needs_of) r.closed;
}

pub needs_graph : (nodes : List NodeInfo) → length nodes < 2 ^ 32 → AllByRecursion (λ (node : NodeInfo). AreWithin (length nodes) node.targets) nodes → IsGraph (map needs_of nodes)
needs_graph nodes f h = record { few = subst (λ count. count < 2 ^ 32) (sym (length-map nodes needs_of)) f; within = needs_within nodes h }

pub all_taken : {X Y : Type 0} (f : X → Y) (items xs : List X) (i : ℕ) (ys : List Y) → length items ≤ i → items ≡ xs → ys ≡ map f (take i items) → ys ≡ map f xs
all_taken f items xs i ys l e h = h ∙ ap (map f) (take_all i items l ∙ e)

pub same_ok : {A E : Type 0} (a b : A) → (let r : Result A E = Ok a in r) ≡ Ok b → a ≡ b
same_ok a b e = cc e
