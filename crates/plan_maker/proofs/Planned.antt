-- A plan that is made of an outline, jobs and a base root has what every plan has.
use Rattle.std.proofs.Common.{◌≡◌, ◌∙◌, ℕ, ◌<◌, true, false, List, [], ◌∷◌, ap, sym, subst, refl, length, get_or, map, cond, arith}
use Rattle.std.specs.Prelude.{Option, Some, None, IsTrue, Contains, is_some, slice_get, bytes_eq}
use Rattle.std.specs.Option.{option_map, option_and_then, unwrap_or}
use Rattle.std.specs.List.{list_all, All, AllByRecursion, IsDistinct}
use Rattle.std.specs.Ordering.{is_lt}
use Rattle.std.specs.declared.cmp.Ordering.TheVariants.{Less}
use Rattle.std.proofs.lemmas.List.{length-map, get_or-map}
use Rattle.std.proofs.lemmas.List.Elements.{All-get_or, All-from_get_or}
use Rattle.std.proofs.lemmas.List.Kept.{AllPairs-from_increasing}
use Rattle.std.proofs.lemmas.Map.Keys.{apart_from_distinct, IsDistinct-from_apart, Less-from_sorted}
use Rattle.std.proofs.lemmas.Option.{slice_get-get_or}
use Rattle.bulk_base.specs.declared.file.FileItem.{FileItem}
use Rattle.std.proofs.lemmas.List.{get_or_default}
use Rattle.bulk_base.proofs.MapView.{order}
use Rattle.bulk_base.proofs.Members.{contains_here, contains_more}
use Rattle.bulk_model.specs.PlanFacts.{IsPlan, IsBase}
use Rattle.bulk_model.specs.PlanView.{PlanView, depends, job_at, no_job, node_at as node_of_plan}
use Rattle.bulk_model.specs.Trees.{IsOrderly, need_at}
use Rattle.bulk_model.specs.Views.{JobView, node_of_job}
use Rattle.bulk_model.specs.declared.plan.Edge.{Edge}
use Rattle.dep_graph.specs.Graphs.{has, IsGraph}
use Rattle.dep_graph.specs.Order.{is_loopless}
use Rattle.dep_graph.proofs.Members.{all_from_has}
use Rattle.dep_graph.proofs.OrderLaws.{loopless_plan}
use Rattle.dep_graph.proofs.Reaching.{target_below}
use Rattle.tree_index.specs.Depends.{edges_of, edges_by, reaches_node, edges_from as node_edges, depends_of, depend_on, name_at, package_at}
use Rattle.tree_index.specs.Facts.{IsNodeInfo}
use Rattle.tree_index.specs.Index.{IndexView}
use Rattle.tree_index.specs.declared.node.NodeInfo.{NodeInfo}
use Rattle.tree_index.proofs.Lists.{all_at}
use Rattle.plan_maker.specs.Boosts.{is_boosted}
use Rattle.plan_maker.specs.Edges.{AreNeeded}
use Rattle.plan_maker.specs.Jobs.{node_at, no_node, job_of}
use Rattle.plan_maker.specs.Nodes.{IsIndexView}
use Rattle.plan_maker.specs.Needed.{needed}
use Rattle.plan_maker.specs.Outlines.{IsOutline, plan_by}
use Rattle.plan_maker.specs.Over.{bare, IsOver}
use Rattle.plan_maker.specs.PlanEdges.{place_in, edge_in, edges_in, plan_edges}
use Rattle.plan_maker.specs.declared.outline.Outline.{Outline}
use Rattle.plan_maker.proofs.EdgeNumbers.{edge_needed, size_of_edges}
use Rattle.plan_maker.proofs.Placing.{IsPlaced, placed}

-- ---- the nodes of an index

node_within : (index : IndexView) (n : ℕ) → n < length index.nodes → slice_get index.nodes n ≡ Some (node_at index n)
node_within index n l = slice_get-get_or index.nodes n no_node l

no_edges : (index : IndexView) (n : ℕ) → n < length index.nodes → is_some (node_at index n).ignored ≡ true → unwrap_or (edges_of index n) [] ≡ []
unfolding edges_of
no_edges index n l h =
    ap (λ o. unwrap_or (option_and_then (node_edges (length index.nodes)) o) []) (node_within index n l)
    ∙ ap (λ b. unwrap_or (cond b (Some []) (rest (node_at index n))) []) h
  where
    rest : NodeInfo → Option (List Edge)
    rest node = cond (list_all (λ target. reaches_node target.at) node.targets) (Some (edges_by (length index.nodes) node.targets)) None

-- ---- a plan's jobs and those of its nodes

module _ (index : IndexView) (nodes : List ℕ) (jobs : List JobView) (bares : map bare jobs ≡ map (λ n. job_of index n []) nodes) where
  pub same_size : length jobs ≡ length nodes
  same_size = sym (length-map jobs bare) ∙ ap length bares ∙ length-map nodes (λ n. job_of index n [])

  bare_at : (k : ℕ) → k < length nodes → bare (get_or jobs k no_job) ≡ job_of index (get_or nodes k 0) []
  bare_at k l =
      let m : k < length jobs = (let size = same_size in omega arith) in
      sym (get_or-map bare jobs k no_job no_job m) ∙ ap (λ js. get_or js k no_job) bares ∙ get_or-map (λ n. job_of index n []) nodes k 0 no_job l

  pub name_of : (k : ℕ) → k < length nodes → (get_or jobs k no_job).name ≡ (node_at index (get_or nodes k 0)).desc.name
  name_of k l = ap (λ (job : JobView). job.name) (bare_at k l)

  pub depends_of_job : (k : ℕ) → k < length nodes → (get_or jobs k no_job).depends ≡ unwrap_or (depends_of index (get_or nodes k 0)) []
  depends_of_job k l = ap (λ (job : JobView). job.depends) (bare_at k l)

  pub node_name : AllByRecursion IsNodeInfo index.nodes → (k : ℕ) → k < length nodes → get_or nodes k 0 < length index.nodes → node_of_job (get_or jobs k no_job) ≡ (node_at index (get_or nodes k 0)).node
  node_name forms k l w =
      ap (λ (job : JobView). node_of_job job) (bare_at k l) ∙ sym (all_at IsNodeInfo index.nodes (get_or nodes k 0) no_node forms w).spelled

  map_name : map (λ (job : JobView). job.name) jobs ≡ map (λ n. (node_at index n).desc.name) nodes
  map_name = sym (again jobs) ∙ ap (map (λ (job : JobView). job.name)) bares ∙ over nodes
    where
      again : (js : List JobView) → map (λ (job : JobView). job.name) (map bare js) ≡ map (λ (job : JobView). job.name) js
      again [] = refl
      again (job ∷ js) = ap (λ names. job.name ∷ names) (again js)

      over : (ns : List ℕ) → map (λ (job : JobView). job.name) (map (λ n. job_of index n []) ns) ≡ map (λ n. (node_at index n).desc.name) ns
      over [] = refl
      over (n ∷ ns) = ap (λ names. (node_at index n).desc.name ∷ names) (over ns)

  pub names_apart : AreNeeded index nodes → IsDistinct bytes_eq (map (λ node. node.desc.name) index.nodes) → IsDistinct bytes_eq (map (λ (job : JobView). job.name) jobs)
  names_apart a h =
      subst (IsDistinct bytes_eq) (sym map_name)
      (IsDistinct-from_apart bytes_eq (map (λ n. (node_at index n).desc.name) nodes) (λ i j d less l.
      let size : length (map (λ n. (node_at index n).desc.name) nodes) ≡ length nodes = length-map nodes (λ n. (node_at index n).desc.name) in
      let wj : j < length nodes = omega arith in
      let wi : i < length nodes = omega arith in
      let below : get_or nodes j 0 < length index.nodes = All-get_or (λ n. n < length index.nodes) nodes j 0 wj a.within in
      let rises : get_or nodes i 0 < get_or nodes j 0 = AllPairs-from_increasing nodes a.order i j 0 less wj in
      let ei : get_or (map (λ n. (node_at index n).desc.name) nodes) i d ≡ (node_at index (get_or nodes i 0)).desc.name = get_or-map (λ n. (node_at index n).desc.name) nodes i 0 d wi in
      let ej : get_or (map (λ n. (node_at index n).desc.name) nodes) j d ≡ (node_at index (get_or nodes j 0)).desc.name = get_or-map (λ n. (node_at index n).desc.name) nodes j 0 d wj in
      (λ t. bytes_eq (ei t) (ej t)) ∙ apart_at (get_or nodes i 0) (get_or nodes j 0) h rises below))
    where
      apart_at : (m n : ℕ) → IsDistinct bytes_eq (map (λ node. node.desc.name) index.nodes) → m < n → n < length index.nodes → bytes_eq (node_at index m).desc.name (node_at index n).desc.name ≡ false
      apart_at m n h less l =
          let size : length (map (λ node. node.desc.name) index.nodes) ≡ length index.nodes = length-map index.nodes (λ node. node.desc.name) in
          let em : get_or (map (λ node. node.desc.name) index.nodes) m [] ≡ (node_at index m).desc.name = get_or-map (λ node. node.desc.name) index.nodes m no_node [] (omega arith) in
          let en : get_or (map (λ node. node.desc.name) index.nodes) n [] ≡ (node_at index n).desc.name = get_or-map (λ node. node.desc.name) index.nodes n no_node [] l in
          (λ t. bytes_eq (sym em t) (sym en t)) ∙ apart_from_distinct bytes_eq (map (λ node. node.desc.name) index.nodes) m n [] h less (omega arith)

-- ---- the edges of an outline

module _ (index : IndexView) (nodes : List ℕ) (a : AreNeeded index nodes) where
  pub below : (k : ℕ) → k < length nodes → get_or nodes k 0 < length index.nodes
  below k l = All-get_or (λ n. n < length index.nodes) nodes k 0 l a.within

  pub edges_here : (k : ℕ) → k < length nodes → get_or (plan_edges index nodes) k [] ≡ edges_in index nodes (get_or nodes k 0)
  unfolding plan_edges
  edges_here k l = get_or-map (edges_in index nodes) nodes k 0 [] l

  pub none_where_ignored : (k : ℕ) → k < length nodes → is_some (node_at index (get_or nodes k 0)).ignored ≡ true → map (λ (edge : Edge). edge.to) (get_or (plan_edges index nodes) k []) ≡ []
  none_where_ignored k l h =
      ap (map (λ (edge : Edge). edge.to)) (edges_here k l ∙ ap (map (edge_in nodes)) (no_edges index (get_or nodes k 0) (below k l) h))

  pub all_placed : (wanted : List ℕ) → All (λ n. IsTrue (has nodes n)) wanted → All (λ n. n < length nodes) (map (place_in nodes) wanted)
  all_placed wanted h =
      All-from_get_or (λ n. n < length nodes) (map (place_in nodes) wanted) 0 (λ i l.
      let size : length (map (place_in nodes) wanted) ≡ length wanted = length-map wanted (place_in nodes) in
      let w : i < length wanted = omega arith in
      subst (λ n. n < length nodes) (sym (get_or-map (place_in nodes) wanted i 0 0 w)) (placed nodes (get_or wanted i 0) a.order (All-get_or (λ n. IsTrue (has nodes n)) wanted i 0 w h)).within)

-- ---- every plan

pub plan_form : (index : IndexView) (wanted boost : List ℕ) (outline : Outline) (jobs : List JobView) (base : List FileItem) → IsIndexView index → IsOutline index wanted boost outline
    → map bare jobs ≡ map (λ n. job_of index n []) outline.nodes → IsBase base → IsPlan (plan_by outline jobs base)
plan_form index wanted boost outline jobs base i o b base_form =
    let nodes : List ℕ = needed index wanted in
    let a : AreNeeded index nodes = o.reach in
    let bares : map bare jobs ≡ map (λ n. job_of index n []) nodes = b ∙ ap (map (λ n. job_of index n [])) o.nodes in
    let size : length jobs ≡ length nodes = same_size index nodes jobs bares in
    let edges : length outline.edges ≡ length jobs = ap length o.edges ∙ size_of_edges index nodes ∙ sym size in
    record {
      few = (let f = a.few in omega arith);
      edges = edges;
      ignored = ap length o.ignored ∙ length-map nodes (λ n. (node_at index n).ignored) ∙ sym size;
      boosted = ap length o.marks ∙ length-map nodes (λ n. is_boosted boost (node_at index n).desc.name) ∙ sym size;
      targets = λ n l. all_from_has (λ to. to < length jobs) (depends (plan_by outline jobs base) n) (λ to h.
          let graph : IsGraph outline.edges = subst IsGraph (sym o.edges) o.graph in
          let w : to < length outline.edges = target_below (length outline.edges) outline.edges n to graph.within h in
          omega arith);
      without = λ n l h.
          let k : n < length nodes = omega arith in
          ap (λ es. map (λ (edge : Edge). edge.to) (get_or es n [])) o.edges
          ∙ none_where_ignored index nodes a n k (ap is_some (sym (get_or-map (λ m. (node_at index m).ignored) nodes n 0 None k) ∙ ap (λ is. get_or is n None) (sym o.ignored)) ∙ h);
      loopless = loopless_plan (plan_by outline jobs base) edges ∙ ap is_loopless o.edges ∙ o.loopless;
      wanted = subst (All (λ n. n < length jobs)) (sym o.places) (subst (λ count. All (λ n. n < count) (map (place_in nodes) wanted)) (sym size) (all_placed index nodes a wanted o.begun));
      names = names_apart index nodes jobs bares a i.tree.apart;
      base = base_form;
    }

pub plan_over : (index : IndexView) (wanted boost : List ℕ) (outline : Outline) (jobs : List JobView) (base : List FileItem) → IsOutline index wanted boost outline
    → map bare jobs ≡ map (λ n. job_of index n []) outline.nodes → IsOver index wanted (plan_by outline jobs base)
plan_over index wanted boost outline jobs base o b = record {
  jobs = b ∙ ap (map (λ n. job_of index n [])) o.nodes;
  edges = o.edges;
  ignored = o.ignored;
  places = o.places;
}

-- ---- the order of a plan's nodes, and what its edges stand for

map_map_agree : {X Y Z : Type 0} (f : Y → Z) (g : X → Y) (h : X → Z) (xs : List X) → ((x : X) → Contains xs x → f (g x) ≡ h x) → map f (map g xs) ≡ map h xs
map_map_agree f g h [] e = refl
map_map_agree f g h (x ∷ xs) e = (λ i. e x (contains_here x xs) i ∷ map_map_agree f g h xs (λ y c. e y (contains_more x xs y c)) i)

module _ (index : IndexView) (nodes : List ℕ) (plan : PlanView) (i : IsIndexView index) (a : AreNeeded index nodes) (bares : map bare plan.jobs ≡ map (λ n. job_of index n []) nodes)
    (edges : plan.edges ≡ plan_edges index nodes) where
  named : (k : ℕ) → k < length nodes → node_of_plan plan k ≡ (node_at index (get_or nodes k 0)).node
  named k l = node_name index nodes plan.jobs bares i.tree.forms k l (below index nodes a k l)

  read_node : (n : ℕ) → n < length index.nodes → get_or (map (λ node. node.node) index.nodes) n [] ≡ (node_at index n).node
  read_node n l = get_or-map (λ node. node.node) index.nodes n no_node [] l

  read_package : (n : ℕ) → n < length index.nodes → get_or (map (λ node. node.desc.name) index.nodes) n [] ≡ (node_at index n).desc.name
  read_package n l = get_or-map (λ node. node.desc.name) index.nodes n no_node [] l

  in_order : (k m : ℕ) → k < m → m < length plan.jobs → IsTrue (is_lt (order (node_of_plan plan k) (node_of_plan plan m)))
  in_order k m less l =
      let size : length plan.jobs ≡ length nodes = same_size index nodes plan.jobs bares in
      let wm : m < length nodes = omega arith in
      let wk : k < length nodes = omega arith in
      let below_m : get_or nodes m 0 < length index.nodes = below index nodes a m wm in
      let below_k : get_or nodes k 0 < length index.nodes = below index nodes a k wk in
      let rises : get_or nodes k 0 < get_or nodes m 0 = AllPairs-from_increasing nodes a.order k m 0 less wm in
      let sizes : length (map (λ node. node.node) index.nodes) ≡ length index.nodes = length-map index.nodes (λ node. node.node) in
      let sorted : order (get_or (map (λ node. node.node) index.nodes) (get_or nodes k 0) []) (get_or (map (λ node. node.node) index.nodes) (get_or nodes m 0) []) ≡ Less =
      Less-from_sorted order (map (λ node. node.node) index.nodes) (get_or nodes k 0) (get_or nodes m 0) [] i.tree.order rises (omega arith) in
      ap is_lt ((λ t. order (named k wk t) (named m wm t)) ∙ (λ t. order (sym (read_node (get_or nodes k 0) below_k) t) (sym (read_node (get_or nodes m 0) below_m) t)) ∙ sorted)

  one_need : (n : ℕ) (es : List Edge) (edge : Edge) → Contains nodes n → edges_of index n ≡ Some es → Contains es edge → need_at plan (edge_in nodes edge) ≡ depend_on index.nodes edge
  one_need n es edge c e d =
      let p : IsPlaced nodes edge.to = placed nodes edge.to a.order (edge_needed index nodes n es edge a c e d) in
      let l : edge.to < length index.nodes = subst (λ k. k < length index.nodes) p.is (below index nodes a (place_in nodes edge.to) p.within) in
      let node : node_of_plan plan (place_in nodes edge.to) ≡ name_at index.nodes edge.to =
      named (place_in nodes edge.to) p.within ∙ ap (λ k. (node_at index k).node) p.is ∙ sym (read_node edge.to l) in
      let name : (job_at plan (place_in nodes edge.to)).name ≡ package_at index.nodes edge.to =
      name_of index nodes plan.jobs bares (place_in nodes edge.to) p.within ∙ ap (λ k. (node_at index k).desc.name) p.is ∙ sym (read_package edge.to l) in
      (λ t. record { kind = edge.kind; node = node t; name = name t })

  all_needs : (n : ℕ) (found : Option (List Edge)) → Contains nodes n → edges_of index n ≡ found
      → map (need_at plan) (map (edge_in nodes) (unwrap_or found [])) ≡ unwrap_or (option_map (map (depend_on index.nodes)) found) []
  all_needs n None c e = refl
  all_needs n (Some es) c e = map_map_agree (need_at plan) (edge_in nodes) (depend_on index.nodes) es (λ edge d. one_need n es edge c e d)

  needs_here : (k : ℕ) → k < length nodes → map (need_at plan) (get_or plan.edges k []) ≡ (job_at plan k).depends
  unfolding depends_of
  needs_here k l =
      let n : ℕ = get_or nodes k 0 in
      ap (λ es. map (need_at plan) (get_or es k [])) edges ∙ ap (map (need_at plan)) (edges_here index nodes a k l)
      ∙ all_needs n (edges_of index n) (k, l, get_or_default nodes k n 0 l) refl ∙ sym (depends_of_job index nodes plan.jobs bares k l)

  pub orderly : IsOrderly plan
  orderly = record {
    order = λ k m less l. in_order k m less l;
    needs = λ k l h. needs_here k (let size : length plan.jobs ≡ length nodes = same_size index nodes plan.jobs bares in omega arith);
  }

pub plan_orderly : (index : IndexView) (wanted boost : List ℕ) (outline : Outline) (jobs : List JobView) (base : List FileItem) → IsIndexView index → IsOutline index wanted boost outline
    → map bare jobs ≡ map (λ n. job_of index n []) outline.nodes → IsOrderly (plan_by outline jobs base)
plan_orderly index wanted boost outline jobs base i o b =
    orderly index (needed index wanted) (plan_by outline jobs base) i o.reach (b ∙ ap (map (λ n. job_of index n [])) o.nodes) o.edges
