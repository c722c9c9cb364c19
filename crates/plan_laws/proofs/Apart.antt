-- No two nodes of an index have one name, and no two have packages of one name.
use Rattle.std.proofs.Common.{◌≡◌, ◌∙◌, ℕ, ◌<◌, false, List, [], length, map, get_or, ap, sym, arith, inl, inr, ◌⊎◌}
use Rattle.std.specs.Prelude.{bytes_eq}
use Rattle.std.specs.Ordering.{nat_cmp, is_eq}
use Rattle.std.specs.declared.cmp.Ordering.TheVariants.{Less}
use Rattle.std.specs.Cmp.{eq_by_cmp_equiv}
use Rattle.std.specs.Cmp.Lexicographic.{slice_cmp, nat_list_cmp_total}
use Rattle.std.proofs.lemmas.Bool.{true≢false, cases_order}
use Rattle.std.proofs.lemmas.List.{get_or-map, length-map}
use Rattle.std.proofs.lemmas.Map.Keys.{Less-from_sorted, apart_from_distinct}
use Rattle.std.proofs.lemmas.Slice.Eq.{bytes_eq-Decides}
use Rattle.plan_maker.specs.Jobs.{no_node, node_at}
use Rattle.plan_maker.specs.Nodes.{IsIndexView}
use Rattle.tree_index.specs.Index.{IndexView}
use Rattle.tree_index.specs.declared.node.NodeInfo.{NodeInfo}

one_number : (size : ℕ) (same : ℕ → ℕ → Type 0) → ((m k : ℕ) → m < k → k < size → same m k → ⊥) → ((m k : ℕ) → same m k → same k m)
    → (m k : ℕ) → m < size → k < size → same m k → (m ≡ k) ⊎ ((m < k) ⊎ (k < m)) → m ≡ k
one_number size same apart turned m k lm lk s (inl is) = is
one_number size same apart turned m k lm lk s (inr (inl less)) = absurd (apart m k less lk s)
one_number size same apart turned m k lm lk s (inr (inr more)) = absurd (apart k m more lm (turned m k s))

module _ (index : IndexView) (form : IsIndexView index) where
  named : ℕ → List ℕ
  named n = (node_at index n).node

  apart : (m k : ℕ) → m < k → k < length index.nodes → named m ≡ named k → ⊥
  unfolding named
  apart m k l lk same =
      let names : List (List ℕ) = map (λ (node : NodeInfo). node.node) index.nodes in
      let size : length names ≡ length index.nodes = length-map index.nodes (λ (node : NodeInfo). node.node) in
      let less : slice_cmp nat_cmp (get_or names m []) (get_or names k []) ≡ Less = Less-from_sorted (slice_cmp nat_cmp) names m k [] form.tree.order l (omega arith) in
      let at_m : get_or names m [] ≡ named m = get_or-map (λ (node : NodeInfo). node.node) index.nodes m no_node [] (omega arith) in
      let at_k : get_or names k [] ≡ named k = get_or-map (λ (node : NodeInfo). node.node) index.nodes k no_node [] lk in
      let one : get_or names m [] ≡ get_or names k [] = at_m ∙ same ∙ sym at_k in
      true≢false (sym ((eq_by_cmp_equiv nat_list_cmp_total).refl (get_or names k [])) ∙ ap (λ x. is_eq (slice_cmp nat_cmp x (get_or names k []))) (sym one) ∙ ap is_eq less)

  pub one_node : (m k : ℕ) → m < length index.nodes → k < length index.nodes → (node_at index m).node ≡ (node_at index k).node → m ≡ k
  unfolding named
  one_node m k lm lk same = one_number (length index.nodes) (λ i j. named i ≡ named j) apart (λ i j e. sym e) m k lm lk same (cases_order m k)

  packaged : ℕ → List ℕ
  packaged n = (node_at index n).desc.name

  packages_apart : (m k : ℕ) → m < k → k < length index.nodes → packaged m ≡ packaged k → ⊥
  unfolding packaged
  packages_apart m k l lk same =
      let names : List (List ℕ) = map (λ (node : NodeInfo). node.desc.name) index.nodes in
      let size : length names ≡ length index.nodes = length-map index.nodes (λ (node : NodeInfo). node.desc.name) in
      let at_m : get_or names m [] ≡ packaged m = get_or-map (λ (node : NodeInfo). node.desc.name) index.nodes m no_node [] (omega arith) in
      let at_k : get_or names k [] ≡ packaged k = get_or-map (λ (node : NodeInfo). node.desc.name) index.nodes k no_node [] lk in
      let differ : bytes_eq (get_or names m []) (get_or names k []) ≡ false = apart_from_distinct bytes_eq names m k [] form.tree.apart l (omega arith) in
      true≢false (sym ((bytes_eq-Decides (get_or names m []) (get_or names k [])).1 (at_m ∙ same ∙ sym at_k)) ∙ differ)

  pub one_package : (m k : ℕ) → m < length index.nodes → k < length index.nodes → (node_at index m).desc.name ≡ (node_at index k).desc.name → m ≡ k
  unfolding packaged
  one_package m k lm lk same = one_number (length index.nodes) (λ i j. packaged i ≡ packaged j) packages_apart (λ i j e. sym e) m k lm lk same (cases_order m k)
