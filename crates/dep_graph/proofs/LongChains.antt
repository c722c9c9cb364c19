-- Chains of dependents, node by node from the end of an order.
use Rattle.std.proofs.Common.{◌≡◌, ◌≢◌, ℕ, suc, ◌+◌, ◌-◌, ◌<◌, ◌≤◌, max, Bool, true, false, List, [], ◌∷◌, ◌++◌, length, get_or, set, take, replicate, refl, ap, sym, subst, ◌∙◌, arith, cond, nat_eq, inl, inr, ◌⊎◌}
use Rattle.std.specs.List.{All, IsDistinct}
use Rattle.std.proofs.lemmas.Bool.{eq-eqb, ne_eqb, cases_lt, cases_eq, both_ways, and_parts, and_from, false_from_ne_true}
use Rattle.std.proofs.lemmas.List.{take_more, map_push, length-set, get_or-set_same, get_or-set_other, take-take, get_or_past, get_or-replicate, length-replicate}
use Rattle.std.proofs.lemmas.List.Elements.{All-get_or}
use Rattle.std.proofs.lemmas.List.Sums.{AllPass-from_list_all}
use Rattle.bulk_model.specs.declared.plan.Edge.{Edge}
use Rattle.dep_graph.specs.Graphs.{has, targets, depends_at, nodes_of, IsWithin}
use Rattle.dep_graph.specs.Order.{IsInOrder, IsLooplessPart, is_free, is_loopless}
use Rattle.dep_graph.specs.Chains.{is_chain_above, HasChain, IsLongest, Raised}
use Rattle.dep_graph.proofs.Members.{Place, place_of, has-range, all_has}
use Rattle.dep_graph.proofs.Reaching.{target_below}
use Rattle.dep_graph.proofs.Waiting.{or_none, or_one, not_before, has_first, has_pushed}

abbrev raised : Bool → ℕ → ℕ → ℕ
raised b value old = cond b (max old value) old

targets_more : (edges : List Edge) (i : ℕ) (d : Edge) → i < length edges → targets (take (i + 1) edges) ≡ targets (take i edges) ++ (get_or edges i d).to ∷ []
targets_more edges i d l = ap targets (take_more edges i d l) ∙ map_push (λ (e : Edge). e.to) (take i edges) (get_or edges i d)

-- raised at one place more
twice : (b : Bool) (value old : ℕ) → max (raised b value old) value ≡ max old value
twice true value old = omega arith
twice false value old = refl

place_case : (places : List ℕ) (value to d : ℕ) (before now after : List ℕ) → Raised places value before now → d < length before → get_or after to 0 ≡ max (get_or now to 0) value
    → ((m : ℕ) → (m ≡ to → ⊥) → get_or after m 0 ≡ get_or now m 0) → (d ≡ to) ⊎ (d ≡ to → ⊥) → get_or after d 0 ≡ raised (has (places ++ to ∷ []) d) value (get_or before d 0)
place_case places value to d before now after r l here there (inl same) =
    ap (λ x. get_or after x 0) same ∙ here ∙ ap (λ x. max (get_or now x 0) value) (sym same) ∙ ap (λ x. max x value) (r.numbers d l)
    ∙ twice (has places d) value (get_or before d 0)
    ∙ sym (ap (λ b. raised b value (get_or before d 0)) (has_pushed places d to true (eq-eqb d to same) ∙ or_one (has places d)))
place_case places value to d before now after r l here there (inr apart) =
    there d apart ∙ r.numbers d l ∙ sym (ap (λ b. raised b value (get_or before d 0)) (has_pushed places d to false (ne_eqb d to apart) ∙ or_none (has places d)))

pub raise_one : (edges : List Edge) (i : ℕ) (e : Edge) (value : ℕ) (before now after : List ℕ) → i < length edges → length after ≡ length now
    → get_or after (get_or edges i e).to 0 ≡ max (get_or now (get_or edges i e).to 0) value → ((m : ℕ) → (m ≡ (get_or edges i e).to → ⊥) → get_or after m 0 ≡ get_or now m 0)
    → Raised (targets (take i edges)) value before now → Raised (targets (take (i + 1) edges)) value before after
raise_one edges i e value before now after l size here there r = record {
  size = size ∙ r.size;
  numbers = λ d k. place_case (targets (take i edges)) value (get_or edges i e).to d before now after r k here there (cases_eq d (get_or edges i e).to)
      ∙ ap (λ places. raised (has places d) value (get_or before d 0)) (sym (targets_more edges i e l));
}

pub raise_at : (edges : List Edge) (i : ℕ) (e : Edge) (value : ℕ) (before now after : List ℕ) → i < length edges → (get_or edges i e).to < length before
    → after ≡ set now (get_or edges i e).to (max (get_or now (get_or edges i e).to 0) value)
    → Raised (targets (take i edges)) value before now → Raised (targets (take (i + 1) edges)) value before after
raise_at edges i e value before now after l b is r =
    let within : (get_or edges i e).to < length now = (let s : length now ≡ length before = r.size in omega arith) in
    raise_one edges i e value before now after l
    (ap length is ∙ length-set now (get_or edges i e).to (max (get_or now (get_or edges i e).to 0) value))
    (ap (λ xs. get_or xs (get_or edges i e).to 0) is ∙ get_or-set_same now (get_or edges i e).to (max (get_or now (get_or edges i e).to 0) value) 0 within)
    (λ m apart. ap (λ xs. get_or xs m 0) is ∙ get_or-set_other now (get_or edges i e).to m (max (get_or now (get_or edges i e).to 0) value) 0 apart) r

-- a node of an order is not among those before it
pub not_in_front : (order : List ℕ) (k i : ℕ) → IsDistinct nat_eq order → k ≤ i → i < length order → has (take k order) (get_or order i 0) ≡ false
not_in_front order k i once before l =
    false_from_ne_true (has (take k order) (get_or order i 0)) (λ h.
    both_ways (has (take i order) (get_or order i 0)) (not_before order i once l)
    (has_first k (take i order) (get_or order i 0) (ap (λ xs. has xs (get_or order i 0)) (take-take k i order before) ∙ h)))

module _ (graph : List (List Edge)) (order : List ℕ) where
  -- the last nodes of the order gave all that is below them its length
  pub record LengthsSoFar (done : ℕ) (lengths : List ℕ) : Type 0 where
    pub size : length lengths ≡ length graph
    pub few : (d : ℕ) → d < length graph → get_or lengths d 0 ≤ done
    pub found : (d : ℕ) → d < length graph → HasChain graph d (get_or lengths d 0)
    pub below : (i : ℕ) → length order ≤ i + done → i < length order → (d : ℕ) → has (depends_at graph (get_or order i 0)) d ≡ true → get_or lengths (get_or order i 0) 0 + 1 ≤ get_or lengths d 0

  chain_case : (node d : ℕ) (old value : ℕ) → HasChain graph d old → HasChain graph node (value - 1) → 0 < value → (b : Bool) → has (depends_at graph node) d ≡ b → (old < value) ⊎ (value ≤ old) → HasChain graph d (raised b value old)
  chain_case node d old value h g some false e which = h
  chain_case node d old value h g some true e (inl less) =
      subst (HasChain graph d) (let m : value ≡ max old value = omega arith in m)
      (node ∷ g.0, and_from (has (depends_at graph node) d) (is_chain_above graph node g.0) e g.1, (let size : length g.0 ≡ value - 1 = g.2 in let s : suc (length g.0) ≡ value = omega arith in s))
  chain_case node d old value h g some true e (inr more) = subst (HasChain graph d) (let m : old ≡ max old value = omega arith in m) h

  at_least : (b : Bool) (value old : ℕ) → old ≤ raised b value old
  at_least true value old = omega arith
  at_least false value old = omega arith

  at_most_one : (b : Bool) (value old done : ℕ) → old ≤ done → value ≤ done + 1 → raised b value old ≤ done + 1
  at_most_one true value old done h k = omega arith
  at_most_one false value old done h k = omega arith

  -- what is not below the node keeps its number
  unraised : (k i value : ℕ) (before after : List ℕ) → IsInOrder graph order → k ≤ i → i < length order → (x : ℕ) → get_or order k 0 ≡ x → Raised (depends_at graph x) value before after → {done : ℕ} → LengthsSoFar done before
      → get_or after (get_or order i 0) 0 ≡ get_or before (get_or order i 0) 0
  unraised k i value before after o b l x is r so_far =
      let node : get_or order i 0 < length graph = All-get_or (λ n. n < length graph) order i 0 l o.nodes in
      let out : has (depends_at graph x) (get_or order i 0) ≡ false =
      false_from_ne_true (has (depends_at graph x) (get_or order i 0)) (λ h.
      both_ways (has (take k order) (get_or order i 0)) (not_in_front order k i o.once b l)
      (all_has (λ d. has (take k order) d ≡ true) (depends_at graph x) (get_or order i 0)
      (subst (λ n. All (λ d. has (take k order) d ≡ true) (depends_at graph n)) is (o.behind k (omega arith))) h)) in
      r.numbers (get_or order i 0) (let s : length before ≡ length graph = so_far.size in omega arith)
      ∙ ap (λ b. raised b value (get_or before (get_or order i 0) 0)) out

  from_k : (k i done : ℕ) → k + done + 1 ≡ length order → length order ≤ i + (done + 1) → (i ≡ k) ⊎ (i ≡ k → ⊥) → (i ≡ k) ⊎ (k < i)
  from_k k i done e b (inl same) = inl same
  from_k k i done e b (inr apart) = inr (let ne : i ≢ k = apart in omega arith)

  zero_at : (lengths : List ℕ) (d : ℕ) → lengths ≡ replicate (length graph) 0 → d < length graph → get_or lengths d 0 ≡ 0
  zero_at lengths d e l = ap (λ xs. get_or xs d 0) e ∙ get_or-replicate (length graph) d 0 0 l

  source_below : (m n : ℕ) → has (depends_at graph m) n ≡ true → (m < length graph) ⊎ (length graph ≤ m) → m < length graph
  source_below m n h (inl l) = l
  source_below m n h (inr past) = absurd (let no : has (targets []) n ≡ true = ap (λ edges. has (targets edges) n) (sym (get_or_past graph m [] past)) ∙ h in cc)

  step_below : (done k i d value : ℕ) (before after : List ℕ) → IsInOrder graph order → k + done + 1 ≡ length order → (x : ℕ) → get_or order k 0 ≡ x → value ≡ get_or before x 0 + 1 → IsWithin (length graph) graph
      → Raised (depends_at graph x) value before after → LengthsSoFar done before → i < length order → has (depends_at graph (get_or order i 0)) d ≡ true → (i ≡ k) ⊎ (k < i)
      → get_or after (get_or order i 0) 0 + 1 ≤ get_or after d 0
  step_below done k i d value before after o e x is v within r so_far l h (inl same) =
      let node : get_or order i 0 ≡ x = ap (λ j. get_or order j 0) same ∙ is in
      let below : d < length before = (let b : d < length graph = target_below (length graph) graph (get_or order i 0) d within h in let s : length before ≡ length graph = so_far.size in omega arith) in
      let in_x : has (depends_at graph x) d ≡ true = subst (λ n. has (depends_at graph n) d ≡ true) node h in
      let of_d : get_or after d 0 ≡ max (get_or before d 0) value = r.numbers d below ∙ ap (λ b. raised b value (get_or before d 0)) in_x in
      let of_x : get_or after (get_or order i 0) 0 ≡ get_or before x 0 = unraised k i value before after o (omega arith) l x is r so_far ∙ ap (λ n. get_or before n 0) node in
      omega arith
  step_below done k i d value before after o e x is v within r so_far l h (inr later) =
      let below : d < length before = (let b : d < length graph = target_below (length graph) graph (get_or order i 0) d within h in let s : length before ≡ length graph = so_far.size in omega arith) in
      let of_d : get_or after d 0 ≡ raised (has (depends_at graph x) d) value (get_or before d 0) = r.numbers d below in
      let more : get_or before d 0 ≤ raised (has (depends_at graph x) d) value (get_or before d 0) = at_least (has (depends_at graph x) d) value (get_or before d 0) in
      let of_x : get_or after (get_or order i 0) 0 ≡ get_or before (get_or order i 0) 0 = unraised k i value before after o (omega arith) l x is r so_far in
      let was : get_or before (get_or order i 0) 0 + 1 ≤ get_or before d 0 = so_far.below i (omega arith) l d h in
      omega arith

  pub lengths_more : (done k x value : ℕ) (before after : List ℕ) → IsInOrder graph order → k + done + 1 ≡ length order → get_or order k 0 ≡ x → value ≡ get_or before x 0 + 1 → IsWithin (length graph) graph
      → Raised (depends_at graph x) value before after → LengthsSoFar done before → LengthsSoFar (done + 1) after
  lengths_more done k x value before after o e is v within r so_far =
      let node : x < length graph = subst (λ n. n < length graph) is (All-get_or (λ n. n < length graph) order k 0 (omega arith) o.nodes) in
      record {
        size = r.size ∙ so_far.size;
        few = λ d l.
            let here : get_or after d 0 ≡ raised (has (depends_at graph x) d) value (get_or before d 0) = r.numbers d (let s : length before ≡ length graph = so_far.size in omega arith) in
            let few_x : get_or before x 0 ≤ done = so_far.few x node in
            let few_d : raised (has (depends_at graph x) d) value (get_or before d 0) ≤ done + 1 = at_most_one (has (depends_at graph x) d) value (get_or before d 0) done (so_far.few d l) (omega arith) in
            omega arith;
        found = λ d l.
            subst (HasChain graph d) (sym (r.numbers d (let s : length before ≡ length graph = so_far.size in omega arith)))
            (chain_case x d (get_or before d 0) value (so_far.found d l) (subst (HasChain graph x) (let m : get_or before x 0 ≡ value - 1 = omega arith in m) (so_far.found x node)) (omega arith)
            (has (depends_at graph x) d) refl (cases_lt (get_or before d 0) value));
        below = λ i b l d h. step_below done k i d value before after o e x is v within r so_far l h (from_k k i done e b (cases_eq i k));
      }

  pub lengths_begin : (lengths : List ℕ) → lengths ≡ replicate (length graph) 0 → LengthsSoFar 0 lengths
  lengths_begin lengths e = record {
    size = ap length e ∙ length-replicate (length graph) 0;
    few = λ d l. (let z : get_or lengths d 0 ≡ 0 = zero_at lengths d e l in omega arith);
    found = λ d l. subst (HasChain graph d) (sym (zero_at lengths d e l)) ([], refl, refl);
    below = λ i b l d h. absurd (omega arith);
  }

  longest_case : (done n : ℕ) (lengths above : List ℕ) → length order ≤ done → ((m : ℕ) → m < length graph → has order m ≡ true) → LengthsSoFar done lengths → n < length graph
      → is_chain_above graph n above ≡ true → length above ≤ get_or lengths n 0
  longest_case done n lengths [] l all so_far b h = omega arith
  longest_case done n lengths (m ∷ above) l all so_far b h =
      let both : (has (depends_at graph m) n ≡ true) × (is_chain_above graph m above ≡ true) = and_parts (has (depends_at graph m) n) (is_chain_above graph m above) h in
      let node : m < length graph = source_below m n both.0 (cases_lt m (length graph)) in
      let place : Place order m = place_of order m (all m node) in
      let w : place.at < length order = place.within in
      let step : get_or lengths (get_or order place.at 0) 0 + 1 ≤ get_or lengths n 0 =
      so_far.below place.at (omega arith) w n (subst (λ x. has (depends_at graph x) n ≡ true) (sym place.is) both.0) in
      let same : get_or lengths (get_or order place.at 0) 0 ≡ get_or lengths m 0 = ap (λ x. get_or lengths x 0) place.is in
      let rest : length above ≤ get_or lengths m 0 = longest_case done m lengths above l all so_far node both.1 in
      omega arith

  pub all_longest : (done : ℕ) (lengths : List ℕ) → length order ≤ done → IsLooplessPart graph order → is_loopless graph ≡ true → LengthsSoFar done lengths
      → (n : ℕ) → n < length graph → IsLongest graph n (get_or lengths n 0)
  all_longest done lengths l p free so_far n b = record {
    found = so_far.found n b;
    most = λ above h. longest_case done n lengths above l
        (λ m t. p.free m t ∙ all_has (λ x. is_free graph x ≡ true) (nodes_of graph) m (AllPass-from_list_all (is_free graph) (nodes_of graph) free) (has-range (length graph) m t)) so_far b h;
  }
