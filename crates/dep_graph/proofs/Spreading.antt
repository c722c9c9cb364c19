-- What the loop keeps that goes from node to node.
use Rattle.std.proofs.Common.{◌≡◌, ℕ, suc, ◌+◌, ◌<◌, ◌≤◌, true, List, length, get_or, ap, sym, subst, ◌∙◌, arith, inl, inr, ◌⊎◌, Some}
use Rattle.std.specs.List.{All, slice_get}
use Rattle.std.proofs.lemmas.Bool.{or_left, or_right, cases_lt}
use Rattle.std.proofs.lemmas.List.Elements.{All-weaker}
use Rattle.dep_graph.specs.Graphs.{has}
use Rattle.dep_graph.specs.Reached.{is_reached}
use Rattle.dep_graph.specs.Found.{FoundView, Spreads, with_nodes, found_with}
use Rattle.dep_graph.proofs.Members.{has_at, all_from_has, Place, place_of, same_bool, got}
use Rattle.dep_graph.proofs.Extending.{Extends, extended}
use Rattle.dep_graph.proofs.Rounds.{rounds_upto, round_adds, stays_within}

abbrev HasAll : List ℕ → List ℕ → Type 0
HasAll nodes numbers = All (λ d. has nodes d ≡ true) numbers

-- the nodes before a place led to found ones, and a node is reached in as many rounds as its place says
pub record SoFar (leads : ℕ → List ℕ) (count : ℕ) (first : List ℕ) (at : ℕ) (nodes : List ℕ) : Type 0 where
  pub closed : (i : ℕ) → i < at → HasAll nodes (leads (get_or nodes i 0))
  pub begun : (n : ℕ) → has first n ≡ true → has nodes n ≡ true
  pub rounds : (from : List ℕ) → ((n : ℕ) → has first n ≡ has from n) → (i : ℕ) → i < length nodes → is_reached leads count from i (get_or nodes i 0) ≡ true
  pub inside : at ≤ length nodes

module _ (leads : ℕ → List ℕ) (count : ℕ) (first : List ℕ) where
  pub spread_begin : SoFar leads count first 0 first
  spread_begin = record {
    closed = λ i l. absurd (omega arith);
    begun = λ n h. h;
    rounds = λ from same i l. rounds_upto leads count from 0 i (get_or first i 0) (omega arith) (sym (same (get_or first i 0)) ∙ has_at first i l);
    inside = omega arith;
  }

  grown : (nodes more after : List ℕ) → Extends nodes more after → (numbers : List ℕ) → HasAll nodes numbers → HasAll after numbers
  grown nodes more after e numbers all =
      All-weaker (λ d. has nodes d ≡ true) (λ d. has after d ≡ true) (λ d h. e.holds d ∙ or_left (has nodes d) (has more d) h) numbers all

  closed_case : (at i : ℕ) (nodes after : List ℕ) → at < length nodes → Extends nodes (leads (get_or nodes at 0)) after → SoFar leads count first at nodes
      → i < at + 1 → (i < at) ⊎ (at ≤ i) → HasAll after (leads (get_or after i 0))
  closed_case at i nodes after l e so_far h (inl before) =
      subst (λ x. HasAll after (leads x)) (sym (e.same i (omega arith))) (grown nodes (leads (get_or nodes at 0)) after e (leads (get_or nodes i 0)) (so_far.closed i before))
  closed_case at i nodes after l e so_far h (inr here) =
      let same : i ≡ at = omega arith in
      subst (λ x. HasAll after (leads (get_or after x 0))) (sym same)
      (subst (λ x. HasAll after (leads x)) (sym (e.same at l))
      (all_from_has (λ d. has after d ≡ true) (leads (get_or nodes at 0)) (λ d t. e.holds d ∙ or_right (has nodes d) (has (leads (get_or nodes at 0)) d) t)))

  round_case : (at i : ℕ) (nodes after from : List ℕ) → at < length nodes → get_or nodes at 0 < count → Extends nodes (leads (get_or nodes at 0)) after → SoFar leads count first at nodes
      → ((n : ℕ) → has first n ≡ has from n) → i < length after → (i < length nodes) ⊎ (length nodes ≤ i) → is_reached leads count from i (get_or after i 0) ≡ true
  round_case at i nodes after from l node e so_far same h (inl early) =
      subst (λ x. is_reached leads count from i x ≡ true) (sym (e.same i early)) (so_far.rounds from same i early)
  round_case at i nodes after from l node e so_far same h (inr late) =
      rounds_upto leads count from (suc at) i (get_or after i 0) (omega arith)
      (round_adds leads count from at (get_or nodes at 0) (get_or after i 0) node (so_far.rounds from same at l) (e.fresh i late h))

  pub spread_more : (at : ℕ) (nodes after : List ℕ) → at < length nodes → get_or nodes at 0 < count → Extends nodes (leads (get_or nodes at 0)) after
      → SoFar leads count first at nodes → SoFar leads count first (at + 1) after
  spread_more at nodes after l node e so_far = record {
    closed = λ i h. closed_case at i nodes after l e so_far h (cases_lt i at);
    begun = λ n h. e.holds n ∙ or_left (has nodes n) (has (leads (get_or nodes at 0)) n) (so_far.begun n h);
    rounds = λ from same i h. round_case at i nodes after from l node e so_far same h (cases_lt i (length nodes));
    inside = (let longer : length nodes ≤ length after = e.longer in omega arith);
  }

  all_closed : (at : ℕ) (nodes : List ℕ) → length nodes ≤ at → SoFar leads count first at nodes → (n : ℕ) → has nodes n ≡ true → HasAll nodes (leads n)
  all_closed at nodes l so_far n h =
      let place : Place nodes n = place_of nodes n h in
      subst (λ x. HasAll nodes (leads x)) place.is (so_far.closed place.at (let w : place.at < length nodes = place.within in omega arith))

  found_rounds : (at : ℕ) (nodes from : List ℕ) → length nodes ≤ count → ((n : ℕ) → has first n ≡ has from n) → SoFar leads count first at nodes
      → (n : ℕ) → has nodes n ≡ true → is_reached leads count from count n ≡ true
  found_rounds at nodes from small same so_far n h =
      let place : Place nodes n = place_of nodes n h in
      let w : place.at < length nodes = place.within in
      rounds_upto leads count from place.at count n (omega arith) (subst (λ x. is_reached leads count from place.at x ≡ true) place.is (so_far.rounds from same place.at w))

  pub spread_all : (at : ℕ) (before after : FoundView) → before ≡ (let v : FoundView = record { count = count; nodes = first } in v) → after.count ≡ count → length after.nodes ≤ at → length after.nodes ≤ count
      → SoFar leads count first at after.nodes → Spreads leads before after
  spread_all at before after is size l small so_far = subst (λ b. Spreads leads b after) (sym is) (record {
    count = size;
    closed = all_closed at after.nodes l so_far;
    rounds = λ from same n h. same_bool (has after.nodes n) (is_reached leads count from count n)
        (found_rounds at after.nodes from small same so_far n)
        (stays_within leads count from (has after.nodes) (λ m t. so_far.begun m (same m ∙ t)) (λ m b t. all_closed at after.nodes l so_far m t) count n);
  })

  pub spread_on : (at node : ℕ) (before after : FoundView) (more : List ℕ) → Some node ≡ slice_get before.nodes at → node < count → more ≡ leads node → after ≡ found_with before more
      → SoFar leads count first at before.nodes → SoFar leads count first (at + 1) after.nodes
  spread_on at node before after more h l e is so_far =
      let here : (at < length before.nodes) × (get_or before.nodes at 0 ≡ node) = got before.nodes at node h in
      let grows : Extends before.nodes (leads (get_or before.nodes at 0)) after.nodes =
      subst (λ v. Extends before.nodes (leads (get_or before.nodes at 0)) v.nodes) (sym is)
      (subst (λ numbers. Extends before.nodes numbers (with_nodes before.nodes more)) (e ∙ ap leads (sym here.1)) (extended before.nodes more)) in
      spread_more at before.nodes after.nodes here.0 (subst (λ x. x < count) (sym here.1) l) grows so_far
