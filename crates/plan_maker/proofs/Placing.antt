-- The numbers that nodes have in a plan.
use Rattle.std.proofs.Common.{◌≡◌, ◌∙◌, ℕ, ◌+◌, ◌<◌, ◌≤◌, true, List, ap, sym, subst, refl, length, take, get_or, arith, inl, inr}
use Rattle.std.specs.Prelude.{not, ◌==◌}
use Rattle.std.specs.Option.{unwrap_or}
use Rattle.std.specs.List.Sorted.{IsStrictlyIncreasing}
use Rattle.std.proofs.lemmas.Bool.{eq-eqb, cases_lt}
use Rattle.std.proofs.Math.ListN.{set}
use Rattle.std.proofs.lemmas.Bool.Decides.{nat_tests}
use Rattle.std.proofs.lemmas.List.{get_or-set_same, get_or-set_other, get_or-take, length-take, get_or_default}
use Rattle.std.proofs.lemmas.List.Kept.{AllPairs-from_increasing}
use Rattle.bulk_base.proofs.Members.{passes_all}
use Rattle.bulk_base.proofs.Places.{none, position_here}
use Rattle.dep_graph.specs.Graphs.{has}
use Rattle.dep_graph.proofs.Members.{Place, place_of}
use Rattle.plan_maker.specs.PlanEdges.{place_in}

apart : (a b : ℕ) → a < b → not (a == b) ≡ true
apart a b l = grind (arith, nat_tests)

-- no node before one is that one
none_before : (nodes : List ℕ) (k : ℕ) → IsStrictlyIncreasing nodes → k < length nodes → none (λ node. node == get_or nodes k 0) (take k nodes) ≡ true
none_before nodes k o l =
    passes_all (λ node. not (node == get_or nodes k 0)) (take k nodes) (λ x c.
    let j : ℕ = c.0 in
    let below : j < length (take k nodes) = c.1 in
    let size : length (take k nodes) ≡ k = omega (arith, length-take k nodes) in
    let is : get_or nodes j x ≡ x = sym (get_or-take k nodes j x (omega arith)) ∙ c.2 in
    let less : get_or nodes j 0 < get_or nodes k 0 = AllPairs-from_increasing nodes o j k 0 (omega arith) l in
    let same : get_or nodes j 0 ≡ x = sym (get_or_default nodes j x 0 (omega arith)) ∙ is in
    apart x (get_or nodes k 0) (subst (λ y. y < get_or nodes k 0) same less))

-- the number of the node at a place is that place
pub place_at : (nodes : List ℕ) (k : ℕ) → IsStrictlyIncreasing nodes → k < length nodes → place_in nodes (get_or nodes k 0) ≡ k
place_at nodes k o l =
    ap (λ p. unwrap_or p 0)
    (position_here (λ node. node == get_or nodes k 0) nodes k (get_or nodes k 0) l (sym (get_or_default nodes k (get_or nodes k 0) 0 l)) (none_before nodes k o l) (eq-eqb (get_or nodes k 0) (get_or nodes k 0) refl))

pub record IsPlaced (nodes : List ℕ) (n : ℕ) : Type 0 where
  pub within : place_in nodes n < length nodes
  pub is : get_or nodes (place_in nodes n) 0 ≡ n

pub placed : (nodes : List ℕ) (n : ℕ) → IsStrictlyIncreasing nodes → has nodes n ≡ true → IsPlaced nodes n
placed nodes n o h =
    let p : Place nodes n = place_of nodes n h in
    let e : place_in nodes n ≡ p.at = ap (place_in nodes) (sym p.is) ∙ place_at nodes p.at o p.within in
    record { within = subst (λ k. k < length nodes) (sym e) p.within; is = ap (λ k. get_or nodes k 0) e ∙ p.is }

-- numbers that are written one after another
pub numbered_more : (places now : List ℕ) (nodes : List ℕ) (at : ℕ) → IsStrictlyIncreasing nodes → at < length nodes → get_or nodes at 0 < length places → now ≡ set places (get_or nodes at 0) at
    → ((k : ℕ) → k < at → get_or places (get_or nodes k 0) 0 ≡ k) → (k : ℕ) → k < at + 1 → get_or now (get_or nodes k 0) 0 ≡ k
numbered_more places now nodes at o l w e so_far k m =
    elim (cases_lt k at) [
      | inl less ↦
          let below : get_or nodes k 0 < get_or nodes at 0 = AllPairs-from_increasing nodes o k at 0 less l in
          ap (λ ps. get_or ps (get_or nodes k 0) 0) e ∙ get_or-set_other places (get_or nodes at 0) (get_or nodes k 0) at 0 (omega arith) ∙ so_far k less
      | inr more ↦
          let same : k ≡ at = omega arith in
          ap (λ ps. get_or ps (get_or nodes k 0) 0) e ∙ ap (λ j. get_or (set places (get_or nodes at 0) at) (get_or nodes j 0) 0) same
          ∙ get_or-set_same places (get_or nodes at 0) at 0 w ∙ sym same
    ]

pub numbers_are : (places nodes : List ℕ) (at : ℕ) → IsStrictlyIncreasing nodes → length nodes ≤ at → ((k : ℕ) → k < at → get_or places (get_or nodes k 0) 0 ≡ k)
    → (n : ℕ) → has nodes n ≡ true → get_or places n 0 ≡ place_in nodes n
numbers_are places nodes at o l all n h =
    let p = placed nodes n o h in
    ap (λ m. get_or places m 0) (sym p.is) ∙ all (place_in nodes n) (let w : place_in nodes n < length nodes = p.within in omega arith)
