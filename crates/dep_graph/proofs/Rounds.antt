-- Rounds that add what members lead to.
use Rattle.std.proofs.Common.{◌≡◌, ℕ, zero, suc, ◌+◌, ◌<◌, ◌≤◌, Bool, true, List, length, get_or, ◌-◌, ap, subst, ◌∙◌, arith, inl, inr, ◌⊎◌}
use Rattle.std.specs.Prelude.{◌&&◌}
use Rattle.std.specs.List.{list_any, range_with_len, Any}
use Rattle.std.proofs.lemmas.Bool.{or_left, or_right, or_cases, and_from, and_parts}
use Rattle.std.proofs.lemmas.List.Folds.{Any-from_list_any, list_any_at}
use Rattle.std.proofs.lemmas.List.FromFn.{length-range_with_len, get_or-range_with_len}
use Rattle.std.proofs.lemmas.List.{get_or_default}
use Rattle.dep_graph.specs.Graphs.{has}
use Rattle.dep_graph.specs.Reached.{is_reached, IsClosed}
use Rattle.dep_graph.proofs.Members.{has_at, below-range, all_has}

-- a test that some number below a bound passes
pub some_below : (p : ℕ → Bool) (count n : ℕ) → n < count → p n ≡ true → list_any p (range_with_len 0 count) ≡ true
some_below p count n l h =
    list_any_at p (range_with_len 0 count) n 0 (let size : length (range_with_len 0 count) ≡ count = length-range_with_len 0 count in omega arith)
    (ap p (let e : get_or (range_with_len 0 count) n 0 ≡ 0 + n = get_or-range_with_len 0 count n 0 l in omega arith) ∙ h)

pub record Passes (p : ℕ → Bool) (count : ℕ) : Type 0 where
  pub at : ℕ
  pub within : at < count
  pub does : p at ≡ true

pub passes_below : (p : ℕ → Bool) (count : ℕ) → list_any p (range_with_len 0 count) ≡ true → Passes p count
passes_below p count h =
    let found : Any (λ x. p x ≡ true) (range_with_len 0 count) = Any-from_list_any p (range_with_len 0 count) h in
    let member : has (range_with_len 0 count) found.1 ≡ true =
    subst (λ x. has (range_with_len 0 count) x ≡ true) (get_or_default (range_with_len 0 count) found.0 0 found.1 found.2 ∙ found.3) (has_at (range_with_len 0 count) found.0 found.2) in
    record { at = found.1; within = below-range count found.1 member; does = found.4 }

module _ (leads : ℕ → List ℕ) (count : ℕ) (from : List ℕ) where
  -- a round more
  pub round_more : (rounds n : ℕ) → is_reached leads count from rounds n ≡ true → is_reached leads count from (suc rounds) n ≡ true
  round_more rounds n h = or_left (is_reached leads count from rounds n) (list_any (λ member. is_reached leads count from rounds member && has (leads member) n) (range_with_len 0 count)) h

  pub rounds_more : (more rounds n : ℕ) → is_reached leads count from rounds n ≡ true → is_reached leads count from (more + rounds) n ≡ true
  rounds_more zero rounds n h = let e : rounds ≡ zero + rounds = omega arith in subst (λ r. is_reached leads count from r n ≡ true) e h
  rounds_more (suc more) rounds n h =
      let e : suc (more + rounds) ≡ suc more + rounds = omega arith in
      subst (λ r. is_reached leads count from r n ≡ true) e (round_more (more + rounds) n (rounds_more more rounds n h))

  pub rounds_upto : (rounds most n : ℕ) → rounds ≤ most → is_reached leads count from rounds n ≡ true → is_reached leads count from most n ≡ true
  rounds_upto rounds most n l h = let e : most - rounds + rounds ≡ most = omega arith in subst (λ r. is_reached leads count from r n ≡ true) e (rounds_more (most - rounds) rounds n h)

  pub round_adds : (rounds member n : ℕ) → member < count → is_reached leads count from rounds member ≡ true → has (leads member) n ≡ true → is_reached leads count from (suc rounds) n ≡ true
  round_adds rounds member n l h e =
      or_right (is_reached leads count from rounds n) (list_any (λ m. is_reached leads count from rounds m && has (leads m) n) (range_with_len 0 count))
      (some_below (λ m. is_reached leads count from rounds m && has (leads m) n) count member l (and_from (is_reached leads count from rounds member) (has (leads member) n) h e))

  in_round : (keeps : ℕ → Bool) → IsClosed leads count keeps → (rounds n : ℕ) → ((m : ℕ) → is_reached leads count from rounds m ≡ true → keeps m ≡ true)
      → (is_reached leads count from rounds n ≡ true) ⊎ (list_any (λ m. is_reached leads count from rounds m && has (leads m) n) (range_with_len 0 count) ≡ true) → keeps n ≡ true
  in_round keeps closed rounds n before (inl h) = before n h
  in_round keeps closed rounds n before (inr h) =
      let by : Passes (λ m. is_reached leads count from rounds m && has (leads m) n) count = passes_below (λ m. is_reached leads count from rounds m && has (leads m) n) count h in
      let both : (is_reached leads count from rounds by.at ≡ true) × (has (leads by.at) n ≡ true) = and_parts (is_reached leads count from rounds by.at) (has (leads by.at) n) by.does in
      all_has (λ d. keeps d ≡ true) (leads by.at) n (closed by.at by.within (before by.at both.0)) both.1

  -- rounds stay within each closed set that has the first nodes
  pub stays_within : (keeps : ℕ → Bool) → ((n : ℕ) → has from n ≡ true → keeps n ≡ true) → IsClosed leads count keeps
      → (rounds n : ℕ) → is_reached leads count from rounds n ≡ true → keeps n ≡ true
  stays_within keeps begun closed zero n h = begun n h
  stays_within keeps begun closed (suc rounds) n h =
      in_round keeps closed rounds n (λ m r. stays_within keeps begun closed rounds m r)
      (or_cases (is_reached leads count from rounds n) (list_any (λ m. is_reached leads count from rounds m && has (leads m) n) (range_with_len 0 count)) h)
