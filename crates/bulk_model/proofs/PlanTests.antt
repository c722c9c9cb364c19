-- The facts of a plan's graph, from tests that compute.
use Rattle.std.proofs.Common.{◌≡◌, ℕ, ◌+◌, ◌<◌, Bool, true, false, not, [], length, get_or, subst, ◌∙◌, arith, nat_lt}
use Rattle.std.specs.Prelude.{◌||◌, ◌==◌}
use Rattle.std.specs.List.{list_all, range_with_len, All}
use Rattle.std.proofs.lemmas.Bool.{ltb-true, eqb-true}
use Rattle.std.proofs.lemmas.List.{nil_from_length}
use Rattle.std.proofs.lemmas.List.Sums.{AllPass-from_list_all}
use Rattle.std.proofs.lemmas.List.FromFn.{length-range_with_len, get_or-range_with_len}
use Rattle.bulk_model.specs.PlanView.{PlanView, nodes, depends, is_ignored}

-- what a test says of all nodes, it says of each
pub passes_below : (p : ℕ → Bool) (count n : ℕ) → n < count → list_all p (range_with_len 0 count) ≡ true → p n ≡ true
passes_below p count n l all =
    let size : length (range_with_len 0 count) ≡ count = length-range_with_len 0 count in
    let zero_add : 0 + n ≡ n = omega arith in
    subst (λ x. p x ≡ true) (get_or-range_with_len 0 count n 0 l ∙ zero_add) (AllPass-from_list_all p (range_with_len 0 count) all n 0 (omega (arith, l, size)))

abbrev has_targets : PlanView → ℕ → Bool
has_targets plan n = list_all (λ to. nat_lt to (length plan.jobs)) (depends plan n)

pub targets_tested : (plan : PlanView) → list_all (λ n. list_all (λ to. nat_lt to (length plan.jobs)) (depends plan n)) (nodes plan) ≡ true
    → (n : ℕ) → n < length plan.jobs → All (λ to. to < length plan.jobs) (depends plan n)
targets_tested plan all n l k d h =
    ltb-true (get_or (depends plan n) k d) (length plan.jobs)
    (AllPass-from_list_all (λ to. nat_lt to (length plan.jobs)) (depends plan n) (passes_below (has_targets plan) (length plan.jobs) n l all) k d h)

implied : (test passes : Bool) → test ≡ true → (not test || passes) ≡ true → passes ≡ true
implied true passes t h = h
implied false passes t h = absurd cc

pub without_tested : (plan : PlanView) → list_all (λ n. not (is_ignored plan n) || (length (depends plan n) == 0)) (nodes plan) ≡ true
    → (n : ℕ) → n < length plan.jobs → is_ignored plan n ≡ true → depends plan n ≡ []
without_tested plan all n l t =
    nil_from_length (depends plan n)
    (eqb-true (length (depends plan n)) 0
    (implied (is_ignored plan n) (length (depends plan n) == 0) t (passes_below (λ m. not (is_ignored plan m) || (length (depends plan m) == 0)) (length plan.jobs) n l all)))

pub none_wanted : (count : ℕ) → All (λ n. n < count) []
none_wanted count k d l = absurd (omega arith)
