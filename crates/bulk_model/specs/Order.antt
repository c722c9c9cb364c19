-- The order in which one builder takes the nodes of a plan (docs/DEFINITIONS.md, "The order of one builder").
use Rattle.std.specs.Prelude.{ℕ, zero, suc, Bool, true, false, not, ◌&&◌, ◌||◌, ◌≡◌, ◌≤◌, nat_lt, max, List, [], ◌∷◌, length, Option, Some, None, if◌then◌else◌}
use Rattle.std.specs.List.{list_all}
use Rattle.std.specs.Option.{option_map_or}
use Rattle.bulk_model.specs.declared.plan.Kept.{Kept as KeptPackages}
use Rattle.bulk_model.specs.declared.results.Status.{Status}
use Rattle.bulk_model.specs.declared.results.Status.TheVariants.{Kept, Built, Failed, Ignored, Skipped}
use Rattle.bulk_model.specs.Fit.{status_in}
use Rattle.bulk_model.specs.Installs.{has}
use Rattle.bulk_model.specs.PlanView.{PlanView, count, depends, is_boosted}
use Rattle.bulk_model.specs.Results.{is_kept}

-- the highest value at a number below this one
abbrev pub highest : (ℕ → ℕ) → ℕ → ℕ
highest value zero = 0
highest value (suc n) = max (highest value n) (value n)

-- the edges of the longest chain of dependents above a node, of those of so many edges at most
abbrev pub chain_above : PlanView → ℕ → ℕ → ℕ
chain_above plan zero n = 0
chain_above plan (suc edges) n =
    highest (λ m. if has (depends plan m) n then suc (chain_above plan edges m) else 0) (count plan)

-- 10 where the plan boosts the node, else the smaller of 9 and the edges of the longest chain of dependents above it
abbrev pub bucket : PlanView → ℕ → ℕ
bucket plan n = if is_boosted plan n then 10 else chain_above plan 9 n

-- the first of the list depends on the node, and each other on the one before it
abbrev pub is_chain_above : PlanView → ℕ → List ℕ → Bool
is_chain_above plan n [] = true
is_chain_above plan n (dependent ∷ more) =
    has (depends plan dependent) n && is_chain_above plan dependent more

-- so many edges has the longest chain of dependents above the node
pub record IsLongest (plan : PlanView) (n edges : ℕ) : Type 0 where
  pub found : (above : List ℕ) × (is_chain_above plan n above ≡ true) × (length above ≡ edges)
  pub most : (above : List ℕ) → is_chain_above plan n above ≡ true → length above ≤ edges

-- a node was built, well or not
abbrev pub is_tried : Status → Bool
is_tried (Kept p) = false
is_tried (Built p) = true
is_tried (Failed phase code) = true
is_tried Ignored = false
is_tried Skipped = false

-- a node may come next: it was built, is not listed yet, and each of its dependencies is kept or listed
abbrev pub may_follow : PlanView → KeptPackages → List Status → List ℕ → ℕ → Bool
may_follow plan kept statuses listed n =
    is_tried (status_in statuses n)
    && (not (has listed n) && list_all (λ d. is_kept kept d || has listed d) (depends plan n))

-- of two nodes the one with the higher bucket, of equal ones the first
abbrev pub better : PlanView → ℕ → ℕ → ℕ
better plan a b = if nat_lt (bucket plan a) (bucket plan b) then b else a

-- the least node of the highest bucket, of those below a number that pass a test
abbrev pub best_below : PlanView → (ℕ → Bool) → ℕ → Option ℕ
best_below plan passes zero = None
best_below plan passes (suc n) =
    if passes n then Some (option_map_or (λ best. better plan best n) (best_below plan passes n) n)
    else best_below plan passes n

-- so many nodes at most, each the best of those that may follow the listed ones
abbrev pub order_from : PlanView → KeptPackages → List Status → ℕ → List ℕ → List ℕ
order_from plan kept statuses zero listed = []
order_from plan kept statuses (suc steps) listed =
    option_map_or (λ n. n ∷ order_from plan kept statuses steps (n ∷ listed))
    (best_below plan (may_follow plan kept statuses listed) (count plan)) []

abbrev pub order : PlanView → KeptPackages → List Status → List ℕ
order plan kept statuses = order_from plan kept statuses (count plan) []
