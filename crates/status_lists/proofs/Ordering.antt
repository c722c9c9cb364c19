-- The order of one builder lists nodes.
use Rattle.std.proofs.Common.{ℕ, zero, suc, ◌<◌, Bool, true, false, List, [], ◌∷◌, arith, cond, Option, Some, None}
use Rattle.std.specs.Prelude.{nat_lt}
use Rattle.std.specs.List.{All}
use Rattle.std.specs.Option.{option_map_or}
use Rattle.std.proofs.lemmas.List.Elements.{All-cons}
use Rattle.bulk_model.specs.declared.plan.Kept.{Kept as KeptPackages}
use Rattle.bulk_model.specs.declared.results.Status.{Status}
use Rattle.bulk_model.specs.Order.{best_below, better, bucket, may_follow, order_from, order}
use Rattle.bulk_model.specs.PlanView.{PlanView, count}

-- the number is below the bound, if there is one
abbrev IsBelow : ℕ → Option ℕ → Type 0
IsBelow n None = Unit {0}
IsBelow n (Some m) = m < n

module _ (plan : PlanView) where
  better_below : (n : ℕ) (b : Bool) (best : ℕ) → best < n → (let m : ℕ = cond b n best in m) < suc n
  better_below n true best l = omega arith
  better_below n false best l = omega arith

  passing : (n : ℕ) (o : Option ℕ) → IsBelow n o
      → option_map_or (λ best. better plan best n) o n < suc n
  passing n None l = omega arith
  passing n (Some best) l = better_below n (nat_lt (bucket plan best) (bucket plan n)) best l

  wider : (n : ℕ) (o : Option ℕ) → IsBelow n o → IsBelow (suc n) o
  wider n None l = tt
  wider n (Some best) l = omega arith

  step : (passes : ℕ → Bool) (n : ℕ) (b : Bool) → IsBelow n (best_below plan passes n)
      → IsBelow (suc n) (let o : Option ℕ = cond b (Some (option_map_or (λ best. better plan best n) (best_below plan passes n) n)) (best_below plan passes n) in o)
  step passes n true l = passing n (best_below plan passes n) l
  step passes n false l = wider n (best_below plan passes n) l

  pub best_is_below : (passes : ℕ → Bool) (n : ℕ) → IsBelow n (best_below plan passes n)
  best_is_below passes zero = tt
  best_is_below passes (suc n) = step passes n (passes n) (best_is_below passes n)

  module _ (kept : KeptPackages) (statuses : List Status) where
    abbrev AreNodes : List ℕ → Type 0
    AreNodes numbers = All (λ n. n < count plan) numbers

    one_more : (steps : ℕ) (listed : List ℕ) (o : Option ℕ) → IsBelow (count plan) o
        → ((n : ℕ) → AreNodes (order_from plan kept statuses steps (n ∷ listed)))
        → AreNodes (option_map_or (λ n. n ∷ order_from plan kept statuses steps (n ∷ listed)) o [])
    one_more steps listed None l rest = λ k d b. absurd (omega arith)
    one_more steps listed (Some n) l rest =
        All-cons (λ n. n < count plan) n (order_from plan kept statuses steps (n ∷ listed)) l (rest n)

    from_nodes : (steps : ℕ) (listed : List ℕ) → AreNodes (order_from plan kept statuses steps listed)
    from_nodes zero listed = λ k d b. absurd (omega arith)
    from_nodes (suc steps) listed =
        one_more steps listed (best_below plan (may_follow plan kept statuses listed) (count plan))
        (best_is_below (may_follow plan kept statuses listed) (count plan))
        (λ n. from_nodes steps (n ∷ listed))

    pub order_nodes : AreNodes (order plan kept statuses)
    order_nodes = from_nodes (count plan) []
