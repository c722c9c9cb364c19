-- Why a node was skipped.
use Rattle.std.specs.Prelude.{ℕ, zero, suc, not, List, length, Option, if◌then◌else◌}
use Rattle.std.specs.Option.{option_map_or}
use Rattle.bulk_base.specs.Least.{least_passing}
use Rattle.bulk_model.specs.declared.results.Status.{Status}
use Rattle.bulk_model.specs.PlanView.{PlanView, depends}
use Rattle.bulk_model.specs.Results.{is_good}
use Rattle.bulk_model.specs.Fit.{status_in, is_skipped}

-- the least dependency of a node without a package
abbrev pub least_setback : PlanView → List Status → ℕ → Option ℕ
least_setback plan statuses n =
    least_passing (λ d. not (is_good (status_in statuses d))) (depends plan n)

-- that dependency, or where it was skipped its own cause, in so many steps at most
abbrev pub cause_within : PlanView → List Status → ℕ → ℕ → ℕ
cause_within plan statuses zero n = n
cause_within plan statuses (suc steps) n =
    option_map_or
    (λ d. if is_skipped (status_in statuses d) then cause_within plan statuses steps d else d)
    (least_setback plan statuses n) n

-- no chain of dependencies is longer than there are nodes
abbrev pub cause : PlanView → List Status → ℕ → ℕ
cause plan statuses n = cause_within plan statuses (length plan.jobs) n
