-- The least target without a package, edge by edge, and the way down to a cause, step by step.
use Rattle.std.proofs.Common.{◌≡◌, ℕ, suc, ◌+◌, ◌-◌, ◌<◌, true, false, not, List, length, ap, sym, ◌∙◌, arith, cond}
use Rattle.std.specs.Prelude.{map, Option, Some}
use Rattle.std.specs.Option.{option_map_or}
use Rattle.bulk_base.specs.Least.{least_passing}
use Rattle.bulk_model.specs.declared.plan.Edge.{Edge}
use Rattle.bulk_model.specs.declared.results.Status.{Status}
use Rattle.bulk_model.specs.PlanView.{PlanView, edges_from}
use Rattle.bulk_model.specs.Results.{is_good}
use Rattle.bulk_model.specs.Fit.{status_in, is_skipped}
use Rattle.bulk_model.specs.Cause.{cause_within}

abbrev pub target : Edge → ℕ
target edge = edge.to

-- the way on from a node whose least dependency without a package is known
abbrev pub way_on : PlanView → List Status → ℕ → ℕ → Option ℕ → ℕ
way_on plan statuses steps n least = option_map_or (λ d. cond (is_skipped (status_in statuses d)) (cause_within plan statuses steps d) d) least n

pub one_step : (plan : PlanView) (statuses read : List Status) (edges : List Edge) (done end n top : ℕ) (least : Option ℕ) → done < end → end ≡ length plan.jobs → read ≡ statuses
    → edges ≡ edges_from plan n → least ≡ least_passing (λ d. not (is_good (status_in read d))) (map target edges) → cause_within plan statuses (length plan.jobs - done) n ≡ top
    → way_on plan statuses (length plan.jobs - (done + 1)) n least ≡ top
one_step plan statuses read edges done end n top least before all told same is rest =
    let more : length plan.jobs - done ≡ suc (length plan.jobs - (done + 1)) = omega arith in
    ap (way_on plan statuses (length plan.jobs - (done + 1)) n) (is ∙ ap (λ s. least_passing (λ d. not (is_good (status_in s d))) (map target edges)) told ∙ ap (λ e. least_passing (λ d. not (is_good (status_in statuses d))) (map target e)) same)
    ∙ ap (λ l. cause_within plan statuses l n) (sym more) ∙ rest

pub down : (plan : PlanView) (statuses : List Status) (steps n d top : ℕ) (least : Option ℕ) → least ≡ Some d → is_skipped (status_in statuses d) ≡ true
    → way_on plan statuses steps n least ≡ top → cause_within plan statuses steps d ≡ top
down plan statuses steps n d top least is skipped way = ap (λ b. cond b (cause_within plan statuses steps d) d) (sym skipped) ∙ ap (way_on plan statuses steps n) (sym is) ∙ way

pub here : (plan : PlanView) (statuses : List Status) (steps n d top : ℕ) (least : Option ℕ) → least ≡ Some d → is_skipped (status_in statuses d) ≡ false
    → way_on plan statuses steps n least ≡ top → d ≡ top
here plan statuses steps n d top least is ends way = ap (λ b. cond b (cause_within plan statuses steps d) d) (sym ends) ∙ ap (way_on plan statuses steps n) (sym is) ∙ way
