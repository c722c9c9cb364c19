-- What tests find of the parts of a plan, of kept packages and of given outcomes.
use Rattle.std.specs.Prelude.{◌≡◌, ℕ, Bool, true, not, ◌&&◌, ◌||◌, ◌==◌, ◌<◌, List, [], length, map, slice_index_or, Option, None, is_some, IsTrue, bytes_eq}
use Rattle.std.specs.List.{list_all, IsDistinct}
use Rattle.bulk_model.specs.declared.outcome.Outcome.{Outcome}
use Rattle.bulk_model.specs.declared.plan.Kept.{Kept as KeptPackages}
use Rattle.bulk_model.specs.declared.plan.Edge.{Edge}
use Rattle.bulk_model.specs.Fit.{outcome_at, is_there}
use Rattle.bulk_model.specs.PlanView.{PlanView, depends, is_ignored}
use Rattle.bulk_model.specs.Results.{is_kept}
use Rattle.bulk_model.specs.Views.{JobView, PackageView}
use Rattle.dep_graph.specs.Graphs.{IsGraph}
use Rattle.dep_graph.specs.Order.{is_loopless}

-- ignored nodes have no edges
abbrev pub StandAlone : List (List Edge) → List (Option (List ℕ)) → Type 0
StandAlone edges ignored =
    (n : ℕ) → n < length edges → is_some (slice_index_or ignored n None) ≡ true → slice_index_or edges n [] ≡ []

-- these are the parts of a plan
pub record AreParts (jobs : List JobView) (edges : List (List Edge))
    (ignored : List (Option (List ℕ))) (boosted : List Bool) : Type 0 where
  pub graph : IsGraph edges
  pub jobs_size : length jobs ≡ length edges
  pub ignored_size : length ignored ≡ length edges
  pub boosted_size : length boosted ≡ length edges
  pub without : StandAlone edges ignored
  pub loopless : IsTrue (is_loopless edges)
  pub names : IsDistinct bytes_eq (map (λ job. job.name) jobs)

-- a package is one that a job may keep, where both have neither options nor dependencies
abbrev pub may_keep : JobView → PackageView → Bool
may_keep job p =
    bytes_eq p.name job.name
    && ((length p.options == 0) && ((length job.options == 0) && ((length p.depends == 0) && (length job.depends == 0))))

-- a node may be kept: where it is, it is not ignored, and all its dependencies are kept
abbrev pub may_be_kept : PlanView → KeptPackages → ℕ → Bool
may_be_kept plan kept n = not (is_kept kept n) || (not (is_ignored plan n) && list_all (is_kept kept) (depends plan n))

-- a node may have its outcome: where it has one, it is neither kept nor ignored, and all its dependencies are there
abbrev pub may_be_given : PlanView → KeptPackages → List (Option Outcome) → ℕ → Bool
may_be_given plan kept outcomes n =
    not (is_some (outcome_at outcomes n))
    || (not (is_kept kept n) && (not (is_ignored plan n) && list_all (is_there kept outcomes) (depends plan n)))
