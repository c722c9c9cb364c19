-- What comes of a build has the fields of its job, and is right at its node where it was over the right packages.
use Rattle.std.proofs.Common.{◌≡◌, ℕ, ◌<◌, Bool, true, false, List, [], ◌∷◌, refl, ap, sym, subst, ◌∙◌, cond, Option, Some, None}
use Rattle.std.specs.Prelude.{Contains, is_some, IsTrue, ◌==◌}
use Rattle.std.specs.List.{list_all, filter_map}
use Rattle.bulk_base.specs.declared.file.FileItem.{FileItem}
use Rattle.bulk_base.proofs.Members.{all_passes, passes_all, filter_map_agree}
use Rattle.outside.specs.Contents.{Contents}
use Rattle.bulk_model.specs.declared.outcome.Outcome.{Outcome}
use Rattle.bulk_model.specs.declared.outcome.Outcome.TheVariants.{Built as MadePackage, Failed as FailedBuild}
use Rattle.bulk_model.specs.declared.outcome.Phase.{Phase}
use Rattle.bulk_model.specs.declared.outcome.Phase.TheVariants.{Depends as DependsPhase}
use Rattle.bulk_model.specs.declared.plan.Kept.{Kept as KeptPackages}
use Rattle.bulk_model.specs.declared.results.Status.{Status}
use Rattle.bulk_model.specs.declared.results.Status.TheVariants.{Ignored, Skipped}
use Rattle.bulk_model.specs.Bake.{Runs, first_conflict, installed, first_folder, run_all, phases_of, packed, run_phases, bake}
use Rattle.bulk_model.specs.Baked.{IsOutcomeOf, IsBuildOf, HasFieldsOf, IsOfJob, IsOutcomeAt}
use Rattle.bulk_model.specs.DryLists.{bakes_well}
use Rattle.bulk_model.specs.Installs.{installs}
use Rattle.bulk_model.specs.PlanFacts.{IsPlan}
use Rattle.bulk_model.specs.PlanView.{PlanView, count, depends, is_ignored, job_at}
use Rattle.bulk_model.specs.Results.{Bakes, kept_at, is_kept, is_good, package_in, status_of_outcome, status_at, bakes_by}
use Rattle.bulk_model.specs.Views.{JobView, PackageView}
use Rattle.bulk_model.proofs.JobFields.{packed_is_outcome, package_has_fields}
use Rattle.model_laws.specs.Builds.{GivesJobs, AreInstalledAt, AreRightSoFar}
use Rattle.model_laws.specs.Results.{packages_at}
use Rattle.model_laws.proofs.Graph.{target_below, installs_keep}
use Rattle.model_laws.proofs.Deciding.{status_with}
use Rattle.model_laws.proofs.Following.{results_unfold}

-- what holds of a failure and of what is packed holds of what comes of phases
module _ (P : Outcome → Type 0) (fails : (phase : Phase) (code : ℕ) → P (FailedBuild phase code)) where
  either : (b : Bool) (x y : Outcome) → P x → P y → P (cond b x y)
  either true x y f g = f
  either false x y f g = g

  phases_keep : (runs : Runs) (pack : List FileItem → Outcome)
      → ((files : List FileItem) → P (pack files))
      → (phases : List (Phase × List (List (List ℕ)))) (folder : Contents)
      → P (run_phases runs pack phases folder)
  phases_keep runs pack packs [] folder = packs _
  phases_keep runs pack packs (phase ∷ phases) folder =
      let ran = run_all runs phase.1 folder in
      either (ran.0 == 0) (run_phases runs pack phases ran.1) (FailedBuild phase.0 ran.0)
      (phases_keep runs pack packs phases ran.1) (fails phase.0 ran.0)

  pub bake_keeps : (runs : Runs) (base : List FileItem) (job : JobView) (packages : List PackageView)
      → ((files : List FileItem) → P (packed base job packages files))
      → P (bake runs base job packages)
  bake_keeps runs base job packages packs =
      either (is_some (first_conflict [] (installed packages))) (FailedBuild DependsPhase 1)
      (run_phases runs (packed base job packages) (phases_of job.steps) (first_folder base packages job))
      (fails DependsPhase 1)
      (phases_keep runs (packed base job packages) packs (phases_of job.steps) (first_folder base packages job))

pub bake_is_outcome : (runs : Runs) (base : List FileItem) (job : JobView) (packages : List PackageView)
    → IsOutcomeOf base job packages (bake runs base job packages)
bake_is_outcome runs base job packages =
    bake_keeps (IsOutcomeOf base job packages) (λ phase code. tt) runs base job packages
    (packed_is_outcome base job packages)

pub bake_is_build : (tells : Bool) (runs : Runs) (base : List FileItem) (job : JobView) (packages : List PackageView)
    → IsBuildOf tells runs base job packages (bake runs base job packages)
bake_is_build tells runs base job packages = record { fields = bake_is_outcome runs base job packages; told = λ t. refl }

-- an outcome of a job's build has the job's fields
pub outcome_of_job : (base : List FileItem) (job : JobView) (packages : List PackageView) (outcome : Outcome)
    → IsOutcomeOf base job packages outcome → IsOfJob job outcome
outcome_of_job base job packages (MadePackage p) h =
    subst (HasFieldsOf job) (sym h.made) (package_has_fields base job packages p.files)
outcome_of_job base job packages (FailedBuild phase code) h = tt

pub bakes_give_jobs : (runs : Runs) (plan : PlanView) → GivesJobs plan (bakes_by runs plan)
bakes_give_jobs runs plan n packages l =
    let job : JobView = job_at plan n in
    outcome_of_job plan.base job packages (bake runs plan.base job packages)
    (bake_is_outcome runs plan.base job packages)

pub dry_builds_give_jobs : (plan : PlanView) → GivesJobs plan (bakes_well plan)
dry_builds_give_jobs plan n packages l = package_has_fields plan.base (job_at plan n) packages []

-- a node that is to be built has its build's status
to_build : (kept : Option PackageView) (ignored good : Bool) (outcome : Outcome)
    → is_some kept ≡ false → ignored ≡ false → good ≡ true
    → status_with kept ignored good outcome ≡ status_of_outcome outcome
to_build (Some p) ignored good outcome k i g = absurd (cc k)
to_build None ignored good outcome k i g = ap (λ b. cond b Ignored (cond good (status_of_outcome outcome) Skipped)) i ∙ ap (λ b. cond b (status_of_outcome outcome) Skipped) g

pub built_at : (bakes : Bakes) (plan : PlanView) (kept : KeptPackages) → IsPlan plan
    → (n : ℕ) (packages : List PackageView) → n < count plan → is_kept kept n ≡ false
    → is_ignored plan n ≡ false
    → AreInstalledAt plan (status_at bakes plan kept) n packages
    → status_at bakes plan kept n ≡ status_of_outcome (bakes n packages)
built_at bakes plan kept is n packages l k i are =
    results_unfold bakes plan kept is n l
    ∙ to_build (kept_at kept n) (is_ignored plan n) (list_all (λ d. is_good (status_at bakes plan kept d)) (depends plan n))
    (bakes n (filter_map (λ d. package_in (status_at bakes plan kept d)) (installs plan n))) k i are.good
    ∙ ap (λ ps. status_of_outcome (bakes n ps)) (sym are.those)

pub right_builds_are_right : (tells : Bool) (runs : Runs) (plan : PlanView) (kept : KeptPackages)
    (n : ℕ) (packages : List PackageView) (outcome : Outcome)
    → IsPlan plan → n < count plan → is_kept kept n ≡ false → is_ignored plan n ≡ false
    → (IsTrue tells → AreInstalledAt plan (status_at (bakes_by runs plan) plan kept) n packages)
    → IsBuildOf tells runs plan.base (job_at plan n) packages outcome
    → IsOutcomeAt tells runs plan kept n outcome
right_builds_are_right tells runs plan kept n packages outcome is l k i are build = record {
  fields = outcome_of_job plan.base (job_at plan n) packages outcome build.fields;
  told = λ t. built_at (bakes_by runs plan) plan kept is n packages l k i (are t) ∙ ap status_of_outcome (sym (build.told t));
}

-- ---- statuses so far

module _ (bakes : Bakes) (plan : PlanView) (kept : KeptPackages) (s : ℕ → Status) (is : IsPlan plan)
    (so_far : AreRightSoFar bakes plan kept s) where
  abbrev IsThere : ℕ → Type 0
  IsThere n = (n < count plan) × (is_good (s n) ≡ true)

  there_below : (n d : ℕ) → n < count plan → list_all (λ m. is_good (s m)) (depends plan n) ≡ true
      → Contains (depends plan n) d → IsThere d
  there_below n d l good c = (target_below plan is n d l c, all_passes (λ m. is_good (s m)) (depends plan n) d good c)

  all_there : (n : ℕ) → n < count plan → list_all (λ d. is_good (s d)) (depends plan n) ≡ true → (d : ℕ)
      → Contains (installs plan n) d → IsThere d
  all_there n l good d c =
      installs_keep plan IsThere (λ m e h k. there_below m e h.0 (so_far.behind m h.0 h.1) k) n
      (λ e k. there_below n e l good k) d c

  pub statuses_so_far_install : (n : ℕ) → n < count plan
      → list_all (λ d. is_good (s d)) (depends plan n) ≡ true
      → AreInstalledAt plan (status_at bakes plan kept) n (packages_at plan s n)
  statuses_so_far_install n l good = record {
    good = passes_all (λ d. is_good (status_at bakes plan kept d)) (depends plan n)
        (λ d c. let there = there_below n d l good c in sym (ap is_good (so_far.right d there.0 there.1)) ∙ there.1);
    those = filter_map_agree (λ d. package_in (s d)) (λ d. package_in (status_at bakes plan kept d)) (installs plan n)
        (λ d c. let there = all_there n l good d c in ap package_in (so_far.right d there.0 there.1));
  }
