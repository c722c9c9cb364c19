-- What comes of a port without commands, and of a node whose dependencies have their packages.
use Rattle.std.proofs.Common.{◌≡◌, ℕ, ◌<◌, true, false, List, [], ◌++◌, ap, sym, ◌∙◌, Some, None}
use Rattle.std.specs.Prelude.{codes, map, filter, is_some, if◌then◌else◌}
use Rattle.std.specs.List.{list_all, filter_map}
use Rattle.std.specs.Option.{option_map_or}
use Rattle.std.specs.Cmp.Lexicographic.{slice_cmp}
use Rattle.std.specs.Ordering.{nat_cmp}
use Rattle.std.specs.FinMap.{empty, entries, from_entries, len-entries, len-empty}
use Rattle.std.proofs.lemmas.List.{nil_from_length}
use Rattle.bulk_base.specs.Path.{is_below}
use Rattle.bulk_base.specs.declared.file.FileItem.{FileItem}
use Rattle.bulk_base.specs.declared.file.Switch.{Switch}
use Rattle.bulk_model.specs.declared.depend.Depend.{Depend}
use Rattle.bulk_model.specs.declared.outcome.Outcome.{Outcome}
use Rattle.bulk_model.specs.declared.outcome.Outcome.TheVariants.{Built as MadePackage, Failed}
use Rattle.bulk_model.specs.declared.outcome.Phase.TheVariants.{Depends}
use Rattle.bulk_model.specs.declared.plan.Kept.{Kept as KeptPackages}
use Rattle.bulk_model.specs.declared.results.Status.{Status}
use Rattle.bulk_model.specs.declared.results.Status.TheVariants.{Kept, Built, Ignored, Skipped}
use Rattle.bulk_model.specs.Bake.{Runs, bake, package_of, packed, placed, installed, staged, first_conflict}
use Rattle.bulk_model.specs.Files.{file_at}
use Rattle.bulk_model.specs.Installs.{installs}
use Rattle.bulk_model.specs.PlanFacts.{IsPlan}
use Rattle.bulk_model.specs.PlanView.{PlanView, count, depends, is_ignored, job_at}
use Rattle.bulk_model.specs.Results.{kept_at, bakes_by, is_good, package_in, status_of_outcome, status_at}
use Rattle.bulk_model.specs.Views.{JobView, PackageView}
use Rattle.model_laws.proofs.Following.{results_unfold}
use Rattle.incremental_example.specs.Ports.{port}

pub entries-empty : entries (empty {X = List ℕ} {R = slice_cmp nat_cmp}) ≡ []
entries-empty = nil_from_length _ (sym (len-entries empty) ∙ len-empty (slice_cmp nat_cmp) (List ℕ))

-- nothing is staged, so the package has no files
pub built : (runs : Runs) (name : List ℕ) (options : List Switch) (needs : List Depend) (packages : List PackageView) → installed packages ≡ []
    → bake runs [] (port name options needs) packages ≡ MadePackage (package_of [] (port name options needs) packages [])
built runs name options needs packages none =
    let job : JobView = port name options needs in
    let pack : List FileItem → Outcome = packed [] (port name options needs) packages in
    ap (λ fs. if is_some (first_conflict [] fs) then Failed Depends 1 else packed [] (port name options needs) packages (staged (from_entries (placed (codes "local") fs ++ [])))) none
    ∙ ap (λ (es : List (List ℕ × List ℕ)). packed [] (port name options needs) packages (filter_map (file_at (codes "stage") (from_entries [])) (filter (is_below (codes "stage")) (map (λ e. e.0) es)))) entries-empty

module _ (runs : Runs) (plan : PlanView) (kept : KeptPackages) (is : IsPlan plan) where
  abbrev pub res : ℕ → Status
  res n = status_at (bakes_by runs plan) plan kept n

  pub kept_status : (n : ℕ) → n < count plan → (p : PackageView) → kept_at kept n ≡ Some p → res n ≡ Kept p
  kept_status n l p e =
      results_unfold (bakes_by runs plan) plan kept is n l
      ∙ ap (λ o. option_map_or Kept o (if is_ignored plan n then Ignored else
      (if list_all (λ d. is_good (res d)) (depends plan n) then status_of_outcome (bake runs plan.base (job_at plan n) (filter_map (λ d. package_in (res d)) (installs plan n))) else Skipped))) e

  pub built_status : (n : ℕ) → n < count plan → kept_at kept n ≡ None → is_ignored plan n ≡ false → list_all (λ d. is_good (res d)) (depends plan n) ≡ true
      → (packages : List PackageView) → filter_map (λ d. package_in (res d)) (installs plan n) ≡ packages
      → (p : PackageView) → bake runs plan.base (job_at plan n) packages ≡ MadePackage p → res n ≡ Built p
  built_status n l new free good packages are p made =
      results_unfold (bakes_by runs plan) plan kept is n l
      ∙ ap (λ o. option_map_or Kept o (if is_ignored plan n then Ignored else
      (if list_all (λ d. is_good (res d)) (depends plan n) then status_of_outcome (bake runs plan.base (job_at plan n) (filter_map (λ d. package_in (res d)) (installs plan n))) else Skipped))) new
      ∙ ap (λ b. if b then Ignored else
      (if list_all (λ d. is_good (res d)) (depends plan n) then status_of_outcome (bake runs plan.base (job_at plan n) (filter_map (λ d. package_in (res d)) (installs plan n))) else Skipped)) free
      ∙ ap (λ b. if b then status_of_outcome (bake runs plan.base (job_at plan n) (filter_map (λ d. package_in (res d)) (installs plan n))) else Skipped) good
      ∙ ap (λ ps. status_of_outcome (bake runs plan.base (job_at plan n) ps)) are
      ∙ ap status_of_outcome made
