-- What comes of a build, from what its parts say.
use Rattle.std.proofs.Common.{◌≡◌, ℕ, true, false, Bool, List, [], ap, sym, ◌∙◌, refl}
use Rattle.std.specs.Prelude.{cond, nat_lt, Option, Some, None, Result, Ok, Err, is_some, IsTrue, IfOk}
use Rattle.bulk_base.specs.declared.file.FileItem.{FileItem}
use Rattle.outside.specs.Contents.{Contents}
use Rattle.bulk_model.specs.Bake.{Runs, bake, first_conflict, first_folder, installed, package_of, packed, phases_of, run_phases}
use Rattle.bulk_model.specs.Baked.{IsBuildOf, IsOutcomeOf}
use Rattle.bulk_model.specs.Views.{JobView, PackageView}
use Rattle.bulk_model.specs.Weight.{weight_of, most_weight}
use Rattle.bulk_model.specs.declared.outcome.Outcome.{Outcome}
use Rattle.bulk_model.specs.declared.outcome.Outcome.TheVariants.{Built, Failed}
use Rattle.bulk_model.specs.declared.outcome.Phase.TheVariants.{Depends, Package}
use Rattle.root_clone.specs.Filled.{fill_of, left_by}
use Rattle.root_clone.specs.declared.filled.Fill.{Fill}
use Rattle.root_clone.specs.declared.filled.Fill.TheVariants.{Ready, Conflict}
use Rattle.phase_runner.specs.Running.{packed_light, is_conflict}
use Rattle.phase_runner.specs.Staged.{light}

pub packed_when_light : (base : List FileItem) (job : JobView) (packages : List PackageView) (files : List FileItem)
    → packed_light base job packages (light files) ≡ packed base job packages files
packed_when_light base job packages files =
    elim (nat_lt most_weight (weight_of files)) as (λ b. packed_light base job packages (cond b None (Some files)) ≡ cond b (Failed Package 2) (Built (package_of base job packages files))) [
      | true ↦ refl
      | false ↦ refl
    ]

-- ---- whether the room could be filled

pub has_conflict : (found : Option (List ℕ)) (path : List ℕ) → Conflict path ≡ fill_of found → is_some found ≡ true
has_conflict None path e = absurd cc
has_conflict (Some other) path e = refl

pub has_none : (found : Option (List ℕ)) → Ready ≡ fill_of found → is_some found ≡ false
has_none None e = refl
has_none (Some other) e = absurd cc

pub conflict_bakes : (runs : Runs) (base : List FileItem) (job : JobView) (packages : List PackageView) → is_some (first_conflict [] (installed packages)) ≡ true
    → Failed Depends 1 ≡ bake runs base job packages
conflict_bakes runs base job packages e =
    sym (ap (λ b. cond b (Failed Depends 1) (run_phases runs (packed base job packages) (phases_of job.steps) (first_folder base packages job))) e)

pub ready_bakes : (runs : Runs) (base : List FileItem) (job : JobView) (packages : List PackageView) (folder : Contents) → is_some (first_conflict [] (installed packages)) ≡ false
    → folder ≡ first_folder base packages job → run_phases runs (packed base job packages) (phases_of job.steps) folder ≡ bake runs base job packages
ready_bakes runs base job packages folder e f =
    ap (run_phases runs (packed base job packages) (phases_of job.steps)) f
    ∙ sym (ap (λ b. cond b (Failed Depends 1) (run_phases runs (packed base job packages) (phases_of job.steps) (first_folder base packages job))) e)

-- ---- both clauses of a build

pub is_build : {E : Type 0} (tells : Bool) (runs : Runs) (base : List FileItem) (job : JobView) (packages : List PackageView) (due : Outcome) (r : Result Outcome E)
    → IfOk r (IsOutcomeOf base job packages) → (IsTrue tells → IfOk r (λ outcome. outcome ≡ due)) → (IsTrue tells → due ≡ bake runs base job packages)
    → IfOk r (IsBuildOf tells runs base job packages)
is_build tells runs base job packages due (Ok outcome) fields told same = record { fields = fields; told = λ t. told t ∙ same t }
is_build tells runs base job packages due (Err e) fields told same = tt

pub is_apart : {E : Type 0} (found : Option (List ℕ)) (r : Result Outcome E) → is_some found ≡ false → IfOk r (λ outcome. is_conflict outcome ≡ false) → IfOk r (λ outcome. is_conflict outcome ≡ is_some found)
is_apart found (Ok outcome) e h = h ∙ sym e
is_apart found (Err x) e h = tt
