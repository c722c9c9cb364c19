-- What a build's package says of its job.
use Rattle.std.proofs.Common.{◌≡◌, List, ap, sym, subst, ◌∙◌, true}
use Rattle.std.specs.Prelude.{ℕ, map}
use Rattle.bulk_base.specs.declared.file.FileItem.{FileItem}
use Rattle.bulk_model.specs.declared.outcome.Outcome.{Outcome}
use Rattle.bulk_model.specs.declared.outcome.Outcome.TheVariants.{Built as MadePackage}
use Rattle.bulk_model.specs.Bake.{Runs, bake, package_of}
use Rattle.bulk_model.specs.Baked.{IsBuildOf, IsPackageOf, IsOutcomeOf}
use Rattle.bulk_model.specs.Recipe.{recipe}
use Rattle.bulk_model.specs.Views.{JobView, PackageView, need_of, node_of_job, node_of_package}
use Rattle.bulk_model.proofs.JobFields.{needs_recorded}
use Rattle.model_laws.proofs.Building.{bake_is_build}

pub record SaysJob (base : List FileItem) (job : JobView) (p : PackageView) : Type 0 where
  pub node : node_of_package p ≡ node_of_job job
  pub name : p.name ≡ job.name
  pub recipe_is : p.recipe ≡ recipe base job
  pub needs : map need_of p.depends ≡ job.depends

pub says_job : (runs : Runs) (base : List FileItem) (job : JobView) (packages : List PackageView) (p : PackageView) → bake runs base job packages ≡ MadePackage p → SaysJob base job p
says_job runs base job packages p h =
    let fields : IsPackageOf base job packages p = subst (IsOutcomeOf base job packages) h (bake_is_build true runs base job packages).fields in
    record {
      node = ap (λ (q : PackageView). node_of_package q) fields.made;
      name = ap (λ (q : PackageView). q.name) fields.made;
      recipe_is = ap (λ (q : PackageView). q.recipe) fields.made;
      needs = ap (λ (q : PackageView). map need_of q.depends) fields.made ∙ needs_recorded packages job.depends;
    }
