-- A package's dependencies are its job's, and a package of a job has the job's fields.
use Rattle.std.proofs.Common.{◌≡◌, Bool, true, false, List, [], ◌∷◌, map, refl, ap, arith}
use Rattle.std.specs.Prelude.{cond, nat_lt}
use Rattle.std.proofs.lemmas.Bool.{ltb-false}
use Rattle.bulk_base.specs.declared.file.FileItem.{FileItem}
use Rattle.bulk_model.specs.declared.depend.Depend.{Depend}
use Rattle.bulk_model.specs.declared.outcome.Outcome.TheVariants.{Built, Failed}
use Rattle.bulk_model.specs.declared.outcome.Phase.TheVariants.{Package}
use Rattle.bulk_model.specs.Bake.{recorded, package_of, packed}
use Rattle.bulk_model.specs.Baked.{IsOutcomeOf, HasFieldsOf}
use Rattle.bulk_model.specs.Views.{JobView, PackageView, need_of}
use Rattle.bulk_model.specs.Weight.{weight_of, most_weight}

-- what is recorded of dependencies is them
pub needs_recorded : (packages : List PackageView) (depends : List Depend) → map need_of (map (recorded packages) depends) ≡ depends
needs_recorded packages [] = refl
needs_recorded packages (depend ∷ depends) = ap (λ rest. depend ∷ rest) (needs_recorded packages depends)

-- the package of a job has its fields
pub package_has_fields : (base : List FileItem) (job : JobView) (packages : List PackageView) (files : List FileItem) → HasFieldsOf job (package_of base job packages files)
package_has_fields base job packages files = record { name = refl; origin = refl; flavor = refl; options = refl; depends = needs_recorded packages job.depends }

-- what is packed is an outcome of the job's build
packed_case : (base : List FileItem) (job : JobView) (packages : List PackageView) (files : List FileItem) (heavy : Bool) → nat_lt most_weight (weight_of files) ≡ heavy
    → IsOutcomeOf base job packages (cond heavy (Failed Package 2) (Built (package_of base job packages files)))
packed_case base job packages files true h = tt
packed_case base job packages files false h = record { made = refl; light = omega (arith, ltb-false most_weight (weight_of files) h) }

pub packed_is_outcome : (base : List FileItem) (job : JobView) (packages : List PackageView) (files : List FileItem) → IsOutcomeOf base job packages (packed base job packages files)
packed_is_outcome base job packages files = packed_case base job packages files (nat_lt most_weight (weight_of files)) refl
