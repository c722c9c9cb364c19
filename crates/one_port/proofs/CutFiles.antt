-- Files of which only first bytes were taken weigh too much where any was cut.
use Rattle.std.proofs.Common.{◌≡◌, ℕ, ◌<◌, ◌≤◌, true, false, List, [], ◌∷◌, ap, sym, ◌∙◌, refl, arith, take, map}
use Rattle.std.specs.Prelude.{cond, nat_lt}
use Rattle.std.proofs.lemmas.List.{length-take, take_all}
use Rattle.std.proofs.lemmas.List.Sums.{sum_by-cons}
use Rattle.std.proofs.lemmas.Bool.{lt-ltb, ltb-true, ltb-false}
use Rattle.bulk_base.specs.declared.file.FileItem.{FileItem}
use Rattle.bulk_model.specs.Views.{JobView}
use Rattle.bulk_model.specs.Weight.{file_weight, weight_of, most_weight}
use Rattle.bulk_model.specs.Bake.{package_of}
use Rattle.bulk_model.specs.declared.outcome.Outcome.TheVariants.{Built, Failed}
use Rattle.bulk_model.specs.declared.outcome.Phase.TheVariants.{Package}
use Rattle.one_port.specs.RoomBuild.{cut_file, packed_alone}

pub weight_of-cut : (most : ℕ) (files : List FileItem) → weight_of (map (cut_file most) files) ≤ weight_of files
weight_of-cut most [] = omega arith
weight_of-cut most (f ∷ files) =
    omega (arith, weight_of-cut most files, sum_by-cons file_weight (cut_file most f) (map (cut_file most) files), sum_by-cons file_weight f files, length-take most f.bytes)

-- where they weigh less than was taken of any, none was cut
pub cut_none : (most : ℕ) (files : List FileItem) → weight_of (map (cut_file most) files) < most → map (cut_file most) files ≡ files
cut_none most [] l = refl
cut_none most (f ∷ files) l =
    let s = sum_by-cons file_weight (cut_file most f) (map (cut_file most) files) in
    let whole : take most f.bytes ≡ f.bytes = take_all most f.bytes (omega (arith, s, length-take most f.bytes)) in
    let rest : map (cut_file most) files ≡ files = cut_none most files (omega (arith, s)) in
    λ k. record { path = f.path; bytes = whole k } ∷ rest k

-- so the package is the same
pub packed-cut : (most : ℕ) (job : JobView) (files : List FileItem) → most_weight < most → packed_alone job (map (cut_file most) files) ≡ packed_alone job files
packed-cut most job files l =
    elim (nat_lt most_weight (weight_of (map (cut_file most) files))) as (λ b. nat_lt most_weight (weight_of (map (cut_file most) files)) ≡ b → cond b (Failed Package 2) (Built (package_of [] job [] (map (cut_file most) files))) ≡ packed_alone job files) [
      | true ↦ λ e. ap (λ b. cond b (Failed Package 2) (Built (package_of [] job [] files))) (sym (lt-ltb most_weight (weight_of files) (omega (arith, ltb-true most_weight (weight_of (map (cut_file most) files)) e, weight_of-cut most files))))
      | false ↦ λ e.
          ap (λ b. cond b (Failed Package 2) (Built (package_of [] job [] (map (cut_file most) files)))) (sym e)
          ∙ ap (packed_alone job) (cut_none most files (omega (arith, ltb-false most_weight (weight_of (map (cut_file most) files)) e)))
    ] refl
