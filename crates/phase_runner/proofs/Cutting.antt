-- A file of which only first bytes were taken.
use Rattle.std.proofs.Common.{◌≡◌, ℕ, ◌+◌, ◌<◌, ◌≤◌, true, false, List, ap, sym, ◌∙◌, refl, arith, take, length}
use Rattle.std.specs.Prelude.{cond, nat_lt, nat_le, Option, Some, None}
use Rattle.std.specs.Option.{option_map}
use Rattle.std.proofs.lemmas.List.{length-take, take_all}
use Rattle.std.proofs.lemmas.Bool.{lt-ltb, ltb-true, leb-true, leb-false}
use Rattle.std.proofs.lemmas.Option.{same_Some}
use Rattle.bulk_base.specs.declared.file.FileItem.{FileItem}
use Rattle.bulk_model.specs.Weight.{file_weight}
use Rattle.phase_runner.specs.Staged.{taken_of}
use Rattle.phase_runner.specs.declared.staging.Taken.{Taken}
use Rattle.phase_runner.specs.declared.staging.Taken.TheVariants.{Gone, File, TooHeavy}

-- one byte more than may be left tells as much as the whole file
pub taken_of-cut : (left : ℕ) (path bytes : List ℕ)
    → taken_of left (Some (record { path = path; bytes = take (left + 1) bytes })) ≡ taken_of left (Some (record { path = path; bytes = bytes }))
taken_of-cut left path bytes =
    elim (nat_le (length bytes) (left + 1)) as (λ b. nat_le (length bytes) (left + 1) ≡ b
    → taken_of left (Some (record { path = path; bytes = take (left + 1) bytes })) ≡ taken_of left (Some (record { path = path; bytes = bytes }))) [
      | true ↦ λ e. ap (λ bs. taken_of left (Some (record { path = path; bytes = bs }))) (take_all (left + 1) bytes (leb-true (length bytes) (left + 1) e))
      | false ↦ λ e.
          let long : left + 1 < length bytes = leb-false (length bytes) (left + 1) e in
          let cut : FileItem = record { path = path; bytes = take (left + 1) bytes } in
          let whole : FileItem = record { path = path; bytes = bytes } in
          ap (λ b. cond b TooHeavy (File cut)) (lt-ltb left (file_weight cut) (omega (arith, long, length-take (left + 1) bytes)))
          ∙ sym (ap (λ b. cond b TooHeavy (File whole)) (lt-ltb left (file_weight whole) (omega (arith, long))))
    ] refl

-- so it is told of a file from its first bytes
pub taken_of-first : (left : ℕ) (path bytes : List ℕ) (held : Option (List ℕ)) → Some bytes ≡ option_map (take (left + 1)) held
    → taken_of left (Some (record { path = path; bytes = bytes })) ≡ taken_of left (option_map (λ whole. record { path = path; bytes = whole }) held)
taken_of-first left path bytes None e = absurd cc
taken_of-first left path bytes (Some whole) e =
    ap (λ bs. taken_of left (Some (record { path = path; bytes = bs }))) (same_Some bytes (take (left + 1) whole) e) ∙ taken_of-cut left path whole

-- ---- which file was taken

pub gone_is_none : (left : ℕ) (found : Option FileItem) → Gone ≡ taken_of left found → found ≡ None
gone_is_none left None e = refl
gone_is_none left (Some file) e =
    elim (nat_lt left (file_weight file)) as (λ b. Gone ≡ cond b TooHeavy (File file) → Some file ≡ None) [ true ↦ λ h. absurd cc | false ↦ λ h. absurd cc ] e

abbrev file_or : Taken → FileItem → FileItem
file_or (File file) other = file
file_or Gone other = other
file_or TooHeavy other = other

pub file_is_some : (left : ℕ) (file : FileItem) (found : Option FileItem) → File file ≡ taken_of left found → found ≡ Some file
file_is_some left file None e = absurd cc
file_is_some left file (Some other) e =
    elim (nat_lt left (file_weight other)) as (λ b. File file ≡ cond b TooHeavy (File other) → Some other ≡ Some file) [
      | true ↦ λ h. absurd cc
      | false ↦ λ h. ap Some (ap (λ t. file_or t other) (sym h))
    ] e

pub heavy_is_some : (left : ℕ) (found : Option FileItem) → TooHeavy ≡ taken_of left found → (file : FileItem) × (found ≡ Some file) × (left < file_weight file)
heavy_is_some left None e = absurd cc
heavy_is_some left (Some file) e =
    elim (nat_lt left (file_weight file)) as (λ b. nat_lt left (file_weight file) ≡ b → TooHeavy ≡ cond b TooHeavy (File file) → (other : FileItem) × (Some file ≡ Some other) × (left < file_weight other)) [
      | true ↦ λ l h. (file, refl, ltb-true left (file_weight file) l)
      | false ↦ λ l h. absurd cc
    ] refl e
