-- What a run changes in a store, up to any moment: it removes files, then puts packages, then the catalogue.
use Rattle.std.specs.Prelude.{◌≡◌, ℕ, true, false, ◌<◌, ◌||◌, List, [], ◌∷◌, ◌++◌, map, take}
use Rattle.std.specs.List.{list_all}
use Rattle.outside.specs.declared.change.Change.{Change}
use Rattle.outside.specs.declared.change.Change.TheVariants.{Put, Remove}
use Rattle.bulk_model.specs.declared.plan.Kept.{Kept as KeptPackages}
use Rattle.bulk_model.specs.FileNames.{package_file, catalogue_file}
use Rattle.bulk_model.specs.Installs.{has}
use Rattle.bulk_model.specs.PlanView.{PlanView, count, depends, is_ignored, job_at}
use Rattle.bulk_model.specs.Results.{is_kept}

-- what may be put at a node
abbrev pub Passes : Type 1
Passes = ℕ → List ℕ → Type 0

-- a put of a node that is neither kept nor ignored and whose dependencies are kept or put before
pub record IsPutOf (plan : PlanView) (kept : KeptPackages) (passes : Passes) (done : List ℕ) (n : ℕ)
    (change : Change) : Type 0 where
  pub node : n < count plan
  pub new : is_kept kept n ≡ false
  pub allowed : is_ignored plan n ≡ false
  pub behind : list_all (λ d. is_kept kept d || has done d) (depends plan n) ≡ true
  pub bytes : List ℕ
  pub passing : passes n bytes
  pub is : change ≡ Put (package_file (job_at plan n).name) bytes

-- puts one after another, behind those of the nodes that are done
abbrev pub ArePuts : PlanView → KeptPackages → Passes → List ℕ → List Change → Type 0
ArePuts plan kept passes done [] = Unit {0}
ArePuts plan kept passes done (change ∷ changes) =
    (n : ℕ) × IsPutOf plan kept passes done n change × ArePuts plan kept passes (n ∷ done) changes

abbrev pub removals : List (List ℕ) → List Change
removals names = map Remove names

-- the changes of a run that was to delete these files, up to any moment of it
pub data IsJournal (plan : PlanView) (kept : KeptPackages) (passes : Passes)
    (deleted : List (List ℕ)) : List Change → Type 0 where
  deleting : (steps : ℕ) → IsJournal plan kept passes deleted (take steps (removals deleted))
  saving : (puts : List Change) → ArePuts plan kept passes [] puts
      → IsJournal plan kept passes deleted (removals deleted ++ puts)
  ended : (puts : List Change) (catalogue : List ℕ) → ArePuts plan kept passes [] puts
      → IsJournal plan kept passes deleted
      (removals deleted ++ puts ++ Put catalogue_file catalogue ∷ [])
