-- What a desk is about, what its store and the rooms tell, and which nodes are done.
use Rattle.std.specs.Prelude.{◌≡◌, ℕ, Bool, not, ◌||◌, List, Option, Some, IsTrue}
use Rattle.std.specs.List.{list_all}
use Rattle.std.specs.Option.{option_map}
use Rattle.outside.specs.Contents.{Contents}
use Rattle.outside.specs.declared.change.Change.{Change}
use Rattle.bulk_base.specs.Least.{least_passing}
use Rattle.bulk_model.specs.declared.plan.Kept.{Kept as KeptPackages}
use Rattle.bulk_model.specs.Bake.{Runs}
use Rattle.bulk_model.specs.Flags.{flag}
use Rattle.bulk_model.specs.FileNames.{package_file}
use Rattle.bulk_model.specs.PlanView.{PlanView, depends, job_at}
use Rattle.bulk_model.specs.Results.{bakes_by, is_kept, package_in, status_at}
use Rattle.bulk_model.specs.Spelling.{spelling}
use Rattle.store_desk.specs.declared.view.Key.{Key}
use Rattle.store_desk.specs.declared.view.Origin.{Origin}

-- what the store's type and the type of the rooms' ways tell
pub record Lore (X : Type 0) : Type 0 where
  pub tells : Bool
  pub content : X → Contents
  pub journal : X → List Change
  pub faults : X → ℕ
  pub rooms_tell : Bool
  pub runs : Runs

abbrev pub lore : {X : Type 0} → Bool → (X → Contents) → (X → List Change) → (X → ℕ) → Bool
    → Runs → Lore X
lore tells content journal faults rooms_tell runs = record {
  tells = tells;
  content = content;
  journal = journal;
  faults = faults;
  rooms_tell = rooms_tell;
  runs = runs;
}

abbrev pub origin_of : {X : Type 0} → Lore X → Key X → Origin
origin_of l key = record {
  plan = key.plan.value;
  kept = key.kept.value;
  journal = l.journal key.store.value;
  content = l.content key.store.value;
  first = l.faults key.store.value;
}

-- the name of a node's package file
abbrev pub file_of : PlanView → ℕ → List ℕ
file_of plan n = package_file (job_at plan n).name

-- a node is kept or marked as saved
abbrev pub is_done : KeptPackages → List Bool → ℕ → Bool
is_done kept saved d = is_kept kept d || flag saved d

-- each dependency is kept or saved
abbrev pub all_done : PlanView → KeptPackages → List Bool → ℕ → Bool
all_done plan kept saved n = list_all (is_done kept saved) (depends plan n)

-- the least dependency that is neither kept nor saved, or none
abbrev pub least_open : PlanView → KeptPackages → List Bool → ℕ → Option ℕ
least_open plan kept saved n = least_passing (λ d. not (is_done kept saved d)) (depends plan n)

-- the bytes of a node's package, where rooms tell what commands do
abbrev pub built_bytes : Runs → PlanView → KeptPackages → ℕ → Option (List ℕ)
built_bytes runs plan kept n =
    option_map spelling (package_in (status_at (bakes_by runs plan) plan kept n))

-- bytes that may be put at a node: where rooms tell, the record of the package that one builder
-- gives
abbrev pub IsRight : Bool → Runs → PlanView → KeptPackages → ℕ → List ℕ → Type 0
IsRight tell runs plan kept n bytes = IsTrue tell → built_bytes runs plan kept n ≡ Some bytes
