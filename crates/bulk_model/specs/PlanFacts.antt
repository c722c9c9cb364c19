-- What holds of every plan.
use Rattle.std.specs.Prelude.{◌≡◌, ℕ, Bool, true, not, ◌||◌, ◌^◌, ◌<◌, List, [], ◌∷◌, length, map, codes, None, IsTrue, bytes_eq}
use Rattle.std.specs.List.{list_all, list_any, All, IsDistinct}
use Rattle.bulk_base.specs.Path.{is_below}
use Rattle.bulk_base.specs.declared.file.FileItem.{FileItem}
use Rattle.bulk_model.specs.PlanView.{PlanView, count, depends, is_ignored, is_loopless}
use Rattle.bulk_model.specs.Bake.{first_conflict}
use Rattle.bulk_model.specs.Facts.{IsFileList, paths_of}

-- a path whose first part is one of the folders that a build fills
abbrev pub is_reserved : List ℕ → Bool
is_reserved path =
    list_any (λ folder. bytes_eq folder path || is_below folder path)
    (codes "local" ∷ codes "work" ∷ codes "stage" ∷ [])

-- the base root: files of which none stands where a build puts its own
pub record IsBase (files : List FileItem) : Type 0 where
  pub form : IsFileList 1024 files
  pub free : IsTrue (list_all (λ path. not (is_reserved path)) (paths_of files))

-- files over which a build may be: no two collide, and none stands where a build puts its own
pub record MayUnderlie (files : List FileItem) : Type 0 where
  pub apart : first_conflict [] files ≡ None
  pub free : IsTrue (list_all (λ path. not (is_reserved path)) (paths_of files))

pub record IsPlan (plan : PlanView) : Type 0 where
  -- as many places as jobs
  pub few : count plan < 2 ^ 32
  pub edges : length plan.edges ≡ count plan
  pub ignored : length plan.ignored ≡ count plan
  pub boosted : length plan.boosted ≡ count plan
  -- the graph: its targets are nodes, nothing is needed of an ignored node's dependencies, and there is no loop
  pub targets : (n : ℕ) → n < count plan → All (λ to. to < count plan) (depends plan n)
  pub without : (n : ℕ) → n < count plan → is_ignored plan n ≡ true → depends plan n ≡ []
  pub loopless : IsTrue (is_loopless plan)
  -- the rest
  pub wanted : All (λ n. n < count plan) plan.wanted
  pub names : IsDistinct bytes_eq (map (λ job. job.name) plan.jobs)
  pub base : IsBase plan.base
