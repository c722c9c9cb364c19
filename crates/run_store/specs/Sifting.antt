-- What of a store goes, and what stays for a plan (docs/DEFINITIONS.md, "The steps of a run").
use Rattle.std.specs.Prelude.{ℕ, List, [], Result, Ok}
use Rattle.port_vars.specs.Assignment.{◌>>=◌}
use Rattle.bulk_base.specs.declared.file.FileItem.{FileItem}
use Rattle.bulk_model.specs.declared.digest.Recipes.{Recipes}
use Rattle.bulk_model.specs.declared.reason.Stale.{Stale}
use Rattle.bulk_model.specs.PlanView.{PlanView}
use Rattle.bulk_model.specs.Views.{PackageView}
use Rattle.outside.specs.Contents.{Contents}
use Rattle.pkg_store.specs.Loaded.{LoadedView}
use Rattle.pkg_store.specs.Loading.{loaded_in, names_in}
use Rattle.plan_maker.specs.Over.{IsOver}
use Rattle.plan_maker.specs.Recipes.{recipes_in}
use Rattle.run_answer.specs.declared.answer.Answer.{Answer}
use Rattle.run_store.specs.declared.sifting.Sifted.{Sifted}
use Rattle.run_store.specs.Told.{load_answer}
use Rattle.stale_check.specs.Kept.{kept_among}
use Rattle.stale_check.specs.Own.{own}
use Rattle.stale_check.specs.Stale.{all_asked, held, left, stale}
use Rattle.tree_index.specs.Faults.{refused_as}
use Rattle.tree_index.specs.Index.{IndexView}

-- the plan is of some wanted nodes of the index
abbrev pub IsOverSome : IndexView → PlanView → Type 0
IsOverSome index plan = (wanted : List ℕ) × IsOver index wanted plan

-- the recipes of the nodes that a store holds packages of
abbrev pub held_recipes : Contents → IndexView → List FileItem → LoadedView → Recipes
held_recipes content index base loaded =
    record { digests = recipes_in content index base (held index loaded) }

-- what goes, what stays at the plan's nodes, and all that stays
abbrev pub sifted_as : PlanView → List Stale → List PackageView → Sifted
sifted_as plan deleted stay =
    record { deleted = deleted; kept = kept_among plan stay; left = stay }

-- of a store that was read, by the recipes of its nodes
abbrev pub sifted : IndexView → PlanView → List ℕ → LoadedView → Recipes → Sifted
sifted index plan asked loaded recipes =
    sifted_as plan (stale index loaded asked recipes)
    (left (own index asked recipes) loaded.packages)

-- the limits of the store, then what goes and stays by the recipes that the tree gives
unfoldable pub sift_step : Contents → Contents → IndexView → PlanView → List ℕ
    → Result Sifted Answer
sift_step tree store index plan asked = do
  loaded ← refused_as load_answer (loaded_in store)
  Ok (sifted index plan asked loaded (held_recipes tree index plan.base loaded))

-- the same where every package was asked for: nothing is read
unfoldable pub sift_all_step : Contents → PlanView → Result Sifted Answer
sift_all_step store plan = do
  names ← refused_as load_answer (names_in store)
  Ok (sifted_as plan (all_asked names) [])
