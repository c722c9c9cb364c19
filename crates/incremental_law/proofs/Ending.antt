-- Runs one after another, and what one that is done leaves.
use Rattle.std.proofs.Common.{◌≡◌, ℕ, ◌<◌, Bool, true, false, List, [], ◌∷◌, ◌++◌, ap, sym, subst, ◌∙◌, refl, Option, Some, None, inl, inr, ◌⊎◌}
use Rattle.std.specs.Prelude.{is_some, Contains}
use Rattle.std.specs.List.{list_all}
use Rattle.std.proofs.lemmas.Option.{same_Some}
use Rattle.outside.specs.Changes.{replayed}
use Rattle.outside.specs.Contents.{Contents}
use Rattle.outside.specs.declared.change.Change.TheVariants.{Put}
use Rattle.bulk_model.specs.declared.outcome.Outcome.{Outcome}
use Rattle.bulk_model.specs.declared.outcome.Outcome.TheVariants.{Built as MadePackage, Failed as FailedBuild}
use Rattle.bulk_model.specs.declared.results.Status.{Status}
use Rattle.bulk_model.specs.declared.results.Status.TheVariants.{Kept, Built, Failed, Ignored, Skipped}
use Rattle.bulk_model.specs.declared.plan.Kept.{Kept as KeptPackages}
use Rattle.bulk_model.specs.Bake.{Runs, bake}
use Rattle.bulk_model.specs.FileNames.{catalogue_file}
use Rattle.bulk_model.specs.Journal.{removals}
use Rattle.bulk_model.specs.PlanView.{PlanView, count, job_at, node_at, is_ignored, depends}
use Rattle.bulk_model.specs.Results.{bakes_by, kept_at, is_good, package_in, status_at}
use Rattle.bulk_model.specs.Sound.{Recipe, IsTable, IsSound}
use Rattle.bulk_model.specs.Views.{PackageView, node_of_package}
use Rattle.pkg_record.specs.Stored.{packages_in}
use Rattle.record_laws.proofs.Storing.{there, one_a_name}
use Rattle.model_laws.proofs.Following.{results_unfold}
use Rattle.incremental_law.specs.Stores.{IsStore}
use Rattle.incremental_law.specs.Clean.{none_kept, as_built}
use Rattle.incremental_law.specs.Laws.{RunsStaySound, DoneRunsAreClean}
use Rattle.incremental_law.specs.Runs.{OneRun, IsRunOver, IsDone, HasCleanPackages, kept_of_run}
use Rattle.incremental_law.proofs.Adding.{res, comes_from, packages_of, package_says}
use Rattle.incremental_law.proofs.Making.{incremental_clean, fresh_made}
use Rattle.incremental_law.proofs.Recording.{IsThere}
use Rattle.incremental_law.proofs.Running.{sound_at, ended_holds, ended_there}

-- what is asked of a store, of a run over it
pub store_of : (runs : Runs) (table : List Recipe) (run : OneRun) (content : Contents) → IsTable table → IsRunOver runs table run content → IsSound runs table (packages_in content)
    → IsStore runs table run.plan run.tree run.own (packages_in content)
store_of runs table run content is_table over sound = record {
  is_plan = over.is_plan;
  orderly = over.orderly;
  is_tree = over.is_tree;
  of_tree = over.of_tree;
  is_table = is_table;
  agrees = over.agrees;
  current = over.current;
  names = λ p q c d e. one_a_name content p q (there content p c) (there content q d) e;
  sound = sound;
}

pub runs_sound : RunsStaySound
runs_sound runs table [] content is_table are sound = sound
runs_sound runs table (run ∷ more) content is_table are sound =
    runs_sound runs table more (replayed run.changes content) is_table are.1
    (sound_at runs table run.plan run.tree run.own content run.deleted (store_of runs table run content is_table are.0 sound) are.0.rest run.changes are.0.journal)

-- a status that counts as built has its package
built_cases : (s : Status) (p : PackageView) → as_built s ≡ Built p → (s ≡ Kept p) ⊎ (s ≡ Built p)
built_cases (Kept q) p e = inl (ap Kept (cc e))
built_cases (Built q) p e = inr e
built_cases (Failed phase code) p e = absurd (cc e)
built_cases Ignored p e = absurd (cc e)
built_cases Skipped p e = absurd (cc e)

built_from : (s : Status) (p : PackageView) → package_in s ≡ Some p → as_built s ≡ Built p
built_from (Kept q) p e = ap Built (same_Some q p e)
built_from (Built q) p e = ap Built (same_Some q p e)
built_from (Failed phase code) p e = absurd (cc e)
built_from Ignored p e = absurd (cc e)
built_from Skipped p e = absurd (cc e)

-- only what is kept has the status of what is kept
kept_case : (o : Option PackageView) (ignored good : Bool) (r : Outcome) (p : PackageView) → comes_from o ignored good r ≡ Kept p → is_some o ≡ true
kept_case (Some q) ignored good r p e = refl
kept_case None true good r p e = absurd (cc e)
kept_case None false false r p e = absurd (cc e)
kept_case None false true (MadePackage q) p e = absurd (cc e)
kept_case None false true (FailedBuild phase code) p e = absurd (cc e)

module _ (runs : Runs) (table : List Recipe) (run : OneRun) (content : Contents) (is_table : IsTable table) (over : IsRunOver runs table run content) (sound : IsSound runs table (packages_in content))
    (done : IsDone runs run content) where
  abbrev plan : PlanView
  plan = run.plan

  abbrev kept : KeptPackages
  kept = kept_of_run run content

  store : IsStore runs table run.plan run.tree run.own (packages_in content)
  store = store_of runs table run content is_table over sound

  abbrev last : Contents
  last = replayed (removals run.deleted ++ done.puts ++ Put catalogue_file done.catalogue ∷ []) content

  is_there : (n : ℕ) (p : PackageView) → n < count plan → as_built (res runs plan kept n) ≡ Built p → IsThere runs plan kept (packages_in last) n
  is_there n p l e =
      ended_there runs table plan run.tree run.own content run.deleted store over.rest done.puts done.catalogue done.are n l
      (elim (built_cases (res runs plan kept n) p e) [
        | inl k ↦ inl (kept_case (kept_at kept n) (is_ignored plan n) (list_all (λ m. is_good (res runs plan kept m)) (depends plan n)) (bake runs plan.base (job_at plan n) (packages_of runs plan kept n)) p
            (sym (results_unfold (bakes_by runs plan) plan kept over.is_plan n l) ∙ k))
        | inr b ↦ inr (done.all n p l b)
      ])

  -- a status that counts as built has this package
  has_it : (s : Status) (p : PackageView) → as_built s ≡ Built p → package_in s ≡ Some p
  has_it s p e = elim (built_cases s p e) [ inl k ↦ ap package_in k | inr b ↦ ap package_in b ]

  clean_at : (n : ℕ) → n < count plan → as_built (res runs plan kept n) ≡ status_at (bakes_by runs plan) plan (none_kept plan) n
  clean_at = incremental_clean runs table plan run.tree run.own (packages_in content) store

  leads : (n : ℕ) (p : PackageView) → n < count plan → status_at (bakes_by runs plan) plan (none_kept plan) n ≡ Built p → Contains (packages_in last) p × (node_of_package p ≡ node_at plan n)
  leads n p l h =
      let e : as_built (res runs plan kept n) ≡ Built p = clean_at n l ∙ h in
      let its : package_in (res runs plan kept n) ≡ Some p = has_it (res runs plan kept n) p e in
      let t : IsThere runs plan kept (packages_in last) n = is_there n p l e in (
        subst (λ q. Contains (packages_in last) q) (same_Some t.one p (sym t.comes ∙ its)) t.is,
        (package_says runs plan kept over.is_plan (fresh_made runs table plan run.tree run.own (packages_in content) store) n p l its).says.node,
      )

  comes : (n : ℕ) (p : PackageView) → n < count plan → Contains (packages_in last) p × (node_of_package p ≡ node_at plan n) → status_at (bakes_by runs plan) plan (none_kept plan) n ≡ Built p
  comes n p l h =
      sym (clean_at n l)
      ∙ built_from (res runs plan kept n) p ((ended_holds runs table plan run.tree run.own content run.deleted store over.rest done.puts done.catalogue done.are).of n p l h.0 h.1)

  pub clean : HasCleanPackages runs plan (replayed run.changes content)
  clean = subst (λ changes. HasCleanPackages runs plan (replayed changes content)) (sym done.is) (λ n p l. (leads n p l, comes n p l))

pub done_clean : DoneRunsAreClean
done_clean runs table run content is_table over sound done = clean runs table run content is_table over sound done
