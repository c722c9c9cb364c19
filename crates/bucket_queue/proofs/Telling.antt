-- Marks that tell which builds went well.
use Rattle.std.proofs.Common.{◌≡◌, Bool, true, false, List, length, get_or, replicate, refl, ap, sym, ◌∙◌, arith, cond, Option, Some, None}
use Rattle.std.specs.Prelude.{map}
use Rattle.std.specs.Option.{option_map_or}
use Rattle.std.proofs.lemmas.Bool.{true≢false}
use Rattle.std.proofs.lemmas.List.{get_or-map, get_or-replicate}
use Rattle.std.proofs.lemmas.List.FromFn.{length-map-range_with_len}
use Rattle.bulk_model.specs.declared.outcome.Outcome.TheVariants.{Built as MadePackage}
use Rattle.bulk_model.specs.declared.results.Status.{Status}
use Rattle.bulk_model.specs.declared.results.Status.TheVariants.{Kept, Ignored, Skipped}
use Rattle.bulk_model.specs.declared.plan.Kept.{Kept as KeptPackages}
use Rattle.bulk_model.specs.Views.{PackageView}
use Rattle.bulk_model.specs.PlanView.{PlanView, count}
use Rattle.bulk_model.specs.PlanFacts.{IsPlan}
use Rattle.bulk_model.specs.DryLists.{bakes_well, dry_statuses}
use Rattle.bulk_model.specs.Fit.{status_in}
use Rattle.bulk_model.specs.Order.{is_tried}
use Rattle.bulk_model.specs.Results.{kept_at, is_good, status_of_outcome, status_at}
use Rattle.model_laws.proofs.Following.{results_unfold, results_stand}
use Rattle.bucket_queue.specs.Taking.{AreResults, TellWell}

pub results_size : (plan : PlanView) (kept : KeptPackages) (statuses : List Status)
    → AreResults plan kept statuses → length statuses ≡ count plan
results_size plan kept statuses results =
    ap length results.are ∙ length-map-range_with_len (status_at results.bakes plan kept) 0 (count plan)

pub statuses_tell : (plan : PlanView) (kept : KeptPackages) (statuses : List Status)
    → AreResults plan kept statuses → (well : List Bool) → well ≡ map is_good statuses → TellWell plan statuses well
statuses_tell plan kept statuses results well e n l tried =
    ap (λ xs. get_or xs n false) e
    ∙ get_or-map is_good statuses n Skipped false (let size : length statuses ≡ count plan = results_size plan kept statuses results in omega arith)

pub dry_results : (plan : PlanView) (kept : KeptPackages) → AreResults plan kept (dry_statuses plan kept)
dry_results plan kept = record { bakes = bakes_well plan; are = refl }

well_case : (k : Option PackageView) (i g : Bool) (p : PackageView)
    → is_tried (option_map_or Kept k (cond i Ignored (cond g (status_of_outcome (MadePackage p)) Skipped))) ≡ true
    → is_good (option_map_or Kept k (cond i Ignored (cond g (status_of_outcome (MadePackage p)) Skipped))) ≡ true
well_case (Some q) i g p h = refl
well_case None true g p h = absurd (true≢false (sym h))
well_case None false true p h = refl
well_case None false false p h = absurd (true≢false (sym h))

pub dry_tell : (plan : PlanView) → IsPlan plan → (kept : KeptPackages) (well : List Bool)
    → well ≡ replicate (count plan) true → TellWell plan (dry_statuses plan kept) well
dry_tell plan is kept well e n l tried =
    let stands : status_in (dry_statuses plan kept) n ≡ _ =
    results_stand (bakes_well plan) plan kept n l ∙ results_unfold (bakes_well plan) plan kept is n l in
    ap (λ xs. get_or xs n false) e ∙ get_or-replicate (count plan) n true false l
    ∙ sym (ap is_good stands ∙ well_case (kept_at kept n) _ _ _ (sym (ap is_tried stands) ∙ tried))
