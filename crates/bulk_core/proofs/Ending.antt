-- The first turn, and the last.
use Rattle.std.proofs.Common.{◌≡◌, ℕ, zero, suc, ◌<◌, Bool, true, false, List, [], replicate, refl, ap, sym, subst, ◌∙◌, Option, Some, None}
use Rattle.std.specs.Prelude.{◌||◌, map, is_some, Contains}
use Rattle.std.specs.List.{list_all, IsDistinct}
use Rattle.std.proofs.lemmas.Bool.{true≢false, both_ways}
use Rattle.std.proofs.lemmas.List.{append-nil, length-replicate}
use Rattle.std.proofs.lemmas.List.FromFn.{fill_by_all}
use Rattle.bulk_base.proofs.Members.{all_passes, passes_all, contains_none}
use Rattle.bulk_model.specs.declared.outcome.Outcome.{Outcome}
use Rattle.bulk_model.specs.declared.outcome.Outcome.TheVariants.{Built as MadePackage, Failed as FailedBuild}
use Rattle.bulk_model.specs.declared.plan.Kept.{Kept as KeptPackages}
use Rattle.bulk_model.specs.Bake.{Runs}
use Rattle.bulk_model.specs.Fit.{FitsPartial, outcome_at, has_built, is_there}
use Rattle.bulk_model.specs.Order.{bucket}
use Rattle.bulk_model.specs.PlanView.{PlanView, count, nodes, depends, is_ignored, away}
use Rattle.bulk_model.specs.PlanFacts.{IsPlan}
use Rattle.bulk_model.specs.Results.{is_kept}
use Rattle.model_laws.proofs.Graph.{target_below, all_away, depends_below}
use Rattle.bucket_queue.specs.declared.mark.Mark.TheVariants.{Ignored as IgnoredMark}
use Rattle.bucket_queue.specs.QueueView.{QueueView, first_queue, first_mark, next_of}
use Rattle.bucket_queue.proofs.Rest.{so_far_none, so_far_all}
use Rattle.bulk_core.specs.Builder.{Outcomes, Began}
use Rattle.bulk_core.specs.Turns.{Agrees, AreBuilds, IsEnded}
use Rattle.bulk_core.proofs.Lists.{agree_below}
use Rattle.bulk_core.proofs.Marks.{mark_by, mark_of, queue_of, none_next}
use Rattle.bulk_core.proofs.Running.{IsRun}

pub none_at : (count n : ℕ) → outcome_at (replicate count None) n ≡ None
none_at zero n = refl
none_at (suc count) zero = refl
none_at (suc count) (suc n) = none_at count n

-- nothing was begun yet
pub began_none : (plan : PlanView) (kept : KeptPackages) (given : Outcomes) (before : List (List ℕ)) → Began plan kept given before before
unfolding IsDistinct
began_none plan kept given before = record {
  numbers = [];
  grew = sym (append-nil before);
  once = tt;
  those = λ n c. absurd (contains_none n c);
}

module _ (tells : Bool) (runs : Runs) (plan : PlanView) (kept : KeptPackages) (given : Outcomes) (fits : FitsPartial plan kept given) (before : List (List ℕ)) where
  abbrev nones : Outcomes
  nones = replicate (count plan) None

  not_some : (n : ℕ) (o : Outcome) → outcome_at nones n ≡ Some o → ⊥
  not_some n o h = let z : None ≡ Some o = sym (none_at (count plan) n) ∙ h in cc

  first_is : first_queue plan kept ≡ queue_of plan kept nones
  first_is =
      ap (λ marks. record { edges = plan.edges; buckets = map (bucket plan) (nodes plan); marks = marks; halted = false })
      (agree_below (first_mark plan kept) (mark_of plan kept nones) (count plan) IgnoredMark (λ n l. ap (mark_by (is_kept kept n) (is_ignored plan n)) (sym (none_at (count plan) n))))

  pub begin : (queue : QueueView) → queue ≡ first_queue plan kept → IsRun tells runs plan kept given before given queue before
  unfolding IsDistinct
  begin queue e = record {
    ended = nones;
    numbers = [];
    queue_is = e ∙ first_is;
    fits = record {
      places = length-replicate (count plan) None;
      own = λ n o h. absurd (not_some n o h);
      behind = λ n o h. absurd (not_some n o h);
    };
    size = fits.places;
    same = λ n o h. absurd (not_some n o h);
    rest = λ n h. refl;
    stays = λ n o h. h;
    taken = λ n c. absurd (contains_none n c);
    listed = λ n o h. absurd (not_some n o h);
    once = tt;
    builds = λ statuses f n o h g. absurd (not_some n o h);
    so_far = λ is statuses results f. so_far_none plan is kept statuses results queue e;
    begun = sym (append-nil before);
  }

  -- where the queue gives none
  module _ (is : IsPlan plan) (outcomes : Outcomes) (queue : QueueView) (now : List (List ℕ)) (run : IsRun tells runs plan kept given before outcomes queue now) (e : None ≡ next_of queue) where
    none_here : next_of (queue_of plan kept run.ended) ≡ None
    none_here = ap next_of (sym run.queue_is) ∙ sym e

    there_case : (d : ℕ) → ((o : Outcome) → outcome_at given d ≡ Some o → outcome_at run.ended d ≡ Some o) → (b : Bool) → is_kept kept d ≡ b → (g : Option Outcome) → outcome_at given d ≡ g → (b || has_built g) ≡ true → is_there kept run.ended d ≡ true
    there_case d more true k g f h = ap (λ b. b || has_built (outcome_at run.ended d)) k
    there_case d more false k None f h = absurd (true≢false (sym h))
    there_case d more false k (Some (FailedBuild phase code)) f h = absurd (true≢false (sym h))
    there_case d more false k (Some (MadePackage p)) f h =
        ap (λ b. b || has_built (outcome_at run.ended d)) k ∙ ap has_built (more (MadePackage p) f)

    ended_case : (n : ℕ) (o : Outcome) → n < count plan → ((d : ℕ) → Contains (depends plan n) d → (p : Outcome) → outcome_at given d ≡ Some p → outcome_at run.ended d ≡ Some p) → outcome_at given n ≡ Some o
        → (x : Option Outcome) → outcome_at run.ended n ≡ x → outcome_at run.ended n ≡ Some o
    ended_case n o l more f (Some x) h = h ∙ sym (run.same n x h) ∙ run.stays n o f
    ended_case n o l more f None h =
        absurd (both_ways (list_all (is_there kept run.ended) (depends plan n))
        (none_next plan is kept run.ended run.fits none_here n l (fits.own n o f).0 (fits.own n o f).1 h)
        (passes_all (is_there kept run.ended) (depends plan n) (λ d c.
        there_case d (more d c) (is_kept kept d) refl (outcome_at given d) refl (all_passes (is_there kept given) (depends plan n) d (fits.behind n o f) c))))

    -- each given node was taken
    given_ended : (height n : ℕ) (o : Outcome) → n < count plan → away plan height n ≡ true → outcome_at given n ≡ Some o → outcome_at run.ended n ≡ Some o
    given_ended zero n o l gone f = absurd (true≢false (sym gone))
    given_ended (suc height) n o l gone f =
        ended_case n o l (λ d c p g. given_ended height d p (target_below plan is n d l c) (depends_below plan height n d gone c) g) f (outcome_at run.ended n) refl

    outcome_case : (n : ℕ) → n < count plan → (x : Option Outcome) → outcome_at run.ended n ≡ x → (g : Option Outcome) → outcome_at given n ≡ g → outcome_at outcomes n ≡ outcome_at run.ended n
    outcome_case n l (Some x) h g f = run.same n x h ∙ sym h
    outcome_case n l None h None f = run.rest n h ∙ f ∙ sym h
    outcome_case n l None h (Some o) f = absurd (let z : None ≡ Some o = sym h ∙ given_ended (count plan) n o l (all_away plan is n l) f in cc)

    all_ended : run.ended ≡ outcomes
    all_ended =
        fill_by_all (λ n. outcome_at run.ended n) run.ended (count plan) None run.fits.places (λ n l. refl)
        ∙ sym (fill_by_all (λ n. outcome_at run.ended n) outcomes (count plan) None run.size (λ n l. outcome_case n l (outcome_at run.ended n) refl (outcome_at given n) refl))

    pub is_ended : IsEnded tells runs plan kept given outcomes before now
    is_ended = record {
      numbers = run.numbers;
      begun = run.begun;
      order_is = λ statuses results f. so_far_all plan is kept statuses results queue run.numbers (sym e) (run.so_far is statuses results (subst (λ x. Agrees plan kept x statuses) (sym all_ended) f));
      taken = λ n c. ap (λ x. is_some (outcome_at x n)) (sym all_ended) ∙ run.taken n c;
      listed = λ n o h. run.listed n o (ap (λ x. outcome_at x n) all_ended ∙ h);
      once = run.once;
      fits = subst (FitsPartial plan kept) all_ended run.fits;
      stays = run.stays;
      builds = subst (AreBuilds tells runs plan kept given) all_ended run.builds;
      none_left = λ n l k i h.
          ap (λ x. list_all (is_there kept x) (depends plan n)) (sym all_ended)
          ∙ none_next plan is kept run.ended run.fits none_here n l k i (ap (λ x. outcome_at x n) all_ended ∙ h);
    }
