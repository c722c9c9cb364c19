-- The marks of a queue by the outcomes of the nodes that were taken.
use Rattle.std.proofs.Common.{◌≡◌, ℕ, zero, suc, ◌<◌, Bool, true, false, [], ◌∷◌, length, get_or, set, refl, ap, sym, subst, ◌∙◌, arith, cond, Option, Some, None, inl, inr, ◌⊎◌}
use Rattle.std.specs.Prelude.{◌&&◌, ◌||◌, map}
use Rattle.std.specs.List.{list_all}
use Rattle.std.specs.Option.{option_map_or}
use Rattle.std.proofs.lemmas.Bool.{true≢false, and_parts, cases_eq}
use Rattle.std.proofs.lemmas.List.{get_or-set_same, get_or-set_other, length-set}
use Rattle.std.proofs.lemmas.List.FromFn.{length-map-range_with_len, get_or-map-range_with_len, fill_by_all}
use Rattle.bulk_base.proofs.Members.{list_all_agree, all_passes, passes_all}
use Rattle.bulk_model.specs.declared.outcome.Outcome.{Outcome}
use Rattle.bulk_model.specs.declared.outcome.Outcome.TheVariants.{Built as MadePackage, Failed as FailedBuild}
use Rattle.bulk_model.specs.declared.plan.Kept.{Kept as KeptPackages}
use Rattle.bulk_model.specs.Fit.{outcome_at, has_built, is_there, FitsPartial}
use Rattle.bulk_model.specs.Order.{bucket}
use Rattle.bulk_model.specs.PlanView.{PlanView, count, nodes, depends, is_ignored}
use Rattle.bulk_model.specs.PlanFacts.{IsPlan}
use Rattle.bulk_model.specs.Results.{is_kept}
use Rattle.model_laws.proofs.Graph.{target_below}
use Rattle.bucket_queue.specs.declared.mark.Mark.{Mark}
use Rattle.bucket_queue.specs.declared.mark.Mark.TheVariants.{Kept as KeptMark, Ignored as IgnoredMark, Free, Done, Bad}
use Rattle.bucket_queue.specs.QueueView.{QueueView, next_of, with_mark, is_free, has_package, mark_at, is_ready}
use Rattle.bucket_queue.proofs.Best.{found_best, none_found}
use Rattle.bulk_core.specs.Builder.{Outcomes}
use Rattle.bulk_core.specs.Turns.{is_made}
use Rattle.bulk_core.proofs.Lists.{zero_more}

abbrev pub end_of : Outcome → Mark
end_of outcome = cond (is_made outcome) Done Bad

abbrev pub mark_by : Bool → Bool → Option Outcome → Mark
mark_by kept ignored outcome = cond kept KeptMark (cond ignored IgnoredMark (option_map_or end_of outcome Free))

abbrev pub mark_of : PlanView → KeptPackages → Outcomes → ℕ → Mark
mark_of plan kept outcomes n = mark_by (is_kept kept n) (is_ignored plan n) (outcome_at outcomes n)

-- the queue once these outcomes are there
abbrev pub queue_of : PlanView → KeptPackages → Outcomes → QueueView
queue_of plan kept outcomes = record { edges = plan.edges; buckets = map (bucket plan) (nodes plan); marks = map (mark_of plan kept outcomes) (nodes plan); halted = false }

-- an outcome stands at a place of the list
pub within : (outcomes : Outcomes) (n : ℕ) (o : Outcome) → outcome_at outcomes n ≡ Some o → n < length outcomes
within [] n o e = absurd (let z : ◌≡◌ {A = Option Outcome} None (Some o) = e in cc)
within (x ∷ xs) zero o e = omega arith
within (x ∷ xs) (suc n) o e = let l : n < length xs = within xs n o e in omega arith

package_case : (k i : Bool) (o : Option Outcome) → ((x : Outcome) → o ≡ Some x → i ≡ false) → has_package (mark_by k i o) ≡ (k || has_built o)
package_case true i o own = refl
package_case false true None own = refl
package_case false true (Some x) own = absurd (true≢false (own x refl))
package_case false false None own = refl
package_case false false (Some (MadePackage p)) own = refl
package_case false false (Some (FailedBuild phase code)) own = refl

free_parts : (k i : Bool) (o : Option Outcome) → is_free (mark_by k i o) ≡ true → (k ≡ false) × (i ≡ false) × (o ≡ None)
free_parts true i o h = absurd (true≢false (sym h))
free_parts false true o h = absurd (true≢false (sym h))
free_parts false false None h = (refl, refl, refl)
free_parts false false (Some (MadePackage p)) h = absurd (true≢false (sym h))
free_parts false false (Some (FailedBuild phase code)) h = absurd (true≢false (sym h))

free_mark : (k i : Bool) (o : Option Outcome) → k ≡ false → i ≡ false → o ≡ None → is_free (mark_by k i o) ≡ true
free_mark true i o a b c = absurd (true≢false a)
free_mark false true o a b c = absurd (true≢false b)
free_mark false false (Some x) a b c = let z : Some x ≡ None = c in cc
free_mark false false None a b c = refl

module _ (plan : PlanView) (is : IsPlan plan) (kept : KeptPackages) (outcomes : Outcomes) (fits : FitsPartial plan kept outcomes) where
  abbrev view : QueueView
  view = queue_of plan kept outcomes

  pub marks_size : length view.marks ≡ count plan
  marks_size = length-map-range_with_len (mark_of plan kept outcomes) 0 (count plan)

  mark_is : (n : ℕ) → n < count plan → mark_at view.marks n ≡ mark_of plan kept outcomes n
  mark_is n l = get_or-map-range_with_len (mark_of plan kept outcomes) 0 (count plan) n n IgnoredMark l (zero_more n)

  abbrev there : ℕ → Bool
  there n = list_all (is_there kept outcomes) (depends plan n)

  ready_is : (n : ℕ) → n < count plan → is_ready view n ≡ (is_free (mark_of plan kept outcomes n) && there n)
  ready_is n l =
      ap (λ m. is_free m && list_all (λ d. has_package (mark_at view.marks d)) (depends plan n)) (mark_is n l)
      ∙ ap (λ b. is_free (mark_of plan kept outcomes n) && b)
      (list_all_agree (λ d. has_package (mark_at view.marks d)) (is_there kept outcomes) (depends plan n)
      (λ d c. ap has_package (mark_is d (target_below plan is n d l c))
      ∙ package_case (is_kept kept d) (is_ignored plan d) (outcome_at outcomes d) (λ x e. (fits.own d x e).1)))

  -- what `next` gives may be built
  pub record Next (n : ℕ) : Type 0 where
    pub node : n < count plan
    pub kept_not : is_kept kept n ≡ false
    pub ignored_not : is_ignored plan n ≡ false
    pub new : outcome_at outcomes n ≡ None
    pub behind : list_all (is_there kept outcomes) (depends plan n) ≡ true

  pub next_is : (n : ℕ) → next_of view ≡ Some n → Next n
  next_is n e =
      let found : (n < length view.marks) × (is_ready view n ≡ true) = (found_best (is_ready view) view.buckets (length view.marks)).is n e in
      let l : n < count plan = subst (λ k. n < k) marks_size found.0 in
      let both : (is_free (mark_of plan kept outcomes n) ≡ true) × (there n ≡ true) =
      and_parts (is_free (mark_of plan kept outcomes n)) (there n) (sym (ready_is n l) ∙ found.1) in
      let parts : (is_kept kept n ≡ false) × (is_ignored plan n ≡ false) × (outcome_at outcomes n ≡ None) = free_parts (is_kept kept n) (is_ignored plan n) (outcome_at outcomes n) both.0 in
      record { node = l; kept_not = parts.0; ignored_not = parts.1; new = parts.2; behind = both.1 }

  -- where none is ready each node that could be built has a dependency without a package
  pub none_next : next_of view ≡ None → (n : ℕ) → n < count plan → is_kept kept n ≡ false → is_ignored plan n ≡ false → outcome_at outcomes n ≡ None
      → list_all (is_there kept outcomes) (depends plan n) ≡ false
  none_next e n l k i o =
      ap (λ b. b && there n) (sym (free_mark (is_kept kept n) (is_ignored plan n) (outcome_at outcomes n) k i o))
      ∙ sym (ready_is n l) ∙ none_found (is_ready view) view.buckets (length view.marks) e n (subst (λ k. n < k) (sym marks_size) l)

  -- a node more has its outcome
  module _ (n : ℕ) (next : Next n) (outcome : Outcome) where
    abbrev now : Outcomes
    now = set outcomes n (Some outcome)

    pub at_node : outcome_at now n ≡ Some outcome
    at_node = get_or-set_same outcomes n (Some outcome) None (subst (λ k. n < k) (sym fits.places) next.node)

    pub elsewhere : (m : ℕ) → (m ≡ n → ⊥) → outcome_at now m ≡ outcome_at outcomes m
    elsewhere m apart = get_or-set_other outcomes n m (Some outcome) None apart

    mark_case : (k : ℕ) → k < count plan → (k ≡ n) ⊎ (k ≡ n → ⊥) → get_or (set view.marks n (end_of outcome)) k IgnoredMark ≡ mark_of plan kept now k
    mark_case k l (inl same) =
        ap (λ x. get_or (set view.marks n (end_of outcome)) x IgnoredMark) same
        ∙ get_or-set_same view.marks n (end_of outcome) IgnoredMark (subst (λ c. n < c) (sym marks_size) next.node)
        ∙ sym (ap (mark_of plan kept now) same ∙ ap (λ b. mark_by b (is_ignored plan n) (outcome_at now n)) next.kept_not ∙ ap (λ b. mark_by false b (outcome_at now n)) next.ignored_not ∙ ap (mark_by false false) at_node)
    mark_case k l (inr apart) =
        get_or-set_other view.marks n k (end_of outcome) IgnoredMark apart ∙ mark_is k l
        ∙ sym (ap (mark_by (is_kept kept k) (is_ignored plan k)) (elsewhere k apart))

    pub ended_view : with_mark view n (end_of outcome) ≡ queue_of plan kept now
    ended_view =
        ap (λ marks. record { edges = plan.edges; buckets = map (bucket plan) (nodes plan); marks = marks; halted = false })
        (fill_by_all (mark_of plan kept now) (set view.marks n (end_of outcome)) (count plan) IgnoredMark (length-set view.marks n (end_of outcome) ∙ marks_size) (λ k l. mark_case k l (cases_eq k n)))

    not_there : is_there kept outcomes n ≡ false
    not_there = ap (λ b. b || has_built (outcome_at outcomes n)) next.kept_not ∙ ap has_built next.new

    there_case : (d : ℕ) → is_there kept outcomes d ≡ true → (d ≡ n) ⊎ (d ≡ n → ⊥) → is_there kept now d ≡ true
    there_case d h (inl same) = absurd (true≢false (sym h ∙ ap (is_there kept outcomes) same ∙ not_there))
    there_case d h (inr apart) = ap (λ o. is_kept kept d || has_built o) (elsewhere d apart) ∙ h

    still_there : (m : ℕ) → list_all (is_there kept outcomes) (depends plan m) ≡ true → list_all (is_there kept now) (depends plan m) ≡ true
    still_there m h = passes_all (is_there kept now) (depends plan m) (λ d c. there_case d (all_passes (is_there kept outcomes) (depends plan m) d h c) (cases_eq d n))

    own_case : (m : ℕ) (o : Outcome) → outcome_at now m ≡ Some o → (m ≡ n) ⊎ (m ≡ n → ⊥) → (is_kept kept m ≡ false) × (is_ignored plan m ≡ false)
    own_case m o e (inl same) = (ap (is_kept kept) same ∙ next.kept_not, ap (is_ignored plan) same ∙ next.ignored_not)
    own_case m o e (inr apart) = fits.own m o (sym (elsewhere m apart) ∙ e)

    behind_case : (m : ℕ) (o : Outcome) → outcome_at now m ≡ Some o → (m ≡ n) ⊎ (m ≡ n → ⊥) → list_all (is_there kept now) (depends plan m) ≡ true
    behind_case m o e (inl same) = still_there m (ap (λ x. list_all (is_there kept outcomes) (depends plan x)) same ∙ next.behind)
    behind_case m o e (inr apart) = still_there m (fits.behind m o (sym (elsewhere m apart) ∙ e))

    pub fits_more : FitsPartial plan kept now
    fits_more = record {
      places = length-set outcomes n (Some outcome) ∙ fits.places;
      own = λ m o e. own_case m o e (cases_eq m n);
      behind = λ m o e. behind_case m o e (cases_eq m n);
    }
