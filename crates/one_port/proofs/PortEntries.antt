-- The entries of the lists of a run that built some ports, and the lists that stay empty.
use Rattle.std.proofs.Common.{◌≡◌, ℕ, zero, suc, ◌+◌, ◌<◌, List, [], ◌∷◌, ◌++◌, length, get_or, arith, sym, ap, refl, ◌∙◌, map}
use Rattle.std.specs.Prelude.{Option, Some, None, ◌||◌}
use Rattle.std.specs.Option.{option_map, option_to_list}
use Rattle.std.specs.Fmt.{decimal}
use Rattle.std.specs.List.{list_any, filter_map, cons_option, range_with_len}
use Rattle.std.proofs.lemmas.List.{map-append, map-id, get_or-map, get_or_default}
use Rattle.std.proofs.lemmas.List.Elements.{filter_map-append}
use Rattle.std.proofs.lemmas.List.FromFn.{map-range_with_len_more}
use Rattle.bulk_base.specs.Names.{node_of}
use Rattle.bulk_model.specs.declared.outcome.Outcome.{Outcome}
use Rattle.bulk_model.specs.declared.outcome.Outcome.TheVariants.{Built as MadePackage, Failed as FailedBuild}
use Rattle.bulk_model.specs.declared.outcome.Phase.TheVariants.{Package}
use Rattle.bulk_model.specs.declared.results.Status.{Status}
use Rattle.bulk_model.specs.declared.results.Status.TheVariants.{Kept, Built, Failed, Ignored, Skipped}
use Rattle.bulk_model.specs.Fit.{status_in}
use Rattle.bulk_model.specs.Lists.{entries, is_setback, kept_entry, built_entry, failed_entry, ignored_entry, skipped_entry, two_words, phase_word}
use Rattle.bulk_model.specs.PlanView.{no_job}
use Rattle.bulk_model.specs.Results.{status_of_outcome}
use Rattle.bulk_model.specs.Views.{JobView}
use Rattle.one_port.specs.PortsPlan.{plan_of}

range_more : (n : ℕ) → range_with_len 0 (n + 1) ≡ range_with_len 0 n ++ n ∷ []
range_more n = sym (map-id (range_with_len 0 (n + 1))) ∙ map-range_with_len_more (λ k. k) 0 n n (omega arith) ∙ ap (λ ks. ks ++ n ∷ []) (map-id (range_with_len 0 n))

mapped_option : {X Y : Type 0} (f : X → Y) (o : Option X) → map f (option_to_list o) ≡ option_to_list (option_map f o)
mapped_option f None = refl
mapped_option f (Some x) = refl

one_entry : {X : Type 0} (o : Option X) → option_to_list o ≡ cons_option o []
one_entry None = refl
one_entry (Some x) = refl

-- one more entry, or none
pub entries_more : {X Y : Type 0} (f : ℕ → Option Y) (spelled : X → Y) (n : ℕ) (before now : List X) (entry : Option X) → map spelled before ≡ filter_map f (range_with_len 0 n)
    → option_map spelled entry ≡ f n → now ≡ before ++ option_to_list entry → map spelled now ≡ filter_map f (range_with_len 0 (n + 1))
entries_more f spelled n before now entry b e m =
    ap (map spelled) m ∙ map-append spelled before (option_to_list entry)
    ∙ ap (λ xs. xs ++ map spelled (option_to_list entry)) b
    ∙ ap (λ xs. filter_map f (range_with_len 0 n) ++ xs) (mapped_option spelled entry ∙ ap option_to_list e ∙ one_entry (f n))
    ∙ sym (ap (filter_map f) (range_more n) ∙ filter_map-append f (range_with_len 0 n) (n ∷ []))

status_at : (outcomes : List Outcome) (n : ℕ) (outcome : Outcome) → n < length outcomes → outcome ≡ get_or outcomes n outcome → status_of_outcome outcome ≡ status_in (map status_of_outcome outcomes) n
status_at outcomes n outcome l e = ap status_of_outcome e ∙ sym (get_or-map status_of_outcome outcomes n outcome Skipped l)

built_in : (jobs : List JobView) (n : ℕ) (job : JobView) (status : Status) → job ≡ get_or jobs n no_job → built_entry (plan_of (job ∷ [])) 0 status ≡ built_entry (plan_of jobs) n status
built_in jobs n job (Kept p) e = refl
built_in jobs n job (Built p) e = ap (λ j. Some (two_words (node_of j.origin j.flavor) j.name)) e
built_in jobs n job (Failed phase code) e = refl
built_in jobs n job Ignored e = refl
built_in jobs n job Skipped e = refl

failed_in : (jobs : List JobView) (n : ℕ) (job : JobView) (status : Status) → job ≡ get_or jobs n no_job → failed_entry (plan_of (job ∷ [])) 0 status ≡ failed_entry (plan_of jobs) n status
failed_in jobs n job (Kept p) e = refl
failed_in jobs n job (Built p) e = refl
failed_in jobs n job (Failed phase code) e = ap (λ j. Some (two_words (two_words (node_of j.origin j.flavor) j.name) (two_words (phase_word phase) (decimal code)))) e
failed_in jobs n job Ignored e = refl
failed_in jobs n job Skipped e = refl

-- a port's entry by itself is its entry in the list of all
pub built_at : (jobs : List JobView) (outcomes : List Outcome) (n : ℕ) (job : JobView) (outcome : Outcome) → n < length outcomes → job ≡ get_or jobs n no_job → outcome ≡ get_or outcomes n outcome
    → built_entry (plan_of (job ∷ [])) 0 (status_of_outcome outcome) ≡ built_entry (plan_of jobs) n (status_in (map status_of_outcome outcomes) n)
built_at jobs outcomes n job outcome l e o = built_in jobs n job (status_of_outcome outcome) e ∙ ap (built_entry (plan_of jobs) n) (status_at outcomes n outcome l o)

pub failed_at : (jobs : List JobView) (outcomes : List Outcome) (n : ℕ) (job : JobView) (outcome : Outcome) → n < length outcomes → job ≡ get_or jobs n no_job → outcome ≡ get_or outcomes n outcome
    → failed_entry (plan_of (job ∷ [])) 0 (status_of_outcome outcome) ≡ failed_entry (plan_of jobs) n (status_in (map status_of_outcome outcomes) n)
failed_at jobs outcomes n job outcome l e o = failed_in jobs n job (status_of_outcome outcome) e ∙ ap (failed_entry (plan_of jobs) n) (status_at outcomes n outcome l o)

-- a list to which no port gives an entry is empty
none_from : {Y : Type 0} (f : ℕ → Option Y) (a n : ℕ) → ((k : ℕ) → k < a + n → f k ≡ None) → filter_map f (range_with_len a n) ≡ []
none_from f a zero h = refl
none_from f a (suc n) h = ap (λ o. cons_option o (filter_map f (range_with_len (a + 1) n))) (h a (omega arith)) ∙ none_from f (a + 1) n (λ k l. h k (omega arith))

no_outcome : Outcome
no_outcome = FailedBuild Package 0

no_entry : (entry : ℕ → Status → Option (List ℕ)) (jobs : List JobView) (outcomes : List Outcome) → length outcomes ≡ length jobs
    → ((n : ℕ) (outcome : Outcome) → entry n (status_of_outcome outcome) ≡ None) → entries entry (plan_of jobs) (map status_of_outcome outcomes) ≡ []
no_entry entry jobs outcomes l none =
    none_from (λ n. entry n (status_in (map status_of_outcome outcomes) n)) 0 (length jobs)
    (λ k in'. ap (entry k) (sym (status_at outcomes k (get_or outcomes k no_outcome) (omega arith) (get_or_default outcomes k no_outcome _ (omega arith)))) ∙ none k (get_or outcomes k no_outcome))

not_kept : (jobs : List JobView) (n : ℕ) (outcome : Outcome) → kept_entry (plan_of jobs) n (status_of_outcome outcome) ≡ None
not_kept jobs n (MadePackage p) = refl
not_kept jobs n (FailedBuild phase code) = refl

not_ignored : (jobs : List JobView) (n : ℕ) (outcome : Outcome) → ignored_entry (plan_of jobs) n (status_of_outcome outcome) ≡ None
not_ignored jobs n (MadePackage p) = refl
not_ignored jobs n (FailedBuild phase code) = refl

not_skipped : (jobs : List JobView) (statuses : List Status) (n : ℕ) (outcome : Outcome) → skipped_entry (plan_of jobs) statuses n (status_of_outcome outcome) ≡ None
not_skipped jobs statuses n (MadePackage p) = refl
not_skipped jobs statuses n (FailedBuild phase code) = refl

pub none_kept : (jobs : List JobView) (outcomes : List Outcome) → length outcomes ≡ length jobs → entries (kept_entry (plan_of jobs)) (plan_of jobs) (map status_of_outcome outcomes) ≡ []
none_kept jobs outcomes l = no_entry (kept_entry (plan_of jobs)) jobs outcomes l (not_kept jobs)

pub none_ignored : (jobs : List JobView) (outcomes : List Outcome) → length outcomes ≡ length jobs → entries (ignored_entry (plan_of jobs)) (plan_of jobs) (map status_of_outcome outcomes) ≡ []
none_ignored jobs outcomes l = no_entry (ignored_entry (plan_of jobs)) jobs outcomes l (not_ignored jobs)

pub none_skipped : (jobs : List JobView) (outcomes : List Outcome) → length outcomes ≡ length jobs
    → entries (skipped_entry (plan_of jobs) (map status_of_outcome outcomes)) (plan_of jobs) (map status_of_outcome outcomes) ≡ []
none_skipped jobs outcomes l = no_entry (skipped_entry (plan_of jobs) (map status_of_outcome outcomes)) jobs outcomes l (not_skipped jobs (map status_of_outcome outcomes))

-- a port that failed is a setback
pub setback_among : (outcomes : List Outcome) → list_any is_setback (map status_of_outcome outcomes) ≡ list_any (λ outcome. is_setback (status_of_outcome outcome)) outcomes
setback_among [] = refl
setback_among (outcome ∷ outcomes) = ap (λ b. is_setback (status_of_outcome outcome) || b) (setback_among outcomes)
