-- Entries put behind one another, and the lists that they make.
use Rattle.std.proofs.Common.{◌≡◌, ℕ, ◌+◌, List, [], ◌∷◌, ◌++◌, refl, ap, sym, ◌∙◌, arith}
use Rattle.std.specs.Prelude.{Option, Some, None}
use Rattle.std.specs.List.{filter_map, cons_option, range_with_len}
use Rattle.std.specs.Option.{option_to_list}
use Rattle.std.proofs.lemmas.List.Elements.{filter_map-append}
use Rattle.bulk_base.proofs.Members.{filter_map_agree, range_below}
use Rattle.bulk_model.specs.declared.results.Status.{Status}
use Rattle.bulk_model.specs.declared.results.Status.TheVariants.{Kept as KeptStatus, Built as BuiltStatus, Failed as FailedStatus, Ignored as IgnoredStatus, Skipped as SkippedStatus}
use Rattle.bulk_model.specs.Fit.{status_in}
use Rattle.bulk_model.specs.Lists.{entries, kept_entry, built_entry, failed_entry, ignored_entry, skipped_entry}
use Rattle.bulk_model.specs.PlanView.{PlanView, count, nodes}
use Rattle.dep_graph.proofs.Members.{range_more}
use Rattle.std.proofs.lemmas.List.FromFn.{get_or-map-range_with_len}
use Rattle.status_lists.specs.declared.fate.Fate.{Fate}
use Rattle.status_lists.specs.declared.fate.Fate.TheVariants.{Kept}
use Rattle.status_lists.specs.declared.fate.Part.{Part}
use Rattle.status_lists.specs.declared.fate.Part.TheVariants.{Kept as KeptPart, Built as BuiltPart, Failed as FailedPart, Ignored as IgnoredPart, Skipped as SkippedPart}
use Rattle.status_lists.specs.Entries.{entry_in, entries_in}
use Rattle.status_lists.specs.Fates.{AreFates, fate_by, fate_at, fate_in}

one_entry : {X : Type 0} (o : Option X) → option_to_list o ≡ cons_option o []
one_entry None = refl
one_entry (Some x) = refl

-- one more node's entry, or none
pub entries_more : {Y : Type 0} (f : ℕ → Option Y) (n : ℕ) (before now : List Y)
    → before ≡ filter_map f (range_with_len 0 n) → now ≡ before ++ option_to_list (f n)
    → now ≡ filter_map f (range_with_len 0 (n + 1))
entries_more f n before now b e =
    e ∙ ap (λ xs. xs ++ option_to_list (f n)) b
    ∙ ap (λ xs. filter_map f (range_with_len 0 n) ++ xs) (one_entry (f n))
    ∙ sym (ap (filter_map f) (range_more n) ∙ filter_map-append f (range_with_len 0 n) (n ∷ []))

-- the model's entry of a node in each list
abbrev pub entry_of : Part → PlanView → List Status → ℕ → Status → Option (List ℕ)
entry_of KeptPart plan statuses n status = kept_entry plan n status
entry_of BuiltPart plan statuses n status = built_entry plan n status
entry_of FailedPart plan statuses n status = failed_entry plan n status
entry_of IgnoredPart plan statuses n status = ignored_entry plan n status
entry_of SkippedPart plan statuses n status = skipped_entry plan statuses n status

entry_same : (part : Part) (plan : PlanView) (statuses : List Status) (n : ℕ) (s : Status)
    → entry_in part plan n (fate_by plan statuses n s) ≡ entry_of part plan statuses n s
entry_same KeptPart plan statuses n (KeptStatus p) = refl
entry_same KeptPart plan statuses n (BuiltStatus p) = refl
entry_same KeptPart plan statuses n (FailedStatus phase code) = refl
entry_same KeptPart plan statuses n IgnoredStatus = refl
entry_same KeptPart plan statuses n SkippedStatus = refl
entry_same BuiltPart plan statuses n (KeptStatus p) = refl
entry_same BuiltPart plan statuses n (BuiltStatus p) = refl
entry_same BuiltPart plan statuses n (FailedStatus phase code) = refl
entry_same BuiltPart plan statuses n IgnoredStatus = refl
entry_same BuiltPart plan statuses n SkippedStatus = refl
entry_same FailedPart plan statuses n (KeptStatus p) = refl
entry_same FailedPart plan statuses n (BuiltStatus p) = refl
entry_same FailedPart plan statuses n (FailedStatus phase code) = refl
entry_same FailedPart plan statuses n IgnoredStatus = refl
entry_same FailedPart plan statuses n SkippedStatus = refl
entry_same IgnoredPart plan statuses n (KeptStatus p) = refl
entry_same IgnoredPart plan statuses n (BuiltStatus p) = refl
entry_same IgnoredPart plan statuses n (FailedStatus phase code) = refl
entry_same IgnoredPart plan statuses n IgnoredStatus = refl
entry_same IgnoredPart plan statuses n SkippedStatus = refl
entry_same SkippedPart plan statuses n (KeptStatus p) = refl
entry_same SkippedPart plan statuses n (BuiltStatus p) = refl
entry_same SkippedPart plan statuses n (FailedStatus phase code) = refl
entry_same SkippedPart plan statuses n IgnoredStatus = refl
entry_same SkippedPart plan statuses n SkippedStatus = refl

-- the entries by what is told are the model's by the statuses
pub entries_same : (part : Part) (plan : PlanView) (statuses : List Status) (fates : List Fate)
    → AreFates plan statuses fates
    → entries_in part plan fates ≡ entries (entry_of part plan statuses) plan statuses
entries_same part plan statuses fates are =
    filter_map_agree (λ n. entry_in part plan n (fate_in fates n))
    (λ n. entry_of part plan statuses n (status_in statuses n)) (nodes plan)
    (λ n c.
    ap (λ xs. entry_in part plan n (fate_in xs n)) are.told
    ∙ ap (entry_in part plan n) (get_or-map-range_with_len (fate_at plan statuses) 0 (count plan) n n Kept (range_below (count plan) n c) (omega arith))
    ∙ entry_same part plan statuses n (status_in statuses n))
