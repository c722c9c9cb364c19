-- The lists, each put behind those before it.
use Rattle.std.proofs.Common.{◌≡◌, ℕ, List, [], ◌++◌, map, refl, ap, ◌∙◌}
use Rattle.std.specs.Prelude.{codes}
use Rattle.std.specs.List.{flat_map}
use Rattle.bulk_model.specs.declared.plan.Kept.{Kept as KeptPackages}
use Rattle.bulk_model.specs.declared.reason.Notice.{Notice}
use Rattle.bulk_model.specs.declared.reason.Stale.{Stale}
use Rattle.bulk_model.specs.declared.results.Status.{Status}
use Rattle.bulk_model.specs.DryLists.{dry_lists, dry_statuses}
use Rattle.bulk_model.specs.Lists.{lists, listed, entries, node_words, notice_line, stale_entry, total_line}
use Rattle.bulk_model.specs.Order.{order}
use Rattle.bulk_model.specs.PlanView.{PlanView}
use Rattle.status_lists.specs.declared.fate.Fate.{Fate}
use Rattle.status_lists.specs.declared.fate.Part.{Part}
use Rattle.status_lists.specs.declared.fate.Part.TheVariants.{Kept as KeptPart, Built as BuiltPart, Failed as FailedPart, Ignored as IgnoredPart, Skipped as SkippedPart}
use Rattle.status_lists.specs.Entries.{entries_in}
use Rattle.status_lists.specs.Fates.{AreFates}
use Rattle.status_lists.proofs.Entering.{entry_of, entries_same}

-- a piece behind those before it
behind : (text a b c d : List ℕ) → text ≡ a ++ b → a ≡ c → b ≡ d → text ≡ c ++ d
behind text a b c d e f g = e ∙ ap (λ x. x ++ b) f ∙ ap (λ x. c ++ x) g

module _ (plan : PlanView) (statuses : List Status) (fates read : List Fate)
    (are : AreFates plan statuses fates) (same : read ≡ fates) where
  part_same : (heading : List ℕ) (part : Part)
      → listed heading (entries_in part plan read) ≡ listed heading (entries (entry_of part plan statuses) plan statuses)
  part_same heading part =
      ap (λ xs. listed heading (entries_in part plan xs)) same
      ∙ ap (listed heading) (entries_same part plan statuses fates are)

  pub lists_are : (deleted : List Stale) (notices : List Notice) (a b c d e f g h : List ℕ)
      → a ≡ [] ++ flat_map notice_line notices
      → b ≡ a ++ listed (codes "deleted") (map stale_entry deleted)
      → c ≡ b ++ listed (codes "kept") (entries_in KeptPart plan read)
      → d ≡ c ++ listed (codes "built") (entries_in BuiltPart plan read)
      → e ≡ d ++ listed (codes "failed") (entries_in FailedPart plan read)
      → f ≡ e ++ listed (codes "ignored") (entries_in IgnoredPart plan read)
      → g ≡ f ++ listed (codes "skipped") (entries_in SkippedPart plan read)
      → h ≡ g ++ total_line plan → h ≡ lists plan statuses deleted notices
  lists_are deleted notices a b c d e f g h ia ib ic id ie if' ig ih =
      behind h g _ _ _ ih
      (behind g f _ _ _ ig
      (behind f e _ _ _ if'
      (behind e d _ _ _ ie
      (behind d c _ _ _ id
      (behind c b _ _ _ ic
      (behind b a _ _ _ ib ia refl)
      (part_same (codes "kept") KeptPart))
      (part_same (codes "built") BuiltPart))
      (part_same (codes "failed") FailedPart))
      (part_same (codes "ignored") IgnoredPart))
      (part_same (codes "skipped") SkippedPart))
      refl

module _ (plan : PlanView) (kept : KeptPackages) (fates read : List Fate)
    (are : AreFates plan (dry_statuses plan kept) fates) (same : read ≡ fates) where
  pub dry_lists_are : (deleted : List Stale) (notices : List Notice) (numbers : List ℕ) (a b c d e f g : List ℕ)
      → numbers ≡ order plan kept (dry_statuses plan kept)
      → a ≡ [] ++ flat_map notice_line notices
      → b ≡ a ++ listed (codes "would delete") (map stale_entry deleted)
      → c ≡ b ++ listed (codes "would keep") (entries_in KeptPart plan read)
      → d ≡ c ++ listed (codes "would build") (map (node_words plan) numbers)
      → e ≡ d ++ listed (codes "ignored") (entries_in IgnoredPart plan read)
      → f ≡ e ++ listed (codes "would skip") (entries_in SkippedPart plan read)
      → g ≡ f ++ total_line plan → g ≡ dry_lists plan kept deleted notices
  dry_lists_are deleted notices numbers a b c d e f g in' ia ib ic id ie if' ig =
      behind g f _ _ _ ig
      (behind f e _ _ _ if'
      (behind e d _ _ _ ie
      (behind d c _ _ _ id
      (behind c b _ _ _ ic
      (behind b a _ _ _ ib ia refl)
      (part_same plan (dry_statuses plan kept) fates read are same (codes "would keep") KeptPart))
      (ap (λ ns. listed (codes "would build") (map (node_words plan) ns)) in'))
      (part_same plan (dry_statuses plan kept) fates read are same (codes "ignored") IgnoredPart))
      (part_same plan (dry_statuses plan kept) fates read are same (codes "would skip") SkippedPart))
      refl
