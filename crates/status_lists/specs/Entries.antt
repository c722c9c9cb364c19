-- The entries of nodes by what is told of them (docs/FORMATS.md, "What is printed").
use Rattle.std.specs.Prelude.{ℕ, Bool, true, false, List, codes, Option, Some, None, if◌then◌else◌}
use Rattle.std.specs.List.{filter_map}
use Rattle.std.specs.Fmt.{decimal}
use Rattle.bulk_model.specs.Lists.{two_words, node_words, phase_word, reason_at}
use Rattle.bulk_model.specs.PlanView.{PlanView, nodes, node_at}
use Rattle.status_lists.specs.declared.fate.Fate.{Fate}
use Rattle.status_lists.specs.declared.fate.Fate.TheVariants.{Kept, Built, Failed, Ignored, Skipped}
use Rattle.status_lists.specs.declared.fate.Part.{Part}
use Rattle.status_lists.specs.declared.fate.Part.TheVariants.{Kept as KeptPart, Built as BuiltPart, Failed as FailedPart, Ignored as IgnoredPart, Skipped as SkippedPart}
use Rattle.status_lists.specs.Fates.{fate_in}

-- whether nodes with this fate stand in this list
abbrev pub is_in : Part → Fate → Bool
is_in KeptPart Kept = true
is_in KeptPart Built = false
is_in KeptPart (Failed phase code) = false
is_in KeptPart Ignored = false
is_in KeptPart (Skipped cause) = false
is_in BuiltPart Kept = false
is_in BuiltPart Built = true
is_in BuiltPart (Failed phase code) = false
is_in BuiltPart Ignored = false
is_in BuiltPart (Skipped cause) = false
is_in FailedPart Kept = false
is_in FailedPart Built = false
is_in FailedPart (Failed phase code) = true
is_in FailedPart Ignored = false
is_in FailedPart (Skipped cause) = false
is_in IgnoredPart Kept = false
is_in IgnoredPart Built = false
is_in IgnoredPart (Failed phase code) = false
is_in IgnoredPart Ignored = true
is_in IgnoredPart (Skipped cause) = false
is_in SkippedPart Kept = false
is_in SkippedPart Built = false
is_in SkippedPart (Failed phase code) = false
is_in SkippedPart Ignored = false
is_in SkippedPart (Skipped cause) = true

-- a node with its package's name, and what its list tells beside
abbrev pub entry : PlanView → ℕ → Fate → List ℕ
entry plan n Kept = node_words plan n
entry plan n Built = node_words plan n
entry plan n (Failed phase code) =
    two_words (node_words plan n) (two_words (phase_word phase) (decimal code))
entry plan n Ignored = two_words (node_words plan n) (reason_at plan n)
entry plan n (Skipped cause) =
    two_words (node_words plan n) (two_words (codes "because") (node_at plan cause))

abbrev pub entry_in : Part → PlanView → ℕ → Fate → Option (List ℕ)
entry_in part plan n fate = if is_in part fate then Some (entry plan n fate) else None

-- the entries of a list, in node order
abbrev pub entries_in : Part → PlanView → List Fate → List (List ℕ)
entries_in part plan fates = filter_map (λ n. entry_in part plan n (fate_in fates n)) (nodes plan)
