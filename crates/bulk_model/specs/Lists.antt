-- The text that a run prints (docs/FORMATS.md).
use Rattle.std.specs.Prelude.{ℕ, Bool, true, false, List, [], ◌++◌, length, map, codes, slice_index_or, Option, Some, None, unwrap_or, if◌then◌else◌}
use Rattle.std.specs.List.{flat_map, filter_map, list_any}
use Rattle.std.specs.Fmt.{decimal}
use Rattle.bulk_model.specs.declared.outcome.Phase.{Phase}
use Rattle.bulk_model.specs.declared.outcome.Phase.TheVariants.{Depends, Extract, Patch, Configure, Build, Stage, Package}
use Rattle.bulk_model.specs.declared.reason.Reason.{Reason}
use Rattle.bulk_model.specs.declared.reason.Reason.TheVariants.{Damaged, OldRecord, Asked, NoPort, Ignored as IgnoredPort, NewName, NewOptions, NewDepends, NewRecipe, MissingDepend}
use Rattle.bulk_model.specs.declared.reason.Stale.{Stale}
use Rattle.bulk_model.specs.declared.reason.Notice.{Notice}
use Rattle.bulk_model.specs.declared.results.Status.{Status}
use Rattle.bulk_model.specs.declared.results.Status.TheVariants.{Kept, Built, Failed, Ignored, Skipped}
use Rattle.bulk_model.specs.PlanView.{PlanView, count, nodes, job_at, node_at}
use Rattle.bulk_model.specs.Fit.{status_in}
use Rattle.bulk_model.specs.Cause.{cause}
use Rattle.bulk_model.specs.Lines.{line}

abbrev pub phase_word : Phase → List ℕ
phase_word Depends = codes "depends"
phase_word Extract = codes "extract"
phase_word Patch = codes "patch"
phase_word Configure = codes "configure"
phase_word Build = codes "build"
phase_word Stage = codes "stage"
phase_word Package = codes "package"

abbrev pub reason_word : Reason → List ℕ
reason_word Damaged = codes "damaged"
reason_word OldRecord = codes "old-record"
reason_word Asked = codes "asked"
reason_word NoPort = codes "no-port"
reason_word IgnoredPort = codes "ignored"
reason_word NewName = codes "new-name"
reason_word NewOptions = codes "new-options"
reason_word NewDepends = codes "new-depends"
reason_word NewRecipe = codes "new-recipe"
reason_word MissingDepend = codes "missing-depend"

abbrev pub two_words : List ℕ → List ℕ → List ℕ
two_words a b = a ++ codes " " ++ b

-- a node with its package's name
abbrev pub node_words : PlanView → ℕ → List ℕ
node_words plan n = two_words (node_at plan n) (job_at plan n).name

abbrev pub reason_at : PlanView → ℕ → List ℕ
reason_at plan n = unwrap_or (slice_index_or plan.ignored n None) []

-- a heading with its count, and its entries, each behind two spaces
abbrev pub listed : List ℕ → List (List ℕ) → List ℕ
listed heading entries =
    line (two_words heading (decimal (length entries)))
    ++ flat_map (λ entry. line (codes "  " ++ entry)) entries

abbrev pub kept_entry : PlanView → ℕ → Status → Option (List ℕ)
kept_entry plan n (Kept p) = Some (node_words plan n)
kept_entry plan n (Built p) = None
kept_entry plan n (Failed phase code) = None
kept_entry plan n Ignored = None
kept_entry plan n Skipped = None

abbrev pub built_entry : PlanView → ℕ → Status → Option (List ℕ)
built_entry plan n (Kept p) = None
built_entry plan n (Built p) = Some (node_words plan n)
built_entry plan n (Failed phase code) = None
built_entry plan n Ignored = None
built_entry plan n Skipped = None

abbrev pub failed_entry : PlanView → ℕ → Status → Option (List ℕ)
failed_entry plan n (Kept p) = None
failed_entry plan n (Built p) = None
failed_entry plan n (Failed phase code) =
    Some (two_words (node_words plan n) (two_words (phase_word phase) (decimal code)))
failed_entry plan n Ignored = None
failed_entry plan n Skipped = None

abbrev pub ignored_entry : PlanView → ℕ → Status → Option (List ℕ)
ignored_entry plan n (Kept p) = None
ignored_entry plan n (Built p) = None
ignored_entry plan n (Failed phase code) = None
ignored_entry plan n Ignored = Some (two_words (node_words plan n) (reason_at plan n))
ignored_entry plan n Skipped = None

abbrev pub skipped_entry : PlanView → List Status → ℕ → Status → Option (List ℕ)
skipped_entry plan statuses n (Kept p) = None
skipped_entry plan statuses n (Built p) = None
skipped_entry plan statuses n (Failed phase code) = None
skipped_entry plan statuses n Ignored = None
skipped_entry plan statuses n Skipped =
    Some (two_words (node_words plan n)
    (two_words (codes "because") (node_at plan (cause plan statuses n))))

-- the entries of the nodes that have one, in node order
abbrev pub entries : (ℕ → Status → Option (List ℕ)) → PlanView → List Status → List (List ℕ)
entries entry plan statuses = filter_map (λ n. entry n (status_in statuses n)) (nodes plan)

abbrev pub notice_line : Notice → List ℕ
notice_line notice = line (codes "moved " ++ two_words notice.word notice.name)

abbrev pub stale_entry : Stale → List ℕ
stale_entry stale = two_words stale.file (reason_word stale.reason)

abbrev pub total_line : PlanView → List ℕ
total_line plan = line (codes "total " ++ decimal (count plan))

-- what a run prints
abbrev pub lists : PlanView → List Status → List Stale → List Notice → List ℕ
lists plan statuses deleted notices =
    flat_map notice_line notices
    ++ listed (codes "deleted") (map stale_entry deleted)
    ++ listed (codes "kept") (entries (kept_entry plan) plan statuses)
    ++ listed (codes "built") (entries (built_entry plan) plan statuses)
    ++ listed (codes "failed") (entries (failed_entry plan) plan statuses)
    ++ listed (codes "ignored") (entries (ignored_entry plan) plan statuses)
    ++ listed (codes "skipped") (entries (skipped_entry plan statuses) plan statuses)
    ++ total_line plan

abbrev pub is_setback : Status → Bool
is_setback (Kept p) = false
is_setback (Built p) = false
is_setback (Failed phase code) = true
is_setback Ignored = false
is_setback Skipped = true

-- the exit status of a run that ended: 1 where a port failed or was skipped
abbrev pub exit_status : List Status → ℕ
exit_status statuses = if list_any is_setback statuses then 1 else 0
