-- The text that a dry run prints, in which every build is taken to succeed (docs/FORMATS.md).
use Rattle.std.specs.Prelude.{ℕ, List, [], ◌++◌, map, codes}
use Rattle.std.specs.List.{flat_map}
use Rattle.bulk_model.specs.declared.outcome.Outcome.TheVariants.{Built as MadePackage}
use Rattle.bulk_model.specs.declared.plan.Kept.{Kept as KeptPackages}
use Rattle.bulk_model.specs.declared.reason.Notice.{Notice}
use Rattle.bulk_model.specs.declared.reason.Stale.{Stale}
use Rattle.bulk_model.specs.declared.results.Status.{Status}
use Rattle.bulk_model.specs.Bake.{package_of}
use Rattle.bulk_model.specs.Lists.{entries, kept_entry, ignored_entry, skipped_entry, listed, node_words, notice_line, stale_entry, total_line}
use Rattle.bulk_model.specs.Order.{order}
use Rattle.bulk_model.specs.PlanView.{PlanView, job_at}
use Rattle.bulk_model.specs.Results.{Bakes, statuses_of}

-- builds that succeed, with packages without files
abbrev pub bakes_well : PlanView → Bakes
bakes_well plan n packages = MadePackage (package_of plan.base (job_at plan n) packages [])

-- what would come of each node
abbrev pub dry_statuses : PlanView → KeptPackages → List Status
dry_statuses plan kept = statuses_of (bakes_well plan) plan kept

abbrev pub dry_text : PlanView → KeptPackages → List Status → List Stale → List Notice → List ℕ
dry_text plan kept statuses deleted notices =
    flat_map notice_line notices
    ++ listed (codes "would delete") (map stale_entry deleted)
    ++ listed (codes "would keep") (entries (kept_entry plan) plan statuses)
    ++ listed (codes "would build") (map (node_words plan) (order plan kept statuses))
    ++ listed (codes "ignored") (entries (ignored_entry plan) plan statuses)
    ++ listed (codes "would skip") (entries (skipped_entry plan statuses) plan statuses)
    ++ total_line plan

-- what a dry run prints
abbrev pub dry_lists : PlanView → KeptPackages → List Stale → List Notice → List ℕ
dry_lists plan kept deleted notices = dry_text plan kept (dry_statuses plan kept) deleted notices
