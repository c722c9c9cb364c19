-- What a dry run tells (poudriere-bulk(8), "-n"; docs/DEFINITIONS.md, "The steps of a run").
use Rattle.std.specs.Prelude.{ℕ, List, [], None, Result, Ok}
use Rattle.port_vars.specs.Assignment.{◌>>=◌}
use Rattle.bulk_model.specs.DryLists.{dry_lists, dry_statuses}
use Rattle.bulk_model.specs.Lists.{exit_status}
use Rattle.outside.specs.Contents.{Contents}
use Rattle.command_words.specs.declared.asked.Clean.{Clean}
use Rattle.command_words.specs.declared.asked.Clean.TheVariants.{Nothing, Wanted, All}
use Rattle.run_answer.specs.declared.answer.Answer.{Answer}
use Rattle.run_plan.specs.declared.planned.Planned.{Planned}
use Rattle.run_plan.specs.Planned.{planned}
use Rattle.run_store.specs.declared.sifting.Sifted.{Sifted}
use Rattle.run_store.specs.Sifting.{sift_step, sift_all_step}
use Rattle.bulk_run.specs.declared.ending.Report.{Report}

-- what goes of a store and what stays, by which packages are to be built anew: none, those of the
-- wanted nodes, or all
abbrev pub sift_by : Clean → Contents → Contents → Planned → Result Sifted Answer
sift_by Nothing tree store run = sift_step tree store run.index run.plan []
sift_by Wanted tree store run = sift_step tree store run.index run.plan run.wanted
sift_by All tree store run = sift_all_step store run.plan

-- what is printed where every build is taken to succeed, and the exit status
abbrev pub dry_report : Planned → Sifted → Report
dry_report run sifted = record {
  text = dry_lists run.plan sifted.kept sifted.deleted run.notices;
  status = exit_status (dry_statuses run.plan sifted.kept);
}

-- what is told of a plan: the store is looked through for it; or the first refusal of that
unfoldable pub told_of : Contents → Contents → Planned → Result Report Answer
told_of tree store run = do
  sifted ← sift_by run.clean tree store run
  Ok (dry_report run sifted)

-- what a dry run tells: words and tree give a plan, whatever rooms there are; or the first refusal
unfoldable pub dry_step : List (List ℕ) → Contents → Contents → Result Report Answer
dry_step words tree store = do
  run ← planned words tree None
  told_of tree store run
