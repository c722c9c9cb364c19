-- What a run plans, from its words to its plan (docs/DEFINITIONS.md, "The steps of a run").
use Rattle.std.specs.Prelude.{ℕ, List, Option, Result, Ok}
use Rattle.port_vars.specs.Assignment.{◌>>=◌}
use Rattle.outside.specs.Contents.{Contents}
use Rattle.command_words.specs.declared.asked.BulkWords.{BulkWords}
use Rattle.run_answer.specs.declared.answer.Answer.{Answer}
use Rattle.run_plan.specs.declared.settings.Settings.{Settings}
use Rattle.run_plan.specs.declared.planned.Planned.{Planned}
use Rattle.run_plan.specs.Words.{words_step}
use Rattle.run_plan.specs.Settings.{settings_step, builders_asked, builders_step}
use Rattle.run_plan.specs.Steps.{tree_step, wanted_step, plan_step}

-- what settled words plan: the steps behind the settings
unfoldable pub planned_by : BulkWords → Settings → ℕ → Contents → Result Planned Answer
planned_by words settings builders content = do
  index ← tree_step settings.make words.try_broken content
  wanted ← wanted_step index words.ports settings.conf.flavor_all content
  plan ← plan_step index wanted.nodes settings.conf.boost content
  Ok (record {
    clean = words.clean;
    dry_run = words.dry_run;
    builders = builders;
    index = index;
    wanted = wanted.nodes;
    notices = wanted.notices;
    plan = plan;
  })

-- what the words of `bulk` plan over a tree: the steps behind the words
unfoldable pub planned_of : BulkWords → Contents → Option ℕ → Result Planned Answer
planned_of words content rooms = do
  settings ← settings_step content
  builders ← builders_step rooms words.dry_run (builders_asked words.builders settings.conf.jobs)
  planned_by words settings builders content

-- what words plan over a tree, with that many rooms to build in where they are counted, or the
-- first refusal
unfoldable pub planned : List (List ℕ) → Contents → Option ℕ → Result Planned Answer
planned words content rooms = do
  asked ← words_step words
  planned_of asked content rooms
