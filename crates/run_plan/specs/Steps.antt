-- The tree, the wanted nodes and the plan of a run: the steps behind its settings
-- (poudriere-bulk(8); docs/DEFINITIONS.md).
use Rattle.std.specs.Prelude.{ℕ, ◌+◌, Bool, ◌||◌, nat_lt, List, [], length, Option, Some, None, Result, Ok, Err, unwrap_or, if◌then◌else◌}
use Rattle.std.specs.Option.{option_map_or}
use Rattle.std.specs.FinMap.{get}
use Rattle.port_vars.specs.Assignment.{◌>>=◌, mapped}
use Rattle.bulk_base.specs.Path.{is_path}
use Rattle.bulk_model.specs.Limits.{most}
use Rattle.bulk_model.specs.declared.which.Which.TheVariants.{FileBytes}
use Rattle.outside.specs.Contents.{Contents}
use Rattle.conf_file.specs.declared.make.MakeConf.{MakeConf}
use Rattle.command_words.specs.declared.asked.PortWords.{PortWords}
use Rattle.tree_index.specs.Faults.{refused_as}
use Rattle.tree_index.specs.Index.{IndexView, index_of}
use Rattle.origin_flavor.specs.declared.selection.Wanted.{Wanted}
use Rattle.origin_flavor.specs.Command.{wanted_of}
use Rattle.bulk_model.specs.PlanView.{PlanView}
use Rattle.plan_maker.specs.Plans.{plan_in}
use Rattle.run_answer.specs.declared.answer.Answer.{Answer}
use Rattle.run_answer.specs.declared.answer.Answer.TheVariants.{Limit, NoList}
use Rattle.run_plan.specs.Told.{index_answer, wanted_answer, plan_answer}

-- step 3: the index of the tree; broken ports are tried where the words or make.conf ask for it
abbrev pub tree_step : MakeConf → Bool → Contents → Result IndexView Answer
tree_step make try_broken content =
    refused_as index_answer (index_of make (make.try_broken || try_broken) content)

-- a list with these bytes
abbrev pub list_with : List ℕ → Result (List ℕ) Answer
list_with bytes =
    if nat_lt (most FileBytes) (length bytes) then Err (Limit FileBytes (most FileBytes + 1))
    else Ok bytes

-- what stands at a word, which need not be a path
abbrev pub file_at : Contents → List ℕ → Option (List ℕ)
file_at content word = if is_path word then get content word else None

-- the list of that word
abbrev pub list_at : Contents → List ℕ → Result (List ℕ) Answer
list_at content word = option_map_or list_with (file_at content word) (Err (NoList word))

-- step 4, its beginning: the list of `-f`, if there is one
abbrev pub list_step : Contents → Option (List ℕ) → Result (Option (List ℕ)) Answer
list_step content None = Ok None
list_step content (Some word) = mapped Some (list_at content word)

-- the nodes that a list, then the words want
abbrev pub wanted_with : IndexView → PortWords → Bool → Option (List ℕ) → Result Wanted Answer
wanted_with index ports every_flavor list =
    refused_as (wanted_answer (unwrap_or ports.list []))
    (wanted_of index list ports.origins ports.all every_flavor)

-- step 4: the nodes that the list of `-f`, then the words want
unfoldable pub wanted_step : IndexView → PortWords → Bool → Contents → Result Wanted Answer
wanted_step index ports every_flavor content = do
  list ← list_step content ports.list
  wanted_with index ports every_flavor list

-- step 5: the plan of wanted nodes, some of them boosted
abbrev pub plan_step : IndexView → List ℕ → List ℕ → Contents → Result PlanView Answer
plan_step index wanted boost content = refused_as plan_answer (plan_in content index wanted boost)
