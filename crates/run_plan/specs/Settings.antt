-- The settings of a run, and its number of builders: the second of its steps (docs/FORMATS.md,
-- "poudriere.conf", "Variable files").
use Rattle.std.specs.Prelude.{ℕ, ◌==◌, Bool, ◌&&◌, ◌||◌, not, nat_lt, List, [], codes, Option, Some, None, Result, Ok, Err, unwrap_or, if◌then◌else◌}
use Rattle.std.specs.FinMap.{get}
use Rattle.port_vars.specs.Assignment.{◌>>=◌}
use Rattle.outside.specs.Contents.{Contents}
use Rattle.conf_file.specs.Conf.{conf_of}
use Rattle.conf_file.specs.Make.{make_of}
use Rattle.conf_file.specs.declared.conf_reader.Conf.{Conf}
use Rattle.conf_file.specs.declared.make.MakeConf.{MakeConf}
use Rattle.tree_index.specs.Faults.{refused_as}
use Rattle.run_answer.specs.declared.answer.Answer.{Answer}
use Rattle.run_answer.specs.declared.answer.Answer.TheVariants.{Builders}
use Rattle.run_plan.specs.Told.{conf_answer}
use Rattle.run_plan.specs.declared.settings.Settings.{Settings}

abbrev pub conf_path : List ℕ
conf_path = codes "etc/poudriere.conf"

abbrev pub make_path : List ℕ
make_path = codes "etc/make.conf"

-- what poudriere.conf says; a tree without one sets nothing
abbrev pub conf_at : Contents → Result Conf Answer
conf_at content =
    refused_as (conf_answer conf_path) (conf_of (unwrap_or (get content conf_path) []))

-- what make.conf says; a tree without one sets nothing
abbrev pub make_at : Contents → Result MakeConf Answer
make_at content =
    refused_as (conf_answer make_path) (make_of (unwrap_or (get content make_path) []))

-- step 2: the settings, or the first fault of poudriere.conf, then of make.conf
unfoldable pub settings_step : Contents → Result Settings Answer
settings_step content = do
  conf ← conf_at content
  make ← make_at content
  Ok (record { conf = conf; make = make })

-- the builders asked for: by `-J`, else by PARALLEL_JOBS, else one
abbrev pub builders_asked : Option ℕ → Option ℕ → ℕ
builders_asked words conf = unwrap_or words (unwrap_or conf 1)

-- there are so many builders: at least one, and no more than rooms
abbrev pub has_builders : ℕ → ℕ → Bool
has_builders rooms asked = not (asked == 0) && not (nat_lt rooms asked)

-- step 2, its end: the number of builders, which is checked where there are rooms to be counted and
-- something is built
abbrev pub builders_step : Option ℕ → Bool → ℕ → Result ℕ Answer
builders_step None dry_run asked = Ok asked
builders_step (Some rooms) dry_run asked =
    if dry_run || has_builders rooms asked then Ok asked else Err (Builders asked rooms)
