-- The jobs of nodes (docs/DEFINITIONS.md, "The job of a node").
use Rattle.std.specs.Prelude.{ℕ, false, List, [], ◌∷◌, ◌++◌, slice_index_or}
use Rattle.std.specs.declared.option.Option.TheVariants.{None}
use Rattle.std.specs.Option.{unwrap_or}
use Rattle.std.specs.declared.result.Result.{Result}
use Rattle.std.specs.declared.result.Result.TheVariants.{Ok}
use Rattle.bulk_base.specs.declared.file.FileItem.{FileItem}
use Rattle.bulk_model.specs.declared.depend.Depend.{Depend}
use Rattle.bulk_model.specs.Views.{JobView}
use Rattle.outside.specs.Contents.{Contents}
use Rattle.port_vars.specs.Assignment.{◌>>=◌}
use Rattle.tree_index.specs.declared.node.NodeInfo.{NodeInfo}
use Rattle.tree_index.specs.Places.{origin_name}
use Rattle.tree_index.specs.Depends.{depends_of}
use Rattle.tree_index.specs.Index.{IndexView}
use Rattle.job_files.specs.declared.fault.PlanError.{PlanError}
use Rattle.job_files.specs.NodeFiles.{node_files}
use Rattle.job_files.specs.Turns.{in_turn}
use Rattle.plan_maker.specs.declared.job_list.JobList.{JobList}

abbrev pub no_node : NodeInfo
no_node = record {
  node = [];
  origin = record { category = []; port = [] };
  flavor = None;
  is_default = false;
  desc = record {
    name = [];
    steps = record { extract = []; patch = []; configure = []; build = []; stage = [] };
    entries = [];
    ignore = None;
    forbidden = None;
    broken = None;
  };
  options = [];
  ignored = None;
  targets = [];
}

-- the node of a number
abbrev pub node_at : IndexView → ℕ → NodeInfo
node_at index n = slice_index_or index.nodes n no_node

-- all that decides a node's build besides the packages of its dependencies and the base root
abbrev pub job_with : NodeInfo → List Depend → List FileItem → JobView
job_with node depends files = record {
  name = node.desc.name;
  origin = origin_name node.origin;
  flavor = node.flavor;
  options = node.options;
  depends = depends;
  steps = node.desc.steps;
  files = files;
}

-- the job of the node of a number, of which no dependency leads nowhere
abbrev pub job_of : IndexView → ℕ → List FileItem → JobView
job_of index n files = job_with (node_at index n) (unwrap_or (depends_of index n) []) files

abbrev pub no_jobs : JobList
no_jobs = record { jobs = []; bytes = 0 }

-- the job of one node more, or the refusal of its files
abbrev pub with_job : Contents → IndexView → JobList → ℕ → Result JobList PlanError
with_job content index found n = do
  gathered ← node_files content (node_at index n) found.bytes
  Ok (record { jobs = found.jobs ++ job_of index n gathered.files ∷ []; bytes = gathered.bytes })

-- the jobs of nodes, one after another, or the first refusal
abbrev pub jobs_in : Contents → IndexView → List ℕ → Result JobList PlanError
jobs_in content index nodes = in_turn (with_job content index) no_jobs nodes
