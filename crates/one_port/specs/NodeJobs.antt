-- The jobs of nodes (docs/DEFINITIONS.md, "The job of a node").
use Rattle.std.specs.Prelude.{ℕ, Bool, nat_lt, List, [], ◌∷◌, length, find, slice_get, Option, Some, None, unwrap_or}
use Rattle.std.specs.List.{filter_map}
use Rattle.std.specs.declared.result.Result.{Result}
use Rattle.std.specs.declared.result.Result.TheVariants.{Ok, Err}
use Rattle.std.specs.FinMap.{get}
use Rattle.port_vars.specs.Assignment.{◌>>=◌}
use Rattle.bulk_base.specs.declared.file.FileItem.{FileItem}
use Rattle.outside.specs.Contents.{Contents, files_below}
use Rattle.bulk_model.specs.Files.{files_in}
use Rattle.bulk_model.specs.Views.{JobView}
use Rattle.tree_index.specs.declared.node.NodeInfo.{NodeInfo}
use Rattle.tree_index.specs.Places.{origin_name, files_folder}
use Rattle.one_port.specs.declared.answer.Answer.{Answer}
use Rattle.one_port.specs.declared.answer.Answer.TheVariants.{NotYet}

-- the most bytes of one file of the tree
abbrev pub most_file_bytes : ℕ
most_file_bytes = 4194304

abbrev pub is_large : Contents → List ℕ → Bool
is_large content path = nat_lt most_file_bytes (length (unwrap_or (get content path) []))

-- the first file below a folder that is too large
abbrev pub large_file : Contents → List ℕ → Option (List ℕ)
large_file content folder = find (is_large content) (files_below folder content)

-- the job of a node without dependencies, with its port's files
abbrev pub job_with : NodeInfo → List FileItem → JobView
job_with node files = record {
  name = node.desc.name;
  origin = origin_name node.origin;
  flavor = node.flavor;
  options = node.options;
  depends = [];
  steps = node.desc.steps;
  files = files;
}

-- the files below a folder of the tree; a file that is too large is not served yet
abbrev pub files_at : Contents → List ℕ → Result (List FileItem) Answer
files_at content folder = elim (large_file content folder) [
  | None ↦ Ok (files_in folder content)
  | Some path ↦ Err (NotYet path)
]

-- the job of a node
abbrev pub job_in : Contents → NodeInfo → Result JobView Answer
job_in content node = do
  files ← files_at content (files_folder node.origin)
  Ok (job_with node files)

-- the jobs of nodes, one after another, or the first refusal
abbrev pub jobs_in : Contents → List NodeInfo → Result (List JobView) Answer
jobs_in content [] = Ok []
jobs_in content (node ∷ nodes) = do
  job ← job_in content node
  jobs ← jobs_in content nodes
  Ok (job ∷ jobs)

-- the nodes with some numbers, in the numbers' order
abbrev pub nodes_at : List NodeInfo → List ℕ → List NodeInfo
nodes_at nodes numbers = filter_map (slice_get nodes) numbers
