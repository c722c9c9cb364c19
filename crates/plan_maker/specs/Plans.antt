-- The plan of what is wanted, or the first refusal (docs/DEFINITIONS.md, "The plan").
use Rattle.std.specs.Prelude.{ℕ, nat_le, List, length, map, slice_index_or, if◌then◌else◌}
use Rattle.std.specs.declared.option.Option.TheVariants.{None, Some}
use Rattle.std.specs.declared.result.Result.{Result}
use Rattle.std.specs.declared.result.Result.TheVariants.{Ok, Err}
use Rattle.bulk_base.specs.declared.file.FileItem.{FileItem}
use Rattle.bulk_model.specs.declared.which.Which.TheVariants.{PlanNodes}
use Rattle.bulk_model.specs.Limits.{most}
use Rattle.bulk_model.specs.PlanView.{PlanView}
use Rattle.bulk_model.specs.Views.{JobView}
use Rattle.dep_graph.specs.Order.{is_loopless}
use Rattle.loop_report.specs.Loops.{exact_loop}
use Rattle.outside.specs.Contents.{Contents}
use Rattle.port_vars.specs.Assignment.{◌>>=◌}
use Rattle.tree_index.specs.Index.{IndexView}
use Rattle.job_files.specs.BaseFiles.{base_files}
use Rattle.job_files.specs.declared.fault.PlanError.{PlanError}
use Rattle.job_files.specs.declared.fault.PlanError.TheVariants.{Limit, Loop}
use Rattle.plan_maker.specs.Boosts.{is_boosted}
use Rattle.plan_maker.specs.Jobs.{node_at, jobs_in}
use Rattle.plan_maker.specs.Lost.{first_lost}
use Rattle.plan_maker.specs.Needed.{needed}
use Rattle.plan_maker.specs.PlanEdges.{place_in, plan_edges}

-- all dependencies of nodes lead to nodes, else the first that does not is refused
abbrev pub none_lost : IndexView → List ℕ → Result (List ℕ) PlanError
none_lost index nodes = elim (first_lost index nodes) [
  | None ↦ Ok nodes
  | Some lost ↦ Err lost
]

-- no more nodes than a plan may have
abbrev pub few : List ℕ → Result (List ℕ) PlanError
few nodes = if nat_le (length nodes) (most PlanNodes) then Ok nodes else Err (Limit PlanNodes (length nodes))

-- the names of the nodes at some places of a plan
abbrev pub names_at : IndexView → List ℕ → List ℕ → List (List ℕ)
names_at index nodes places = map (λ place. (node_at index (slice_index_or nodes place 0)).node) places

-- no loop, else exactly its nodes are named
abbrev pub unlooped : IndexView → List ℕ → Result (List ℕ) PlanError
unlooped index nodes =
    if is_loopless (plan_edges index nodes) then Ok nodes
    else Err (Loop (names_at index nodes (exact_loop (plan_edges index nodes))))

-- the needed nodes, where no dependency of them leads nowhere and there are not too many
abbrev pub few_nodes : IndexView → List ℕ → Result (List ℕ) PlanError
few_nodes index wanted = do
  nodes ← none_lost index (needed index wanted)
  few nodes

-- the nodes of a plan, or the first refusal that needs no file
unfoldable pub plan_nodes : IndexView → List ℕ → Result (List ℕ) PlanError
plan_nodes index wanted = do
  nodes ← few_nodes index wanted
  unlooped index nodes

-- a plan of nodes with their jobs and the base root
abbrev pub plan_of : IndexView → List ℕ → List ℕ → List ℕ → List JobView → List FileItem → PlanView
plan_of index wanted boost nodes jobs base = record {
  jobs = jobs;
  edges = plan_edges index nodes;
  ignored = map (λ n. (node_at index n).ignored) nodes;
  wanted = map (place_in nodes) wanted;
  base = base;
  boosted = map (λ n. is_boosted boost (node_at index n).desc.name) nodes;
}

-- the nodes first, then the files of each in node order, last those of the base root
unfoldable pub plan_in : Contents → IndexView → List ℕ → List ℕ → Result PlanView PlanError
plan_in content index wanted boost = do
  nodes ← plan_nodes index wanted
  found ← jobs_in content index nodes
  base ← base_files content found.bytes
  Ok (plan_of index wanted boost nodes found.jobs base.files)
