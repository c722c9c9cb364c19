-- A plan as contracts see it, and the graph of its dependencies.
use Rattle.std.specs.Prelude.{ℕ, zero, suc, Bool, false, List, [], length, map, slice_index_or, Option, None, is_some}
use Rattle.std.specs.List.{list_all, range_with_len}
use Rattle.bulk_base.specs.declared.file.FileItem.{FileItem}
use Rattle.bulk_model.specs.declared.plan.Edge.{Edge}
use Rattle.bulk_model.specs.Flags.{flag}
use Rattle.bulk_model.specs.Views.{JobView, node_of_job}

pub record PlanView : Type 0 where
  pub jobs : List JobView
  pub edges : List (List Edge)
  pub ignored : List (Option (List ℕ))
  pub wanted : List ℕ
  pub base : List FileItem
  pub boosted : List Bool

abbrev pub count : PlanView → ℕ
count plan = length plan.jobs

abbrev pub no_job : JobView
no_job = record {
  name = [];
  origin = [];
  flavor = None;
  options = [];
  depends = [];
  steps = record { extract = []; patch = []; configure = []; build = []; stage = [] };
  files = [];
}

abbrev pub job_at : PlanView → ℕ → JobView
job_at plan n = slice_index_or plan.jobs n no_job

-- the name of a node
abbrev pub node_at : PlanView → ℕ → List ℕ
node_at plan n = node_of_job (job_at plan n)

-- the numbers of the nodes
abbrev pub nodes : PlanView → List ℕ
nodes plan = range_with_len 0 (length plan.jobs)

-- the dependencies of a node, in the order of its edges
abbrev pub edges_from : PlanView → ℕ → List Edge
edges_from plan n = slice_index_or plan.edges n []

abbrev pub depends : PlanView → ℕ → List ℕ
depends plan n = map (λ edge. edge.to) (edges_from plan n)

abbrev pub is_ignored : PlanView → ℕ → Bool
is_ignored plan n = is_some (slice_index_or plan.ignored n None)

abbrev pub is_boosted : PlanView → ℕ → Bool
is_boosted plan n = flag plan.boosted n

-- a node is away after a number of rounds where each round takes away the nodes all of whose dependencies are away
abbrev pub away : PlanView → ℕ → ℕ → Bool
away plan zero n = false
away plan (suc rounds) n = list_all (away plan rounds) (depends plan n)

-- there is no loop: as many rounds as there are nodes take all of them away
abbrev pub is_loopless : PlanView → Bool
is_loopless plan = list_all (away plan (length plan.jobs)) (nodes plan)
