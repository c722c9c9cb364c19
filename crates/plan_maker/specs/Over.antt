-- A plan is over an index: its nodes are what some wanted nodes reach, and all but the files of its jobs is the index's there.
use Rattle.std.specs.Prelude.{◌≡◌, ℕ, List, [], map}
use Rattle.bulk_model.specs.PlanView.{PlanView}
use Rattle.bulk_model.specs.Views.{JobView}
use Rattle.tree_index.specs.Index.{IndexView}
use Rattle.plan_maker.specs.Boosts.{is_boosted}
use Rattle.plan_maker.specs.Jobs.{node_at, job_of}
use Rattle.plan_maker.specs.Needed.{needed}
use Rattle.plan_maker.specs.PlanEdges.{place_in, plan_edges}

-- a job without its files
abbrev pub bare : JobView → JobView
bare job = record {
  name = job.name;
  origin = job.origin;
  flavor = job.flavor;
  options = job.options;
  depends = job.depends;
  steps = job.steps;
  files = [];
}

-- name, origin, flavor, options, dependencies and commands of each job, edges, reasons and wanted nodes are the index's
pub record IsOver (index : IndexView) (wanted : List ℕ) (plan : PlanView) : Type 0 where
  pub jobs : map bare plan.jobs ≡ map (λ n. job_of index n []) (needed index wanted)
  pub edges : plan.edges ≡ plan_edges index (needed index wanted)
  pub ignored : plan.ignored ≡ map (λ n. (node_at index n).ignored) (needed index wanted)
  pub places : plan.wanted ≡ map (place_in (needed index wanted)) wanted

-- its marks are those of the words of PRIORITY_BOOST
abbrev pub IsBoostedBy : IndexView → List ℕ → List ℕ → PlanView → Type 0
IsBoostedBy index wanted boost plan =
    plan.boosted ≡ map (λ n. is_boosted boost (node_at index n).desc.name) (needed index wanted)
