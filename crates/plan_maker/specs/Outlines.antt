-- A plan but for its jobs and its base root.
use Rattle.std.specs.Prelude.{◌≡◌, ℕ, ◌≤◌, List, length, map, IsTrue}
use Rattle.std.specs.List.{All}
use Rattle.bulk_base.specs.declared.file.FileItem.{FileItem}
use Rattle.bulk_model.specs.PlanView.{PlanView}
use Rattle.bulk_model.specs.Views.{JobView}
use Rattle.dep_graph.specs.Graphs.{has, IsGraph}
use Rattle.dep_graph.specs.Order.{is_loopless}
use Rattle.tree_index.specs.Index.{IndexView}
use Rattle.plan_maker.specs.declared.outline.Outline.{Outline}
use Rattle.plan_maker.specs.Boosts.{is_boosted}
use Rattle.plan_maker.specs.Edges.{AreNeeded}
use Rattle.plan_maker.specs.Jobs.{node_at}
use Rattle.plan_maker.specs.Nodes.{AreNodes}
use Rattle.plan_maker.specs.Needed.{needed}
use Rattle.plan_maker.specs.PlanEdges.{place_in, plan_edges}

-- an outline is that of the nodes that are needed, of which there are not too many and which have no loop
pub record IsOutline (index : IndexView) (wanted boost : List ℕ) (outline : Outline) : Type 0 where
  pub nodes : outline.nodes ≡ needed index wanted
  pub edges : outline.edges ≡ plan_edges index (needed index wanted)
  pub ignored : outline.ignored ≡ map (λ n. (node_at index n).ignored) (needed index wanted)
  pub places : outline.wanted ≡ map (place_in (needed index wanted)) wanted
  pub marks : outline.boosted ≡ map (λ n. is_boosted boost (node_at index n).desc.name) (needed index wanted)
  pub reach : AreNeeded index (needed index wanted)
  pub within : AreNodes index (needed index wanted)
  pub begun : All (λ n. IsTrue (has (needed index wanted) n)) wanted
  pub few : length (needed index wanted) ≤ 6144
  pub graph : IsGraph (plan_edges index (needed index wanted))
  pub loopless : IsTrue (is_loopless (plan_edges index (needed index wanted)))

-- the plan with an outline
abbrev pub plan_by : Outline → List JobView → List FileItem → PlanView
plan_by outline jobs base = record {
  jobs = jobs;
  edges = outline.edges;
  ignored = outline.ignored;
  wanted = outline.wanted;
  base = base;
  boosted = outline.boosted;
}
