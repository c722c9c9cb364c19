-- The first dependency of a needed node that leads to no node.
use Rattle.std.specs.Prelude.{ℕ, List, [], ◌∷◌, is_some, if◌then◌else◌}
use Rattle.std.specs.declared.option.Option.{Option}
use Rattle.std.specs.declared.option.Option.TheVariants.{None, Some}
use Rattle.std.specs.Option.{option_or}
use Rattle.tree_index.specs.declared.node.NodeInfo.{NodeInfo}
use Rattle.tree_index.specs.declared.node.At.{At}
use Rattle.tree_index.specs.declared.node.At.TheVariants.{Node, Nowhere, Moved}
use Rattle.tree_index.specs.Index.{IndexView}
use Rattle.job_files.specs.declared.fault.PlanError.{PlanError}
use Rattle.job_files.specs.declared.fault.PlanError.TheVariants.{NoDepend, MovedDepend}
use Rattle.plan_maker.specs.Jobs.{node_at}

-- what the first element says that says something
abbrev pub first_of : {A B : Type 0} → (A → Option B) → List A → Option B
first_of says [] = None
first_of says (a ∷ more) = option_or (says a) (first_of says more)

-- a dependency of a port that leads nowhere, or by MOVED to a name that is there
abbrev pub lost_at : List ℕ → At → Option PlanError
lost_at port (Node n) = None
lost_at port (Nowhere name) = Some (NoDepend port name)
lost_at port (Moved old new) = Some (MovedDepend port old new)

-- the first such entry of a node; an ignored node has none
abbrev pub lost_of : NodeInfo → Option PlanError
lost_of node = if is_some node.ignored then None else first_of (λ target. lost_at node.node target.at) node.targets

-- that of the first node that has one
abbrev pub first_lost : IndexView → List ℕ → Option PlanError
first_lost index nodes = first_of (λ n. lost_of (node_at index n)) nodes
