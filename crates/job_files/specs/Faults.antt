-- Why there is no plan, by what a call below says (docs/FORMATS.md, "Refusals").
use Rattle.std.specs.Prelude.{ℕ, Bool, true, false, List, Result}
use Rattle.outside.specs.declared.outer.Outer.{Outer}
use Rattle.outside.specs.declared.outer.Outer.TheVariants as outer
use Rattle.outside.specs.Faults.{HasCauseBy}
use Rattle.dist_files.specs.declared.fault.DistError.{DistError}
use Rattle.dist_files.specs.declared.fault.DistError.TheVariants as dist
use Rattle.tree_index.specs.declared.fault.PortKind.TheVariants.{Distinfo}
use Rattle.job_files.specs.declared.fault.PlanError.{PlanError}
use Rattle.job_files.specs.declared.fault.PlanError.TheVariants.{TreeFault, BadPort, NoMemory}

-- a failure of the tree
abbrev pub tree_fault : Outer → PlanError
tree_fault outer.Fault = TreeFault
tree_fault outer.NoMemory = NoMemory

-- a refusal of a list of distfiles: at its bad line, else at line 0
abbrev pub dist_fault : List ℕ → DistError → PlanError
dist_fault path (dist.BadLine line) = BadPort path line Distinfo
dist_fault path (dist.Unpaired file) = BadPort path 0 Distinfo
dist_fault path (dist.Collide file) = BadPort path 0 Distinfo
dist_fault path dist.NoMemory = NoMemory

abbrev pub is_tree_fault : PlanError → Bool
is_tree_fault TreeFault = true
is_tree_fault _ = false

-- the count of the tree's faults never falls, a fault is answered only where it rose, and any other answer leaves it
abbrev pub IsCaused : {X : Type 0} → ℕ → ℕ → Result X PlanError → Type 0
IsCaused before now result = HasCauseBy is_tree_fault before now result
