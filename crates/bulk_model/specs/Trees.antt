-- What a plan that was made of a tree has beside the facts of every plan, and what the jobs of a tree are.
use Rattle.std.specs.Prelude.{◌≡◌, ℕ, false, true, ◌<◌, List, map, IsTrue, Contains}
use Rattle.std.specs.Ordering.{nat_cmp, is_lt}
use Rattle.std.specs.Cmp.Lexicographic.{slice_cmp}
use Rattle.bulk_model.specs.declared.depend.Depend.{Depend}
use Rattle.bulk_model.specs.declared.plan.Edge.{Edge}
use Rattle.bulk_model.specs.PlanView.{PlanView, count, job_at, node_at, edges_from, is_ignored}
use Rattle.bulk_model.specs.Views.{JobView, node_of_job}

-- the dependency that an edge stands for
abbrev pub need_at : PlanView → Edge → Depend
need_at plan edge =
    record { kind = edge.kind; node = node_at plan edge.to; name = (job_at plan edge.to).name }

-- nodes stand in byte order of their names, and the edges of each that is not ignored are its job's dependencies
pub record IsOrderly (plan : PlanView) : Type 0 where
  pub order : (a b : ℕ) → a < b → b < count plan
      → IsTrue (is_lt (slice_cmp nat_cmp (node_at plan a) (node_at plan b)))
  pub needs : (n : ℕ) → n < count plan → is_ignored plan n ≡ false
      → map (need_at plan) (edges_from plan n) ≡ (job_at plan n).depends

-- the jobs of a tree: one of a node, and one of a name
pub record IsTree (jobs : List JobView) : Type 0 where
  pub nodes : (a b : JobView) → Contains jobs a → Contains jobs b → node_of_job a ≡ node_of_job b
      → a ≡ b
  pub names : (a b : JobView) → Contains jobs a → Contains jobs b → a.name ≡ b.name → a ≡ b

-- a plan is of a tree: the jobs of its nodes are the tree's, save that the tree has none at an ignored node
pub record IsOfTree (plan : PlanView) (jobs : List JobView) : Type 0 where
  pub built : (n : ℕ) → n < count plan → is_ignored plan n ≡ false → Contains jobs (job_at plan n)
  pub ignored : (n : ℕ) (job : JobView) → n < count plan → is_ignored plan n ≡ true
      → Contains jobs job → node_of_job job ≡ node_at plan n → ⊥
