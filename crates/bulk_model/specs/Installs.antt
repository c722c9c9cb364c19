-- What is installed for a build: the direct dependencies, closed under LIB and RUN dependencies
-- (Porter's Handbook, "Dependencies": what is linked with and what runs needs its own).
use Rattle.std.specs.Prelude.{ℕ, Bool, true, false, ◌==◌, List, length, map, filter}
use Rattle.std.specs.List.{list_any}
use Rattle.bulk_model.specs.declared.depend.DepKind.{DepKind}
use Rattle.bulk_model.specs.declared.depend.DepKind.TheVariants.{Pkg, Fetch, Extract, Patch, Build, Lib, Run}
use Rattle.bulk_model.specs.Grown.{grown}
use Rattle.bulk_model.specs.PlanView.{PlanView, nodes, edges_from, depends}

-- what a package needs where it is used, and not only where it is built
abbrev pub is_needed_later : DepKind → Bool
is_needed_later Pkg = false
is_needed_later Fetch = false
is_needed_later Extract = false
is_needed_later Patch = false
is_needed_later Build = false
is_needed_later Lib = true
is_needed_later Run = true

-- the nodes that a node needs later
abbrev pub later_depends : PlanView → ℕ → List ℕ
later_depends plan n =
    map (λ edge. edge.to) (filter (λ edge. is_needed_later edge.kind) (edges_from plan n))

abbrev pub has : List ℕ → ℕ → Bool
has numbers n = list_any (λ number. number == n) numbers

-- a node is installed for another after a number of rounds, where each round adds what members need later
abbrev pub is_installed : PlanView → ℕ → ℕ → ℕ → Bool
is_installed plan rounds n d =
    grown (has (depends plan n)) (λ member. has (later_depends plan member)) (nodes plan) rounds d

-- in node order; as many rounds as there are nodes add all
abbrev pub installs : PlanView → ℕ → List ℕ
installs plan n = filter (is_installed plan (length plan.jobs) n) (nodes plan)
