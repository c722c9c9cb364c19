-- Laws on the graph of a plan: what is installed for a build, and chains of dependents.
use Rattle.std.specs.Prelude.{◌≡◌, ℕ, suc, Bool, true, ◌<◌, Contains, min}
use Rattle.std.specs.List.{list_all}
use Rattle.bulk_model.specs.declared.plan.Kept.{Kept as KeptPackages}
use Rattle.bulk_model.specs.Fit.{FitsKept}
use Rattle.bulk_model.specs.Installs.{later_depends, installs}
use Rattle.bulk_model.specs.PlanFacts.{IsPlan}
use Rattle.bulk_model.specs.PlanView.{PlanView, count, depends, away}
use Rattle.bulk_model.specs.Results.{is_kept}
use Rattle.bulk_model.specs.Order.{chain_above, IsLongest}

-- what holds of a node's dependencies, and goes from each node to its own, holds of all that is
-- installed for the node
abbrev pub InstalledAll : Type 0
InstalledAll =
    (plan : PlanView) (p : ℕ → Bool) → ((m : ℕ) → p m ≡ true → list_all p (depends plan m) ≡ true)
    → (n : ℕ) → list_all p (depends plan n) ≡ true → list_all p (installs plan n) ≡ true

-- just nodes are installed
abbrev pub InstalledAreNodes : Type 0
InstalledAreNodes = (plan : PlanView) (n d : ℕ) → Contains (installs plan n) d → d < count plan

-- all of a node's dependencies are installed for it
abbrev pub DependsAreInstalled : Type 0
DependsAreInstalled =
    (plan : PlanView) → IsPlan plan → (n d : ℕ) → n < count plan → Contains (depends plan n) d
    → Contains (installs plan n) d

-- what is installed has with it what it needs later: as many rounds as there are nodes are enough
abbrev pub InstallsAreClosed : Type 0
InstallsAreClosed =
    (plan : PlanView) → IsPlan plan
    → (n m d : ℕ) → Contains (installs plan n) m → Contains (later_depends plan m) d
    → Contains (installs plan n) d

-- what is installed for a node lies below it
abbrev pub InstalledLieBelow : Type 0
InstalledLieBelow =
    (plan : PlanView) (height n d : ℕ) → away plan (suc height) n ≡ true
    → Contains (installs plan n) d → away plan height d ≡ true

-- all that is installed for a kept node is kept
abbrev pub KeptInstallsAreKept : Type 0
KeptInstallsAreKept =
    (plan : PlanView) (kept : KeptPackages) → IsPlan plan → FitsKept plan kept
    → (n d : ℕ) → n < count plan → is_kept kept n ≡ true → Contains (installs plan n) d
    → is_kept kept d ≡ true

-- chains that are followed for nine edges tell the smaller of 9 and the edges of the longest chain
-- of dependents above a node
abbrev pub NineEdgesAreEnough : Type 0
NineEdgesAreEnough =
    (plan : PlanView) → IsPlan plan → (n edges : ℕ) → IsLongest plan n edges
    → chain_above plan 9 n ≡ min 9 edges
