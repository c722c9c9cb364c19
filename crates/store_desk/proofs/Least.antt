-- The least open target of edges, edge by edge.
use Rattle.std.proofs.Common.{◌≡◌, ℕ, ◌+◌, ◌<◌, Bool, List, length, get_or, take}
use Rattle.std.specs.Prelude.{map, Option}
use Rattle.bulk_base.specs.Least.{least_passing}
use Rattle.bulk_base.proofs.Least.{with_number, least_passing-more}
use Rattle.bulk_model.specs.declared.plan.Edge.{Edge}

abbrev pub target : Edge → ℕ
target edge = edge.to

pub least-more : (p : ℕ → Bool) (edges : List Edge) (i : ℕ) (d : Edge) (before after : Option ℕ) → i < length edges
    → before ≡ least_passing p (map target (take i edges)) → after ≡ with_number (p (get_or edges i d).to) (get_or edges i d).to before
    → after ≡ least_passing p (map target (take (i + 1) edges))
least-more p edges i d before after = least_passing-more target p edges i d before after
