-- The plans of three ports: in a chain each depends on the one before it, in a fan the last depends on both others.
use Rattle.std.specs.Prelude.{ℕ, List, [], ◌∷◌, codes}
use Rattle.bulk_model.specs.declared.depend.DepKind.{DepKind}
use Rattle.bulk_model.specs.declared.plan.Edge.{Edge}

abbrev pub three_names : List (List ℕ)
three_names = codes "a-1" ∷ codes "b-1" ∷ codes "c-1" ∷ []

abbrev pub chain_edges : DepKind → DepKind → List (List Edge)
chain_edges a b = [] ∷ (record { kind = a; to = 0 } ∷ []) ∷ (record { kind = b; to = 1 } ∷ []) ∷ []

abbrev pub fan_edges : DepKind → DepKind → List (List Edge)
fan_edges a b = [] ∷ [] ∷ (record { kind = a; to = 0 } ∷ record { kind = b; to = 1 } ∷ []) ∷ []
