-- Names that are taken in turn, from what is found so far.
use Rattle.std.proofs.Common.{◌≡◌, ℕ, ◌+◌, ◌<◌, ◌≤◌, List, ap, sym, ◌∙◌, length, drop, get_or}
use Rattle.std.specs.declared.result.Result.{Result}
use Rattle.std.specs.declared.result.Result.TheVariants.{Ok, Err}
use Rattle.std.proofs.lemmas.List.{at_drop_more, at_drop_all}
use Rattle.port_vars.specs.Assignment.{◌>>=◌}
use Rattle.tree_index.specs.Tree.{each_in_turn}

at_name : {X E : Type 0} (step : X → List ℕ → Result X E) (names : List (List ℕ)) (i : ℕ) (name : List ℕ) (found : X)
    → i < length names → name ≡ get_or names i name
    → each_in_turn step found (drop i names) ≡ (step found name >>= (λ next. each_in_turn step next (drop (i + 1) names)))
at_name step names i name found l e =
    at_drop_more (each_in_turn step found) names i name l
    ∙ ap (λ x. step found x >>= (λ next. each_in_turn step next (drop (i + 1) names))) (sym e)

pub turn_next : {X E : Type 0} (step : X → List ℕ → Result X E) (names : List (List ℕ)) (i : ℕ) (name : List ℕ) (found now : X) (whole : Result X E)
    → i < length names → name ≡ get_or names i name → step found name ≡ Ok now
    → whole ≡ each_in_turn step found (drop i names) → whole ≡ each_in_turn step now (drop (i + 1) names)
turn_next step names i name found now whole l e r h =
    h ∙ at_name step names i name found l e ∙ ap (λ r. r >>= (λ next. each_in_turn step next (drop (i + 1) names))) r

pub turn_fault : {X E : Type 0} (step : X → List ℕ → Result X E) (names : List (List ℕ)) (i : ℕ) (name : List ℕ) (found : X) (fault : E) (whole : Result X E)
    → i < length names → name ≡ get_or names i name → step found name ≡ Err fault
    → whole ≡ each_in_turn step found (drop i names) → whole ≡ Err fault
turn_fault step names i name found fault whole l e r h =
    h ∙ at_name step names i name found l e ∙ ap (λ r. r >>= (λ next. each_in_turn step next (drop (i + 1) names))) r

pub turn_end : {X E : Type 0} (step : X → List ℕ → Result X E) (names : List (List ℕ)) (i : ℕ) (found : X) (whole : Result X E)
    → length names ≤ i → whole ≡ each_in_turn step found (drop i names) → whole ≡ Ok found
turn_end step names i found whole l h = h ∙ at_drop_all (each_in_turn step found) names i l
