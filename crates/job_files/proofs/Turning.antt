-- Things that are taken in turn, from what is found so far.
use Rattle.std.proofs.Common.{◌≡◌, ℕ, ◌+◌, ◌<◌, ◌≤◌, List, ap, sym, ◌∙◌, length, drop, get_or}
use Rattle.std.specs.declared.result.Result.{Result}
use Rattle.std.specs.declared.result.Result.TheVariants.{Ok, Err}
use Rattle.std.proofs.lemmas.List.{at_drop_more, at_drop_all}
use Rattle.port_vars.specs.Assignment.{◌>>=◌}
use Rattle.job_files.specs.Turns.{in_turn}

at_turn : {X A E : Type 0} (step : X → A → Result X E) (xs : List A) (i : ℕ) (a : A) (found : X)
    → i < length xs → a ≡ get_or xs i a
    → in_turn step found (drop i xs) ≡ (step found a >>= (λ next. in_turn step next (drop (i + 1) xs)))
at_turn step xs i a found l e =
    at_drop_more (in_turn step found) xs i a l
    ∙ ap (λ x. step found x >>= (λ next. in_turn step next (drop (i + 1) xs))) (sym e)

pub turn_next : {X A E : Type 0} (step : X → A → Result X E) (xs : List A) (i : ℕ) (a : A) (found now : X) (whole : Result X E)
    → i < length xs → a ≡ get_or xs i a → step found a ≡ Ok now
    → whole ≡ in_turn step found (drop i xs) → whole ≡ in_turn step now (drop (i + 1) xs)
turn_next step xs i a found now whole l e r h =
    h ∙ at_turn step xs i a found l e ∙ ap (λ r. r >>= (λ next. in_turn step next (drop (i + 1) xs))) r

pub turn_fault : {X A E : Type 0} (step : X → A → Result X E) (xs : List A) (i : ℕ) (a : A) (found : X) (fault : E) (whole : Result X E)
    → i < length xs → a ≡ get_or xs i a → step found a ≡ Err fault
    → whole ≡ in_turn step found (drop i xs) → whole ≡ Err fault
turn_fault step xs i a found fault whole l e r h =
    h ∙ at_turn step xs i a found l e ∙ ap (λ r. r >>= (λ next. in_turn step next (drop (i + 1) xs))) r

pub turn_end : {X A E : Type 0} (step : X → A → Result X E) (xs : List A) (i : ℕ) (found : X) (whole : Result X E)
    → length xs ≤ i → whole ≡ in_turn step found (drop i xs) → whole ≡ Ok found
turn_end step xs i found whole l h = h ∙ at_drop_all (in_turn step found) xs i l
