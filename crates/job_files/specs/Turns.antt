-- Things that are taken in turn, each from what those before it gave, up to the first refusal.
use Rattle.std.specs.Prelude.{List, [], ◌∷◌}
use Rattle.std.specs.declared.result.Result.{Result}
use Rattle.std.specs.declared.result.Result.TheVariants.{Ok, Err}
use Rattle.port_vars.specs.Assignment.{◌>>=◌}

abbrev pub in_turn : {X A E : Type 0} → (X → A → Result X E) → X → List A → Result X E
in_turn step found [] = Ok found
in_turn step found (a ∷ more) = do
  next ← step found a
  in_turn step next more
