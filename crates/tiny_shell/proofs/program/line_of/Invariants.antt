use Rattle.std.proofs.Common.{◌≡◌, ◌∷◌, ◌++◌, drop}
use Rattle.std.specs.List.{flat_map}
use Rattle.tiny_shell.proofs.program.line_of.Given as goal

abbrev pub invariant-loop-word : goal.invariant-loop-word
invariant-loop-word l = l.line.items ++ flat_map (λ next. 32 ∷ next) (drop l.word-index l.rest) ≡ l.first ++ flat_map (λ next. 32 ∷ next) l.rest
