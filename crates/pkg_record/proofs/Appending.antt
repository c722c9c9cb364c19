-- Texts appended one behind another.
use Rattle.std.proofs.Common.{◌≡◌, ℕ, List, ◌++◌, ap, ◌∙◌, append_assoc}

pub appended : (out a b first second : List ℕ) → first ≡ out ++ a → second ≡ first ++ b → second ≡ out ++ (a ++ b)
appended out a b first second e f = f ∙ ap (λ x. x ++ b) e ∙ append_assoc out a b
