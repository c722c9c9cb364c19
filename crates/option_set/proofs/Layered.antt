-- Layers of sets with the same names are alike.
use Rattle.std.proofs.Common.{◌≡◌, ℕ, Bool, List, ap, ◌∙◌}
use Rattle.std.specs.Prelude.{not, ◌&&◌, ◌||◌}
use Rattle.port_name.specs.Sets.{is_among}
use Rattle.option_set.specs.declared.layers.Layers.{Layers}
use Rattle.option_set.specs.declared.stack.Stack.{Stack}
use Rattle.option_set.specs.Layers.{layered, on_by_layers}
use Rattle.option_set.specs.Stack.{on_in}

abbrev Alike : List (List ℕ) → List (List ℕ) → Type 0
Alike a b = (name : List ℕ) → is_among a name ≡ is_among b name

pub layered_alike : (set unset s u : List (List ℕ)) → Alike set s → Alike unset u → (below : Bool) (name : List ℕ) → layered set unset below name ≡ layered s u below name
layered_alike set unset s u same other below name =
    ap (λ b. not b && (is_among set name || below)) (other name) ∙ ap (λ b. not (is_among u name) && (b || below)) (same name)

abbrev Same : List (List ℕ) → List (List ℕ) → List (List ℕ) → List (List ℕ) → Type 0
Same set unset s u = (below : Bool) (name : List ℕ) → layered set unset below name ≡ layered s u below name

pub stack_alike : (stack : Stack) (default : List (List ℕ)) (layers : Layers) → Alike stack.default default → Same stack.global.set stack.global.unset layers.global_set layers.global_unset
    → Same stack.port.set stack.port.unset layers.port_set layers.port_unset → Same stack.file.set stack.file.unset layers.file_set layers.file_unset
    → (name : List ℕ) → on_in stack name ≡ on_by_layers default layers name
stack_alike stack default layers d g p f name =
    f _ name
    ∙ ap (λ b. layered layers.file_set layers.file_unset b name) (p _ name
    ∙ ap (λ b. layered layers.port_set layers.port_unset b name) (g _ name
    ∙ ap (λ b. layered layers.global_set layers.global_unset b name) (d name)))
