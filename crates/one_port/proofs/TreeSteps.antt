-- Steps that give just what is due, one behind another.
use Rattle.std.proofs.Common.{◌≡◌, true, false, Result, Ok, Err, ◌∙◌, ap, subst, sym}
use mathlib.Core.Bool.{true≢false}
use Rattle.std.specs.Prelude.{Option, Some, None}
use Rattle.port_vars.specs.Assignment.{◌>>=◌}
use Rattle.tree_index.specs.Faults.{refused_as}
use Rattle.one_port.specs.declared.answer.Answer.{Answer}
use Rattle.one_port.specs.Causes.{is_refusal}
use Rattle.one_port.specs.Decided.{Tells}
use Rattle.one_port.specs.PortsWanted.{unless_refused}

-- behind a step that gave its value
pub then_told : {X Y : Type 0} (due : Result X Answer) (f : X → Result Y Answer) (x : X) (result : Result Y Answer) → due ≡ Ok x → Tells (f x) result → Tells (due >>= f) result
then_told due f x result e h = subst (λ d. Tells (d >>= f) result) (sym e) h

-- a step's refusal stands for all behind it
pub then_refused : {X Y : Type 0} (due : Result X Answer) (f : X → Result Y Answer) (answer : Answer) → (is_refusal answer ≡ true → due ≡ Err answer) → is_refusal answer ≡ true → (due >>= f) ≡ Err answer
then_refused due f answer d r = ap (λ d. d >>= f) (d r)

-- behind a check that refuses nothing
pub unless_told : {X : Type 0} (refused : Option Answer) (due result : Result X Answer) → refused ≡ None → Tells due result → Tells (unless_refused refused due) result
unless_told refused due result e h = subst (λ r. Tells (unless_refused r due) result) (sym e) h

-- a check's refusal
pub unless_stopped : {X : Type 0} (refused : Option Answer) (due : Result X Answer) (answer : Answer) → (is_refusal answer ≡ true → refused ≡ Some answer) → is_refusal answer ≡ true → unless_refused refused due ≡ Err answer
unless_stopped refused due answer d r = ap (λ o. unless_refused o due) (d r)

-- a reader's value
pub value_told : {X E : Type 0} (due : Result X E) (tell : E → Answer) (x : X) → due ≡ Ok x → refused_as tell due ≡ Ok x
value_told due tell x e = ap (refused_as tell) e

-- a fault that is told as no refusal is none that is told as one
pub other_fault : {E : Type 0} (tell : E → Answer) (fault other : E) → is_refusal (tell fault) ≡ true → is_refusal (tell other) ≡ false → fault ≡ other → ⊥
other_fault tell fault other r n e = true≢false (sym r ∙ ap (λ f. is_refusal (tell f)) e ∙ n)

-- a reader's refusal
pub fault_told : {X E : Type 0} (due : Result X E) (tell : E → Answer) (fault : E) (answer : Answer) → (is_refusal (tell fault) ≡ true → due ≡ Err fault)
    → (is_refusal answer ≡ true → answer ≡ tell fault) → is_refusal answer ≡ true → refused_as tell due ≡ Err answer
fault_told due tell fault answer d t r = ap (refused_as tell) (d (ap is_refusal (sym (t r)) ∙ r)) ∙ ap Err (sym (t r))
