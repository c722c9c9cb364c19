-- What the inner calls answer.
use Rattle.std.specs.Prelude.{◌≡◌, ℕ, Bool, nat_le, List, ◌++◌, length, take, if◌then◌else◌}
use Rattle.std.specs.declared.option.Option.{Option}
use Rattle.std.specs.Option.{option_map}
use Rattle.std.specs.declared.result.Result.{Result}
use Rattle.std.specs.declared.result.Result.TheVariants.{Ok, Err}
use Rattle.std.specs.FinMap.{get, insert}
use Rattle.port_vars.specs.declared.fault.LineKind.{LineKind}
use Rattle.port_vars.specs.declared.fault.LineKind.TheVariants.{TooLong}
use Rattle.port_vars.specs.declared.fault.LineError.{LineError}
use Rattle.port_vars.specs.declared.fault.LineError.TheVariants.{Bad, NoMemory}
use Rattle.port_vars.specs.declared.fault.VarsError.{VarsError}
use Rattle.port_vars.specs.declared.fault.VarsError.TheVariants.{BadLine, NoMemory as OutOfMemory}
use Rattle.port_vars.specs.declared.operator.Operator.{Operator}
use Rattle.port_vars.specs.Assignment.{changed, mapped}
use Rattle.port_vars.specs.Reference.{Values, expanded_from}
use Rattle.port_vars.specs.Variables.{Vars}

-- the answer is what the definition says, or want of memory
abbrev pub Answers : {A : Type 0} → Result A LineKind → Result A LineError → Type 0
Answers says (Ok a) = says ≡ Ok a
Answers says (Err (Bad kind)) = says ≡ Err kind
Answers says (Err NoMemory) = Unit {0}

-- what a call leaves is what the definition says, or the answer is want of memory
abbrev pub Leaves : {A : Type 0} → Result A LineKind → Result (Unit {0}) LineError → A → Type 0
Leaves says (Ok _) new = says ≡ Ok new
Leaves says (Err (Bad kind)) new = says ≡ Err kind
Leaves says (Err NoMemory) new = Unit {0}

-- a value of at most so many bytes, else TooLong
abbrev pub fitting : ℕ → List ℕ → Result (List ℕ) LineKind
fitting limit value = if nat_le (length value) limit then Ok value else Err TooLong

-- variables after an operator and a text, where the name's value is not too long then
abbrev pub given : ℕ → Vars → List ℕ → Operator → List ℕ → Result Vars LineKind
given limit vars name operator text = mapped (insert vars name) (fitting limit (changed operator (get vars name) text))

-- a fault of this kind holds by a cause
abbrev pub HasCause : LineKind → LineError → Type 0 → Type 0
HasCause kind (Bad found) cause = (found ≡ kind) × cause
HasCause kind NoMemory cause = Unit {0}

-- the first bytes of a text with what the pieces behind it stand for
abbrev pub first_bytes : ℕ → Values → List ℕ → Bool → List (List ℕ) → Option (List ℕ)
first_bytes most values out plain pieces = option_map (λ rest. take most (out ++ rest)) (expanded_from values plain pieces)

-- the same at a line's number
abbrev pub LeavesAt : {A : Type 0} → ℕ → Result A LineKind → Result (Unit {0}) VarsError → A → Type 0
LeavesAt number says (Ok _) new = says ≡ Ok new
LeavesAt number says (Err (BadLine line kind)) new = (line ≡ number) × (says ≡ Err kind)
LeavesAt number says (Err OutOfMemory) new = Unit {0}
