-- The count of faults that each object of the outside has.
use Rattle.std.specs.Prelude.{◌≡◌, ℕ, Bool, true, false, ◌+◌, ◌-◌, ◌^◌, ◌≤◌, min, Result, Ok, Err}
use Rattle.outside.specs.declared.outer.Outer.{Outer}
use Rattle.outside.specs.declared.outer.Outer.TheVariants.{Fault, NoMemory}

-- the count is larger, or stands at the last value of a 64-bit counter
abbrev pub Rose : ℕ → ℕ → Type 0
Rose before now = min (before + 1) (2 ^ 64 - 1) ≤ now

-- the count never falls; it rose where its object is blamed, and stays else
pub record IsCaused (before now : ℕ) (blamed : Bool) : Type 0 where
  pub later : before ≤ now
  pub rose : blamed ≡ true → Rose before now
  pub kept : blamed ≡ false → now ≡ before

-- whether a result is an error that passes a test
abbrev pub err_is : {X E : Type 0} → (E → Bool) → Result X E → Bool
err_is test (Ok x) = false
err_is test (Err e) = test e

-- an error that blames the object is answered only where its count rose, by a test of which errors do
abbrev pub HasCauseBy : {X E : Type 0} → (E → Bool) → ℕ → ℕ → Result X E → Type 0
HasCauseBy blames before now result = IsCaused before now (err_is blames result)

abbrev pub is_fault : Outer → Bool
is_fault Fault = true
is_fault NoMemory = false

-- the same of a call of the object itself
abbrev pub HasCause : {X : Type 0} → ℕ → ℕ → Result X Outer → Type 0
HasCause before now result = HasCauseBy is_fault before now result
