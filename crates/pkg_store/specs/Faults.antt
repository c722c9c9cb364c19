-- Which errors blame the store.
use Rattle.std.specs.Prelude.{ℕ, Bool, true, false}
use Rattle.std.specs.declared.result.Result.{Result}
use Rattle.outside.specs.Faults.{HasCauseBy}
use Rattle.outside.specs.declared.outer.Outer.{Outer}
use Rattle.outside.specs.declared.outer.Outer.TheVariants as outer
use Rattle.pkg_store.specs.declared.fault.StoreError.{StoreError}
use Rattle.pkg_store.specs.declared.fault.StoreError.TheVariants.{Fault, NoMemory}

-- an error of the store's call as one of a reading
abbrev pub store_fault : Outer → StoreError
store_fault outer.Fault = Fault
store_fault outer.NoMemory = NoMemory

abbrev pub is_store_fault : StoreError → Bool
is_store_fault Fault = true
is_store_fault _ = false

-- the count of the store's faults never falls, a fault is answered only where it rose, and any other answer leaves it
abbrev pub IsCaused : {X : Type 0} → ℕ → ℕ → Result X StoreError → Type 0
IsCaused before now result = HasCauseBy is_store_fault before now result
