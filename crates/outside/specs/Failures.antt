-- Which calls of an object in memory fail, and how it counts them.
use Rattle.std.specs.Prelude.{ℕ, ◌+◌, ◌-◌, ◌^◌, min, Bool, ◌&&◌, nat_eq, if◌then◌else◌, List, [], ◌∷◌, slice_index, slice_set}
use Rattle.std.specs.List.{list_any}
use Rattle.outside.specs.declared.failure.CallKind.{CallKind}
use Rattle.outside.specs.declared.failure.CallKind.TheVariants.{Names, Bytes, Get, Put, Remove, Clear, Run, Take, Write}
use Rattle.outside.specs.declared.failure.Fail.{Fail}

-- what is planned to fail, how many calls of each kind there were, and how many failed
pub record Failing : Type 0 where
  pub planned : List Fail
  pub calls : List ℕ
  pub faults : ℕ

-- the place of a kind of call in the list of counts
abbrev pub place_of : CallKind → ℕ
place_of Names = 0
place_of Bytes = 1
place_of Get = 2
place_of Put = 3
place_of Remove = 4
place_of Clear = 5
place_of Run = 6
place_of Take = 7
place_of Write = 8

-- no call was made yet
abbrev pub fresh : List Fail → Failing
fresh planned = record { planned = planned; calls = 0 ∷ 0 ∷ 0 ∷ 0 ∷ 0 ∷ 0 ∷ 0 ∷ 0 ∷ 0 ∷ []; faults = 0 }

-- one more, up to the last value of a 64-bit counter
abbrev pub one_more : ℕ → ℕ
one_more n = min (n + 1) (2 ^ 64 - 1)

-- the number that the next call of a kind has, from 1
abbrev pub next_number : CallKind → Failing → ℕ
next_number call failing = one_more (slice_index failing.calls (place_of call))

-- whether the call of the kind at this place with this number is planned to fail
abbrev pub is_planned : ℕ → ℕ → List Fail → Bool
is_planned place number planned = list_any (λ fail. nat_eq (place_of fail.call) place && nat_eq fail.number number) planned

-- whether the next call of a kind fails
abbrev pub fails_next : CallKind → Failing → Bool
fails_next call failing = is_planned (place_of call) (next_number call failing) failing.planned

-- the counts after the next call of a kind
abbrev pub counted : CallKind → Failing → Failing
counted call failing = record {
  planned = failing.planned;
  calls = slice_set failing.calls (place_of call) (next_number call failing);
  faults = (if fails_next call failing then one_more failing.faults else failing.faults);
}
