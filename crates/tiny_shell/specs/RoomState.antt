-- What contracts see of a room in memory.
use Rattle.std.specs.Prelude.{ℕ, List, refl}
use Rattle.std.specs.Coded.{Coded, code_by, coded×, coded_ℕ, coded_list}
use Rattle.outside.specs.Contents.{Contents}
use Rattle.outside.specs.Failures.{Failing}
use Rattle.outside.specs.InMemory.{contents_code, failing_code}

-- a room: what its folder holds, the names that were given to clear, and which of its calls fail
pub record RoomState : Type 0 where
  pub folder : Contents
  pub begun : List (List ℕ)
  pub failing : Failing

abbrev pub room_code : Coded RoomState
room_code =
    code_by (Contents × (List (List ℕ) × Failing)) (coded× contents_code (coded× (coded_list (coded_list coded_ℕ)) failing_code))
    (λ r. (r.folder, (r.begun, r.failing))) (λ p. record { folder = p.0; begun = p.1.0; failing = p.1.1 }) (λ _. refl)
