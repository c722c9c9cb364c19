-- What contracts see of the objects in memory.
use Rattle.std.specs.Prelude.{ℕ, ◌≤◌, Bool, nat_le, List, [], length, take, Option, Some, None, if◌then◌else◌, refl}
use Rattle.std.specs.FinMap as map
use Rattle.std.specs.Coded.{Coded, code_by, coded×, coded_ℕ, coded_list}
use Rattle.outside.specs.contracts.failure.Fail as fail
use Rattle.outside.specs.contracts.change.Change as change
use Rattle.outside.specs.declared.failure.Fail.{Fail}
use Rattle.outside.specs.declared.change.Change.{Change}
use Rattle.outside.specs.Contents.{Contents}
use Rattle.outside.specs.Changes.{replayed}
use Rattle.outside.specs.Failures.{Failing, fresh}

abbrev pub contents_code : Coded Contents
contents_code = map.code (coded_list coded_ℕ) (coded_list coded_ℕ)

abbrev pub failing_code : Coded Failing
failing_code =
    code_by (List Fail × (List ℕ × ℕ)) (coded× (coded_list fail.the_row.coded) (coded× (coded_list coded_ℕ) coded_ℕ))
    (λ f. (f.planned, (f.calls, f.faults))) (λ p. record { planned = p.0; calls = p.1.0; faults = p.1.1 }) (λ _. refl)

-- a tree: what it holds, and which of its calls fail
pub record TreeState : Type 0 where
  pub content : Contents
  pub failing : Failing

abbrev pub tree_code : Coded TreeState
tree_code =
    code_by (Contents × Failing) (coded× contents_code failing_code)
    (λ t. (t.content, t.failing)) (λ p. record { content = p.0; failing = p.1 }) (λ _. refl)

-- a sink: the bytes written, and which of its calls fail
pub record SinkState : Type 0 where
  pub written : List ℕ
  pub failing : Failing

-- files under names: those at the beginning, the changes since, and those now
pub record History : Type 0 where
  pub first : Contents
  pub journal : List Change
  pub content : Contents

-- nothing changed yet
abbrev pub unchanged : Contents → History
unchanged content = record { first = content; journal = []; content = content }

abbrev pub history_code : Coded History
history_code =
    code_by (Contents × (List Change × Contents)) (coded× contents_code (coded× (coded_list change.the_row.coded) contents_code))
    (λ h. (h.first, (h.journal, h.content))) (λ p. record { first = p.0; journal = p.1.0; content = p.1.1 }) (λ _. refl)

-- a store: what it held at the beginning, the changes since, what it holds, and which of its calls fail
pub record StoreState : Type 0 where
  pub first : Contents
  pub journal : List Change
  pub content : Contents
  pub failing : Failing

abbrev pub store_code : Coded StoreState
store_code =
    code_by (History × Failing) (coded× history_code failing_code)
    (λ s. (record { first = s.first; journal = s.journal; content = s.content }, s.failing))
    (λ p. record { first = p.0.first; journal = p.0.journal; content = p.0.content; failing = p.1 }) (λ _. refl)

-- a store that holds this and has not changed, none of whose calls fails
abbrev pub store_of : Contents → StoreState
store_of content = record { first = content; journal = []; content = content; failing = fresh [] }

-- the store that a stop behind so many changes leaves; none, where fewer were made
abbrev pub stopped : StoreState → ℕ → Option StoreState
stopped store changes = if nat_le changes (length store.journal) then Some (store_of (replayed (take changes store.journal) store.first)) else None
