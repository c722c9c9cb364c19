-- Where a name leads by MOVED (Porter's Handbook, "MOVED"; docs/FORMATS.md).
use Rattle.std.specs.Prelude.{◌≡◌, ℕ, zero, suc, ◌+◌, List, [], ◌∷◌, ◌++◌, length, drop, bytes_eq, ◌==◌, Option, Some, None, if◌then◌else◌}
use Rattle.std.specs.List.{position_or_len}
use Rattle.port_name.specs.Sets.{is_among}
use Rattle.moved_list.specs.declared.line.MovedLine.{MovedLine}
use Rattle.moved_list.specs.declared.chain.Follow.{Follow}
use Rattle.moved_list.specs.declared.chain.Follow.TheVariants.{Here, At, Absent, Gone, Circle}
use Rattle.moved_list.specs.declared.chain.Step.{Step}
use Rattle.moved_list.specs.declared.chain.Step.TheVariants.{End, Next}
use Rattle.moved_list.specs.Moved.{last_line}

-- the names of a chain from the first coming of one on
abbrev pub from_first : List ℕ → List (List ℕ) → List (List ℕ)
from_first name chain = drop (position_or_len (λ n. bytes_eq n name) chain) chain

-- what the last line of a name says of it: nothing, that it was removed, or its next name
abbrev pub by_line : Option MovedLine → Step
by_line None = End Absent
by_line (Some line) = elim line.to [
  | None ↦ End (Gone line.reason)
  | Some next ↦ Next next
]

-- where a chain goes from a name: back to where it was, no further where the name is there, else by the name's last line
abbrev pub step : List (List ℕ) → List MovedLine → List (List ℕ) → List ℕ → Step
step names moved chain name =
    if is_among chain name then End (Circle (from_first name chain))
    else (if is_among names name then End (if length chain == 0 then Here else At name)
    else by_line (last_line moved name))

-- what a step comes to: its answer, or where the next name leads
abbrev pub ended : (List ℕ → Follow) → Step → Follow
ended on (End answer) = answer
ended on (Next next) = on next

-- where a name leads, behind a chain of names, in so many steps at most
abbrev pub led : ℕ → List (List ℕ) → List MovedLine → List (List ℕ) → List ℕ → Follow
led zero names moved chain name = Absent
led (suc steps) names moved chain name = ended (led steps names moved (chain ++ name ∷ [])) (step names moved chain name)

-- where a name leads: a chain ends after one step more than MOVED has lines, since each of its names has a line of its own
unfoldable pub leads_to : List (List ℕ) → List MovedLine → List ℕ → Follow
leads_to names moved name = led (length moved + 1) names moved [] name

-- from a name, behind a chain of names, the next names are these, and at their end stands the answer
abbrev pub Goes : List (List ℕ) → List MovedLine → List (List ℕ) → List ℕ → List (List ℕ) → Follow → Type 0
Goes names moved chain name [] answer = step names moved chain name ≡ End answer
Goes names moved chain name (next ∷ more) answer = (step names moved chain name ≡ Next next) × Goes names moved (chain ++ name ∷ []) next more answer

-- a name leads to the answer: by some names, one after another
pub record Leads (names : List (List ℕ)) (moved : List MovedLine) (name : List ℕ) (answer : Follow) : Type 0 where
  pub by : List (List ℕ)
  pub goes : Goes names moved [] name by answer
