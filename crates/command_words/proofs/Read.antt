-- clap's answer, by the definition of its reading.
use Rattle.std.proofs.Common.{◌≡◌, ◌∙◌, ◌⊎◌, ◌==◌, true, false, List, [], ◌∷◌, Option, option_map, Some, None, Result, Ok, Err, IfOk, cond, length, inl, inr, refl, ap, sym, subst, arith, ne_eqb}
use Rattle.std.specs.Prelude.{OnOk}
use Rattle.clap.specs.Kinds.{IsAmong, Kinds}
use Rattle.clap.specs.Walk.{Row, Text, is_empty}
use Rattle.clap.specs.Simple.{App, is_simple, matches_of}
use Rattle.clap.specs.Faults.{fault_of, is_simple_and_free}
use Rattle.clap.specs.declared.error.kind.ErrorKind.{ErrorKind}
use Rattle.command_words.specs.declared.description.Flags.{Flags}
use Rattle.command_words.specs.Description.{description}
use Rattle.command_words.specs.Reading.{read_by}
use Rattle.command_words.specs.Texts.{HaveTextBytes, RowsHaveTextBytes}
use Rattle.command_words.proofs.Simple.{description_is_free, description_is_simple}
use Rattle.command_words.proofs.TextRows.{matches_have_text_bytes}

-- ---- by what faults there are

without_fault : (kinds : Kinds) (rows : List Row) → kinds ≡ [] → Some rows ≡ cond (is_empty kinds) (Some rows) None
without_fault [] rows e = refl
without_fault (k ∷ kinds) rows e = cc

with_fault : (kinds : Kinds) (rows : List Row) (k : ErrorKind) → IsAmong k kinds → None ≡ cond (is_empty kinds) (Some rows) None
with_fault [] rows k among = absurd among
with_fault (x ∷ kinds) rows k among =
    let some : (length (x ∷ kinds) == 0) ≡ false = ne_eqb _ _ (λ e. omega arith) in
    rw some refl

read_well : (app : App) (words : List Text) → fault_of app words ≡ [] → Some (matches_of app words) ≡ read_by app words
unfolding read_by
read_well app words none = without_fault (fault_of app words) (matches_of app words) none

read_ill : (app : App) (words : List Text) (k : ErrorKind) → IsAmong k (fault_of app words) → None ≡ read_by app words
unfolding read_by
read_ill app words k among = with_fault (fault_of app words) (matches_of app words) k among

-- ---- by clap's clauses, of a command with the description

rows_are : (flags : Flags) (app : App) (words : List Text) (rows : List Row) (Q : Type 0) → app ≡ description flags
    → (is_simple app ≡ true → (rows ≡ matches_of app words) × Q) → rows ≡ matches_of (description flags) words
rows_are flags app words rows Q is found =
    (found (ap is_simple is ∙ description_is_simple flags)).0 ∙ ap (λ a. matches_of a words) is

pub matched : (flags : Flags) (app : App) (words : List Text) (rows : List Row) (Q : Type 0) → app ≡ description flags
    → (is_simple_and_free app ≡ true → fault_of app words ≡ []) → (is_simple app ≡ true → (rows ≡ matches_of app words) × Q)
    → Some rows ≡ read_by (description flags) words
matched flags app words rows Q is faults found =
    let none = ap (λ a. fault_of a words) (sym is) ∙ faults (ap is_simple_and_free is ∙ description_is_free flags) in
    ap (λ r. Some r) (rows_are flags app words rows Q is found) ∙ read_well (description flags) words none

pub matched_texts : (flags : Flags) (app : App) (words : List Text) (rows : List Row) (Q : Type 0) → app ≡ description flags
    → (is_simple app ≡ true → (rows ≡ matches_of app words) × Q) → HaveTextBytes words → RowsHaveTextBytes rows
matched_texts flags app words rows Q is found fine =
    subst RowsHaveTextBytes (sym (rows_are flags app words rows Q is found)) (matches_have_text_bytes flags words fine)

faulted : (flags : Flags) (app : App) (words : List Text) (k : ErrorKind) → app ≡ description flags
    → IsAmong k (fault_of app words) → None ≡ read_by (description flags) words
faulted flags app words k is among = read_ill (description flags) words k (subst (λ (a : App). IsAmong k (fault_of a words)) is among)

-- where an error is not want of memory, it is one of the reading's faults
pub unmatched : {T E K : Type 0} (r : Result (Option T) E) (rows : T → List Row) (flags : Flags) (app : App) (words : List Text) (k : ErrorKind)
    → app ≡ description flags → IfOk r (λ read. read ≡ None) → OnOk r (K → ⊥)
    → (is_simple_and_free app ≡ true → K ⊎ IsAmong k (fault_of app words))
    → IfOk r (λ read. option_map rows read ≡ read_by (description flags) words)
unmatched {K = K} (Ok read) rows flags app words k is none other has =
    ap (option_map rows) none ∙ among (has (ap is_simple_and_free is ∙ description_is_free flags))
  where
    among : K ⊎ IsAmong k (fault_of app words) → None ≡ read_by (description flags) words
    among (inl memory) = absurd (other memory)
    among (inr fault) = faulted flags app words k is fault
unmatched (Err e) rows flags app words k is none other has = tt
