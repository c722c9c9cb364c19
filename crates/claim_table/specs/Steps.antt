-- The eight kinds of steps: what each leaves of a seat's view, and of the slots that are out with
-- the seat.
use Rattle.std.specs.Prelude.{◌≡◌, ◌≢◌, ℕ, ◌+◌, ◌∷◌, Option, Some, None}
use Rattle.atomic_table.specs.Table.{Me, rest}
use Rattle.bulk_model.specs.declared.outcome.Outcome.{Outcome}
use Rattle.bulk_model.specs.declared.outcome.Outcome.TheVariants.{Built as MadePackage}
use Rattle.bulk_model.specs.Views.{PackageView}
use Rattle.claim_table.specs.declared.word.Word.{Word}
use Rattle.claim_table.specs.declared.word.Word.TheVariants.{Skipped}
use Rattle.claim_table.specs.declared.view.Task.{Task}
use Rattle.claim_table.specs.declared.view.View.{View}
use Rattle.claim_table.specs.Words.{word_of}
use Rattle.claim_table.specs.Told.{Lore, IsRight}
use Rattle.claim_table.specs.Views.{IsFound}
use Rattle.claim_table.specs.Changes.{after_look, after_claim, after_end, after_skip, after_begin, after_close, first_part, second_part, together}

-- a seat: its view, and the slots that are out with it, the one that was taken last in front
abbrev pub Mine : Type 0
Mine = Me (Option Outcome) View

-- a load, or an exchange that failed: the word was found, and nothing else changed
pub record Look (n : ℕ) (word : Word) (before after : Mine) : Type 0 where
  pub found : (t : Task) → before.0.task ≡ Some t → IsFound t before.0 n word
  pub view : after.0 ≡ after_look n word before.0
  pub slots : after.1 ≡ before.1

-- Free to Claimed; the node's slot was empty, and is taken
pub record Claim (n : ℕ) (before after : Mine) : Type 0 where
  pub view : after.0 ≡ after_claim n before.0
  pub slots : after.1 ≡ (n, None) ∷ before.1

-- Claimed to Built, Failed or GivenUp; the slot is given back
pub record End (n : ℕ) (word : Word) (before after : Mine) : Type 0 where
  pub view : after.0 ≡ after_end n word before.0
  pub slots : after.1 ≡ rest before.1

-- Free to Skipped
pub record Skip (n : ℕ) (before after : Mine) : Type 0 where
  pub view : after.0 ≡ after_skip n before.0
  pub slots : after.1 ≡ before.1

-- Built to Reading; the slot had a right package, and is taken
pub record BeginReading (l : Lore) (n : ℕ) (before after : Mine) : Type 0 where
  pub built : PackageView
  pub right : (t : Task) → before.0.task ≡ Some t → IsRight l t n (MadePackage built)
  pub view : after.0 ≡ after_begin n before.0
  pub slots : after.1 ≡ (n, Some (MadePackage built)) ∷ before.1

-- Reading to Built; the slot is given back
pub record CloseReading (n : ℕ) (before after : Mine) : Type 0 where
  pub view : after.0 ≡ after_close n before.0
  pub slots : after.1 ≡ rest before.1

-- one seat becomes two
pub record SplitOf (v a b : View) : Type 0 where
  pub first : a ≡ first_part v
  pub second : b ≡ second_part v

-- two seats become one
pub record JoinOf (v w u : View) : Type 0 where
  pub both : u ≡ together v w

-- ---- what the steps of the calls tell: of the number found, or stored, at the word behind the
-- spare one and those of the nodes before

abbrev pub AtNode : ℕ → (ℕ → Type 0) → Type 0
AtNode place P = (n : ℕ) → place ≡ n + 1 → P n

abbrev pub looks_then : ℕ → Mine → ℕ → Mine → Type 0
looks_then place before found after = AtNode place (λ n. Look n (word_of found) before after)

abbrev pub claims_then : ℕ → Mine → ℕ → Mine → Type 0
claims_then place before found after =
    AtNode place (λ n. (found ≢ 0 → Look n (word_of found) before after)
    × (found ≡ 0 → Claim n before after))

abbrev pub ends_then : ℕ → Mine → ℕ → Mine → Type 0
ends_then place before stored after = AtNode place (λ n. End n (word_of stored) before after)

abbrev pub skips_then : ℕ → Mine → ℕ → Mine → Type 0
skips_then place before found after =
    AtNode place (λ n. (found ≢ 0 → Look n Skipped before after)
    × (found ≡ 0 → Skip n before after))

abbrev pub begins_then : Lore → ℕ → Mine → ℕ → Mine → Type 0
begins_then l place before found after =
    AtNode place (λ n. (found ≢ 2 → Look n (word_of found) before after)
    × (found ≡ 2 → BeginReading l n before after))

abbrev pub closes_then : ℕ → Mine → ℕ → Mine → Type 0
closes_then place before stored after = AtNode place (λ n. CloseReading n before after)
