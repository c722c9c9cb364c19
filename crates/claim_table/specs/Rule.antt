-- The rule of a table: what holds of words, slots and views between any two steps
-- (docs/CLAIM_TABLE.md).
use Rattle.std.specs.Prelude.{◌≡◌, ℕ, ◌+◌, ◌≤◌, Bool, true, List, [], length, slice_index, Option, Some, None}
use Rattle.std.specs.List.{list_all, list_any}
use mathlib.Core.Option.{none, some}
use mathlib.Core.Option as maybe
use lib.ListN.{get_elem?}
use Rattle.atomic_table.specs.Table.{State}
use Rattle.bulk_base.specs.Totals.{total, At}
use Rattle.bulk_model.specs.declared.outcome.Outcome.{Outcome}
use Rattle.bulk_model.specs.declared.outcome.Outcome.TheVariants.{Built as MadePackage, Failed as FailedBuild}
use Rattle.bulk_model.specs.PlanView.{depends, is_ignored}
use Rattle.bulk_model.specs.Results.{is_kept}
use Rattle.claim_table.specs.declared.word.Word.{Word}
use Rattle.claim_table.specs.declared.word.Word.TheVariants.{Built, Failed}
use Rattle.claim_table.specs.declared.view.Task.{Task}
use Rattle.claim_table.specs.declared.view.View.{View}
use Rattle.claim_table.specs.Words.{word_at, is_good, is_bad, is_claimed, is_reading, is_skipped, is_kept_word, is_ignored_word, was_claimed, is_out, is_bare}
use Rattle.claim_table.specs.Told.{Lore, IsRight}
use Rattle.claim_table.specs.Views.{one, face, IsSo}

-- the shares of all seats together
abbrev pub all_shares : ℕ
all_shares = 4294967296

-- the view of a seat that was joined away: it holds, reads, knows and claims nothing
abbrev pub nobody : View
nobody = record {
  task = None;
  shares = 0;
  holds = None;
  reads = None;
  built = [];
  bad = [];
  claims = [];
  given = [];
  steps = 0;
  last = None;
}

-- the view of the seat that is made with the table
abbrev pub first_view : Task → View
first_view t = record nobody { task = Some t; shares = all_shares }

-- a view has a share and is about this table, or was joined away
pub record Fits (t : Task) (v : View) : Type 0 where
  pub about : 1 ≤ v.shares → v.task ≡ Some t
  pub spent : v.shares ≡ 0 → v ≡ nobody

-- each dependency has its package
abbrev pub all_good : Task → List ℕ → ℕ → Bool
all_good t words n = list_all (λ d. is_good (word_at words d)) (depends t.plan n)

-- some dependency has no package and will have none
abbrev pub some_bad : Task → List ℕ → ℕ → Bool
some_bad t words n = list_any (λ d. is_bad (word_at words d)) (depends t.plan n)

abbrev pub outcome_word : Outcome → Word
outcome_word (MadePackage p) = Built
outcome_word (FailedBuild phase code) = Failed

-- what the slot of a node holds at this word: nothing while it is out with a seat, else a right
-- outcome of that word, or None
abbrev pub Rests : Lore → Task → ℕ → Word → maybe.Option (Option Outcome) → Type 0
Rests l t n word none = is_out word ≡ true
Rests l t n word (some None) = is_bare word ≡ true
Rests l t n word (some (Some outcome)) = (word ≡ outcome_word outcome) × IsRight l t n outcome

pub record Ruled (l : Lore) (t : Task) (s : State (Option Outcome) View) : Type 0 where
  -- there is a word for each node behind a spare word, which stays 0, and a slot for each node
  pub size : length s.words ≡ length t.plan.jobs + 1
  pub spare : slice_index s.words 0 ≡ 0
  pub places : length s.homes ≡ length t.plan.jobs
  -- the shares of all views add up to all, and each view is about this table or was joined away
  pub shares : total (λ v. v.shares) s.views ≡ all_shares
  pub fits : (i : ℕ) (v : View) → At s.views i v → Fits t v
  -- a word is Kept exactly where the node is kept, and Ignored exactly where the plan ignores it
  pub kept : (n : ℕ) → is_kept_word (word_at s.words n) ≡ is_kept t.kept n
  pub ignored : (n : ℕ) → is_ignored_word (word_at s.words n) ≡ is_ignored t.plan n
  -- a node is Claimed exactly where a view holds it, and Reading exactly where a view reads it; at
  -- most one view does
  pub holders : (n : ℕ) → total (λ v. one (face v n).holds) s.views
      ≡ one (is_claimed (word_at s.words n))
  pub readers : (n : ℕ) → total (λ v. one (face v n).reads) s.views
      ≡ one (is_reading (word_at s.words n))
  -- each dependency of a node that was claimed has its package
  pub after : (n : ℕ) → was_claimed (word_at s.words n) ≡ true → all_good t s.words n ≡ true
  -- some dependency of a node that was skipped has no package and will have none
  pub skipped : (n : ℕ) → is_skipped (word_at s.words n) ≡ true → some_bad t s.words n ≡ true
  -- a node that was claimed stands in the claims of one view, once; another in none
  pub claimers : (n : ℕ) → total (λ v. (face v n).claims) s.views
      ≡ one (was_claimed (word_at s.words n))
  -- what a view knows as built, bad and given up is so; what it claimed it holds or knows as one of
  -- these
  pub known : (i : ℕ) (v : View) → At s.views i v → (n : ℕ) → IsSo (word_at s.words n) (face v n)
  -- a slot at home holds what its word says
  pub slots : (n : ℕ) (home : maybe.Option (Option Outcome)) → get_elem? s.homes n ≡ some home
      → Rests l t n (word_at s.words n) home
