-- What a view says of one node.
use Rattle.std.specs.Prelude.{◌≡◌, ℕ, suc, ◌+◌, ◌≤◌, ◌==◌, Bool, true, false, List, [], ◌∷◌, Option, Some, None, if◌then◌else◌}
use Rattle.bulk_model.specs.Installs.{has}
use Rattle.bulk_model.specs.PlanView.{depends, is_ignored}
use Rattle.bulk_model.specs.Results.{is_kept}
use Rattle.claim_table.specs.declared.word.Word.{Word}
use Rattle.claim_table.specs.declared.view.Task.{Task}
use Rattle.claim_table.specs.declared.view.View.{View}
use Rattle.claim_table.specs.Words.{is_good, is_bad, is_kept_word, is_ignored_word, is_given_up}

abbrev pub one : Bool → ℕ
one true = 1
one false = 0

abbrev pub held : Option ℕ → ℕ → Bool
held None n = false
held (Some m) n = m == n

-- how often a node stands in a list
abbrev pub times : List ℕ → ℕ → ℕ
times [] n = 0
times (m ∷ ms) n = if m == n then suc (times ms n) else times ms n

-- whether a view holds a node, reads it, knows it as built or bad and gave it up, and how often it
-- claimed it
pub record Face : Type 0 where
  pub holds : Bool
  pub reads : Bool
  pub built : Bool
  pub bad : Bool
  pub claims : ℕ
  pub given : Bool

abbrev pub face : View → ℕ → Face
face v n = record {
  holds = held v.holds n;
  reads = held v.reads n;
  built = has v.built n;
  bad = has v.bad n;
  claims = times v.claims n;
  given = has v.given n;
}

-- what a view says of a node is so, at this word
pub record IsSo (word : Word) (f : Face) : Type 0 where
  pub built : f.built ≡ true → is_good word ≡ true
  pub bad : f.bad ≡ true → is_bad word ≡ true
  pub given : f.given ≡ true → is_given_up word ≡ true
  -- what it claimed it holds, or knows as built or bad, or gave up
  pub claims : f.claims ≤ one f.holds + (one f.built + (one f.bad + one f.given))

-- what a seat may rely on of the word that it finds at a node
pub record IsFound (t : Task) (v : View) (n : ℕ) (word : Word) : Type 0 where
  -- Kept and Ignored stand exactly where the plan and the kept packages say so
  pub kept : is_kept_word word ≡ is_kept t.kept n
  pub ignored : is_ignored_word word ≡ is_ignored t.plan n
  -- what was known stays so
  pub built : has v.built n ≡ true → is_good word ≡ true
  pub bad : has v.bad n ≡ true → is_bad word ≡ true
  -- a dependency of a node that is known as built has its package
  pub needed : (m : ℕ) → has v.built m ≡ true → has (depends t.plan m) n ≡ true
      → is_good word ≡ true
