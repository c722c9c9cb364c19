-- What a view becomes by each kind of step.
use Rattle.std.specs.Prelude.{ℕ, suc, ◌+◌, ◌-◌, Bool, List, [], ◌∷◌, ◌++◌, Some, None, if◌then◌else◌}
use Rattle.claim_table.specs.declared.word.Word.{Word}
use Rattle.claim_table.specs.declared.word.Word.TheVariants.{Free, Claimed, Built, Reading}
use Rattle.claim_table.specs.declared.view.View.{View}
use Rattle.claim_table.specs.Words.{is_good, is_bad, is_given_up}

-- a node is put into a list where a test says so
abbrev pub put_if : Bool → ℕ → List ℕ → List ℕ
put_if test n ns = if test then n ∷ ns else ns

-- one more step at a node, which found this word
abbrev pub counted : ℕ → Word → View → View
counted n word v = record v {
  steps = suc v.steps;
  last = Some (record { node = n; word = word });
}

-- a node is known as built or bad from then on, where its word says so
abbrev pub after_look : ℕ → Word → View → View
after_look n word v = record (counted n word v) {
  built = put_if (is_good word) n v.built;
  bad = put_if (is_bad word) n v.bad;
}

-- a free node is held
abbrev pub after_claim : ℕ → View → View
after_claim n v = record (counted n Free v) { holds = Some n; claims = n ∷ v.claims }

-- a claimed node got this word, and nothing is held
abbrev pub after_end : ℕ → Word → View → View
after_end n word v = record (counted n Claimed v) {
  holds = None;
  built = put_if (is_good word) n v.built;
  bad = put_if (is_bad word) n v.bad;
  given = put_if (is_given_up word) n v.given;
}

-- a free node was skipped
abbrev pub after_skip : ℕ → View → View
after_skip n v = record (counted n Free v) { bad = n ∷ v.bad }

-- a built node is read
abbrev pub after_begin : ℕ → View → View
after_begin n v = record (counted n Built v) { reads = Some n; built = n ∷ v.built }

-- nothing is read any more
abbrev pub after_close : ℕ → View → View
after_close n v = record (counted n Reading v) { reads = None }

-- a split seat keeps all but one share
abbrev pub first_part : View → View
first_part v = record v { shares = v.shares - 1 }

-- the new seat has one share, knows what the first knows, and has claimed nothing
abbrev pub second_part : View → View
second_part v = record v { shares = 1; claims = []; given = []; steps = 0; last = None }

-- shares and lists of two seats are put together; steps are counted on as the first seat's
abbrev pub together : View → View → View
together v w = record v {
  shares = v.shares + w.shares;
  built = v.built ++ w.built;
  bad = v.bad ++ w.bad;
  claims = v.claims ++ w.claims;
  given = v.given ++ w.given;
}
