-- The words of nodes: their numbers in the table, and what each says (docs/CLAIM_TABLE.md).
use Rattle.std.specs.Prelude.{ℕ, ◌+◌, ◌==◌, Bool, true, false, List, slice_index, if◌then◌else◌}
use Rattle.claim_table.specs.declared.word.Word.{Word}
use Rattle.claim_table.specs.declared.word.Word.TheVariants.{Free, Claimed, Built, Failed, Reading, Skipped, Kept, Ignored, GivenUp}

-- the word of a number
abbrev pub word_of : ℕ → Word
word_of code =
    if code == 0 then Free else if code == 1 then Claimed else if code == 2 then Built
    else if code == 3 then Failed else if code == 4 then Reading else if code == 5 then Skipped
    else if code == 6 then Kept else if code == 7 then Ignored else GivenUp

-- the word of a node: word 0 is spare
abbrev pub word_at : List ℕ → ℕ → Word
word_at words n = word_of (slice_index words (n + 1))

-- its package is there, or was built and is being read
abbrev pub is_good : Word → Bool
is_good Built = true
is_good Reading = true
is_good Kept = true
is_good _ = false

-- it has no package and will have none
abbrev pub is_bad : Word → Bool
is_bad Failed = true
is_bad Skipped = true
is_bad Ignored = true
is_bad _ = false

abbrev pub is_claimed : Word → Bool
is_claimed Claimed = true
is_claimed _ = false

abbrev pub is_reading : Word → Bool
is_reading Reading = true
is_reading _ = false

abbrev pub is_skipped : Word → Bool
is_skipped Skipped = true
is_skipped _ = false

abbrev pub is_kept_word : Word → Bool
is_kept_word Kept = true
is_kept_word _ = false

abbrev pub is_ignored_word : Word → Bool
is_ignored_word Ignored = true
is_ignored_word _ = false

abbrev pub is_given_up : Word → Bool
is_given_up GivenUp = true
is_given_up _ = false

-- some seat claimed it
abbrev pub was_claimed : Word → Bool
was_claimed Claimed = true
was_claimed Built = true
was_claimed Failed = true
was_claimed Reading = true
was_claimed GivenUp = true
was_claimed _ = false

-- its slot is with a seat
abbrev pub is_out : Word → Bool
is_out Claimed = true
is_out Reading = true
is_out _ = false

-- its slot holds no outcome
abbrev pub is_bare : Word → Bool
is_bare Free = true
is_bare Skipped = true
is_bare Kept = true
is_bare Ignored = true
is_bare GivenUp = true
is_bare _ = false
