-- Words of nodes where one of them changes, and tests over lists of nodes.
use Rattle.std.proofs.Common.{◌≡◌, ◌≢◌, ℕ, zero, suc, ◌+◌, ◌<◌, ◌==◌, Bool, true, false, List, [], ◌∷◌, length, set, refl, sym, ap, subst, ⊎_elim, true≢false, eqb-true, if◌then◌else◌, arith, inl, inr, ◌⊎◌}
use Rattle.std.specs.List.{list_all, list_any}
use Rattle.std.proofs.lemmas.List.{get_or-set_same, get_or-set_other}
use Rattle.std.proofs.lemmas.Bool.{and_parts, and_from, or_cases, or_left, or_right, cases_eq}
use mathlib.Core.Option.{some}
use lib.ListN.{get_elem?}
use Rattle.claim_table.specs.declared.word.Word.{Word}
use Rattle.claim_table.specs.declared.word.Word.TheVariants.{Free, Claimed, Built, Failed, Reading, Skipped, Kept, Ignored, GivenUp}
use Rattle.claim_table.specs.Words.{word_of, word_at, is_good, is_bad, is_kept_word, is_ignored_word, was_claimed}

abbrev pub is_free : Word → Bool
is_free Free = true
is_free _ = false

abbrev pub is_built : Word → Bool
is_built Built = true
is_built _ = false

-- its claim ended with an outcome, or was given up
abbrev pub is_ended : Word → Bool
is_ended Built = true
is_ended Failed = true
is_ended GivenUp = true
is_ended _ = false

pub word-here : (words : List ℕ) (n code : ℕ) → n + 1 < length words → word_at (set words (n + 1) code) n ≡ word_of code
word-here words n code inside = ap word_of (get_or-set_same words (n + 1) code 0 inside)

pub word-else : (words : List ℕ) (n k code : ℕ) → k ≢ n → word_at (set words (n + 1) code) k ≡ word_at words k
word-else words n k code ne = ap word_of (get_or-set_other words (n + 1) (k + 1) code 0 (λ e. ne (omega arith)))

-- what holds at each other node, and at the changed one, holds at each node
pub each-word : (P : ℕ → Word → Type 0) (words : List ℕ) (n code : ℕ) → n + 1 < length words
    → ((k : ℕ) → k ≢ n → P k (word_at words k)) → P n (word_of code) → (k : ℕ) → P k (word_at (set words (n + 1) code) k)
each-word P words n code inside old new k =
    ⊎_elim
    (λ e. subst (λ m. P m (word_at (set words (n + 1) code) m)) (sym e) (subst (P n) (sym (word-here words n code inside)) new))
    (λ ne. subst (P k) (sym (word-else words n k code ne)) (old k ne))
    (cases_eq k n)

pub all-more : (f g : ℕ → Bool) → ((d : ℕ) → f d ≡ true → g d ≡ true) → (ds : List ℕ) → list_all f ds ≡ true → list_all g ds ≡ true
all-more f g more [] e = refl
all-more f g more (d ∷ ds) e = let p = and_parts (f d) (list_all f ds) e in and_from (g d) (list_all g ds) (more d p.0) (all-more f g more ds p.1)

pub any-more : (f g : ℕ → Bool) → ((d : ℕ) → f d ≡ true → g d ≡ true) → (ds : List ℕ) → list_any f ds ≡ true → list_any g ds ≡ true
any-more f g more [] e = e
any-more f g more (d ∷ ds) e = ⊎_elim (λ h. or_left (g d) (list_any g ds) (more d h)) (λ h. or_right (g d) (list_any g ds) (any-more f g more ds h)) (or_cases (f d) (list_any f ds) e)

-- what all pass, each that stands there passes
pub all-there : (f : ℕ → Bool) (ds : List ℕ) (n : ℕ) → list_all f ds ≡ true → list_any (λ m. m == n) ds ≡ true → f n ≡ true
all-there f [] n all e = absurd (true≢false (sym e))
all-there f (d ∷ ds) n all e =
    let p = and_parts (f d) (list_all f ds) all in ⊎_elim (λ h. subst (λ k. f k ≡ true) (eqb-true d n h) p.0) (λ h. all-there f ds n p.1 h) (or_cases (d == n) (list_any (λ m. m == n) ds) e)

-- not all pass one test where some passes another that excludes it
pub clash : (f g : ℕ → Bool) → ((d : ℕ) → f d ≡ true → g d ≡ true → ⊥) → (ds : List ℕ) → list_all f ds ≡ true → list_any g ds ≡ true → ⊥
clash f g apart [] all some_one = true≢false (sym some_one)
clash f g apart (d ∷ ds) all some_one =
    let p = and_parts (f d) (list_all f ds) all in ⊎_elim (λ h. apart d p.0 h) (λ h. clash f g apart ds p.1 h) (or_cases (g d) (list_any g ds) some_one)

pub good-not-bad : (word : Word) → is_good word ≡ true → is_bad word ≡ true → ⊥
good-not-bad Built g b = true≢false (sym b)
good-not-bad Reading g b = true≢false (sym b)
good-not-bad Kept g b = true≢false (sym b)
good-not-bad Free g b = true≢false (sym b)
good-not-bad Claimed g b = true≢false (sym b)
good-not-bad GivenUp g b = true≢false (sym b)
good-not-bad Failed g b = true≢false (sym g)
good-not-bad Skipped g b = true≢false (sym g)
good-not-bad Ignored g b = true≢false (sym g)

-- a good word is kept, or its node was claimed
pub good-how : (word : Word) → is_good word ≡ true → (is_kept_word word ≡ true) ⊎ (was_claimed word ≡ true)
good-how Built e = inr refl
good-how Reading e = inr refl
good-how Kept e = inl refl
good-how Free e = absurd (true≢false (sym e))
good-how Claimed e = absurd (true≢false (sym e))
good-how Failed e = absurd (true≢false (sym e))
good-how Skipped e = absurd (true≢false (sym e))
good-how Ignored e = absurd (true≢false (sym e))
good-how GivenUp e = absurd (true≢false (sym e))

pub kept-good : (word : Word) → is_kept_word word ≡ true → is_good word ≡ true
kept-good Kept e = refl
kept-good Free e = e
kept-good Claimed e = e
kept-good Built e = refl
kept-good Failed e = e
kept-good Reading e = refl
kept-good Skipped e = e
kept-good Ignored e = e
kept-good GivenUp e = e

-- a word that is neither free nor claimed nor set at first is skipped
pub only-skipped : (word : Word) → word ≢ Free → was_claimed word ≡ false → is_kept_word word ≡ false → is_ignored_word word ≡ false → word ≡ Skipped
only-skipped Free f c k i = absurd (f refl)
only-skipped Claimed f c k i = absurd (true≢false c)
only-skipped Built f c k i = absurd (true≢false c)
only-skipped Failed f c k i = absurd (true≢false c)
only-skipped Reading f c k i = absurd (true≢false c)
only-skipped Skipped f c k i = refl
only-skipped Kept f c k i = absurd (true≢false k)
only-skipped Ignored f c k i = absurd (true≢false i)
only-skipped GivenUp f c k i = absurd (true≢false c)

pub there : {A : Type 0} (xs : List A) (n : ℕ) → n < length xs → (x : A) × (get_elem? xs n ≡ some x)
there [] n inside = absurd (omega arith)
there (x ∷ xs) zero inside = (x, refl)
there (x ∷ xs) (suc n) inside = there xs n (omega arith)

-- which test of `word_of` a word shows
free-first : (a b c d e f g h : Bool) → is_free (if a then Free else if b then Claimed else if c then Built else if d then Failed else if e then Reading else if f then Skipped else if g then Kept else if h then Ignored else GivenUp) ≡ true → a ≡ true
free-first true b c d e f g h p = refl
free-first false true c d e f g h p = p
free-first false false true d e f g h p = p
free-first false false false true e f g h p = p
free-first false false false false true f g h p = p
free-first false false false false false true g h p = p
free-first false false false false false false true h p = p
free-first false false false false false false false true p = p
free-first false false false false false false false false p = p

built-third : (a b c d e f g h : Bool) → is_built (if a then Free else if b then Claimed else if c then Built else if d then Failed else if e then Reading else if f then Skipped else if g then Kept else if h then Ignored else GivenUp) ≡ true → c ≡ true
built-third true b c d e f g h p = absurd (true≢false (sym p))
built-third false true c d e f g h p = absurd (true≢false (sym p))
built-third false false true d e f g h p = refl
built-third false false false true e f g h p = p
built-third false false false false true f g h p = p
built-third false false false false false true g h p = p
built-third false false false false false false true h p = p
built-third false false false false false false false true p = p
built-third false false false false false false false false p = p

pub not-free : (code : ℕ) → code ≢ 0 → word_of code ≢ Free
not-free code ne e = ne (eqb-true code 0 (free-first (code == 0) (code == 1) (code == 2) (code == 3) (code == 4) (code == 5) (code == 6) (code == 7) (ap is_free e)))

pub not-built : (code : ℕ) → code ≢ 2 → word_of code ≢ Built
not-built code ne e = ne (eqb-true code 2 (built-third (code == 0) (code == 1) (code == 2) (code == 3) (code == 4) (code == 5) (code == 6) (code == 7) (ap is_built e)))
