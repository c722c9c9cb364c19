-- Where no list file is asked for, no list file is bad.
use Rattle.std.proofs.Common.{◌≡◌, ℕ, Bool, true, false, List, [], ◌∷◌, ◌∙◌, ap, sym, refl, Result, Ok, Err}
use Rattle.std.specs.Prelude.{None, if◌then◌else◌}
use mathlib.Core.Bool.{true≢false}
use Rattle.port_name.specs.Forms.{is_node}
use Rattle.port_name.specs.Sets.{is_among}
use Rattle.port_vars.specs.Assignment.{◌>>=◌}
use Rattle.moved_list.specs.declared.chain.Follow.{Follow}
use Rattle.moved_list.specs.declared.chain.Follow.TheVariants as follow
use Rattle.moved_list.specs.Walk.{leads_to}
use Rattle.tree_index.specs.Index.{IndexView}
use Rattle.origin_flavor.specs.declared.fault.WantedError.{WantedError}
use Rattle.origin_flavor.specs.declared.fault.WantedError.TheVariants.{BadList, NoOrigin, NoFlavor}
use Rattle.origin_flavor.specs.Words.{origin_in, name_in}
use Rattle.origin_flavor.specs.Answers.{absence, answer_by, answer_of, answers_of}
use Rattle.origin_flavor.specs.Command.{wanted_by, wanted_of}

abbrev is_bad : WantedError → Bool
is_bad (BadList line) = true
is_bad _ = false

abbrev is_bad_list : {X : Type 0} → Result X WantedError → Bool
is_bad_list (Ok x) = false
is_bad_list (Err e) = is_bad e

absent_word : (names : List (List ℕ)) (word : List ℕ) → is_bad (absence names word) ≡ false
absent_word names word =
    elim (is_among names (origin_in word)) as (λ known. is_bad (if known then NoFlavor word else NoOrigin word) ≡ false) [
      | true ↦ refl
      | false ↦ refl
    ]

led_word : (names : List (List ℕ)) (word : List ℕ) (found : Follow) → is_bad_list (answer_by names word found) ≡ false
led_word names word follow.Here = refl
led_word names word (follow.At name) = refl
led_word names word follow.Absent = absent_word names word
led_word names word (follow.Gone reason) = refl
led_word names word (follow.Circle origins) = refl

one_word : (index : IndexView) (word : List ℕ) → is_bad_list (answer_of index word) ≡ false
one_word index word =
    elim (is_node word) as (λ b. is_bad_list (if b then answer_by index.names word (leads_to index.names index.moved (name_in word)) else Err (NoOrigin word)) ≡ false) [
      | true ↦ led_word index.names word (leads_to index.names index.moved (name_in word))
      | false ↦ refl
    ]

-- behind a step that blames no list
behind : {X Y : Type 0} (result : Result X WantedError) (f : X → Result Y WantedError) → is_bad_list result ≡ false → ((x : X) → is_bad_list (f x) ≡ false) → is_bad_list (result >>= f) ≡ false
behind (Ok x) f h g = g x
behind (Err e) f h g = h

all_words : (index : IndexView) (words : List (List ℕ)) → is_bad_list (answers_of index words) ≡ false
all_words index [] = refl
all_words index (word ∷ words) =
    behind (answer_of index word) (λ answer. answers_of index words >>= (λ answers. Ok (answer ∷ answers))) (one_word index word)
    (λ answer. behind (answers_of index words) (λ answers. Ok (answer ∷ answers)) (all_words index words) (λ answers. refl))

no_list : (index : IndexView) (words : List (List ℕ)) → is_bad_list (wanted_of index None words false false) ≡ false
unfolding wanted_of
no_list index words = behind (answers_of index words) (λ answers. Ok (wanted_by index false false answers)) (all_words index words) (λ answers. refl)

pub no_bad_list : (index : IndexView) (words : List (List ℕ)) (line : ℕ) → wanted_of index None words false false ≡ Err (BadList line) → ⊥
no_bad_list index words line e = true≢false (sym (ap is_bad_list e) ∙ no_list index words)
