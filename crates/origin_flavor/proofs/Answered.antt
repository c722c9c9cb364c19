-- What the loop over words keeps.
use Rattle.std.proofs.Common.{◌≡◌, ℕ, ◌+◌, ◌<◌, ◌≤◌, List, [], ◌∷◌, ◌++◌, length, get_or, drop, ◌∙◌, ap, sym, refl}
use Rattle.std.specs.declared.result.Result.{Result}
use Rattle.std.specs.declared.result.Result.TheVariants.{Ok, Err}
use Rattle.std.proofs.lemmas.List.{append_assoc, append-nil, drop_all}
use Rattle.port_vars.specs.Assignment.{mapped, ◌>>=◌}
use Rattle.port_desc.proofs.Turns.{left_more}
use Rattle.tree_index.specs.Index.{IndexView}
use Rattle.origin_flavor.specs.declared.fault.WantedError.{WantedError}
use Rattle.origin_flavor.specs.declared.answer.Answer.{Answer}
use Rattle.origin_flavor.specs.Answers.{answer_of, answers_of}

-- the answers found, and those of the words that are left, are all
abbrev pub AnsweredSoFar : IndexView → List (List ℕ) → ℕ → List Answer → Type 0
AnsweredSoFar index words at found = answers_of index words ≡ mapped (λ rest. found ++ rest) (answers_of index (drop at words))

nothing_found : (answers : Result (List Answer) WantedError) → answers ≡ mapped (λ rest. [] ++ rest) answers
nothing_found (Ok answers) = refl
nothing_found (Err error) = refl

pub answered_begin : (index : IndexView) (words : List (List ℕ)) (found : List Answer) → found ≡ [] → AnsweredSoFar index words 0 found
answered_begin index words found e = nothing_found (answers_of index words) ∙ ap (λ f. mapped (λ rest. f ++ rest) (answers_of index words)) (sym e)

abbrev with_answer : Result Answer WantedError → Result (List Answer) WantedError → Result (List Answer) WantedError
with_answer answer rest = answer >>= λ a. rest >>= λ others. Ok (a ∷ others)

pushed : (found : List Answer) (answer : Answer) (rest : Result (List Answer) WantedError)
    → mapped (λ others. found ++ others) (with_answer (Ok answer) rest) ≡ mapped (λ others. (found ++ answer ∷ []) ++ others) rest
pushed found answer (Ok others) = ap Ok (sym (append_assoc found (answer ∷ []) others))
pushed found answer (Err error) = refl

left : (index : IndexView) (words : List (List ℕ)) (at : ℕ) (word : List ℕ) (found : List Answer) → at < length words → word ≡ get_or words at word → AnsweredSoFar index words at found
    → answers_of index words ≡ mapped (λ rest. found ++ rest) (with_answer (answer_of index word) (answers_of index (drop (at + 1) words)))
left index words at word found l e so_far = so_far ∙ ap (λ ws. mapped (λ rest. found ++ rest) (answers_of index ws)) (left_more words at word l e)

pub answered_more : (index : IndexView) (words : List (List ℕ)) (at : ℕ) (word : List ℕ) (found more : List Answer) (answer : Answer) → at < length words → word ≡ get_or words at word
    → answer_of index word ≡ Ok answer → more ≡ found ++ answer ∷ [] → AnsweredSoFar index words at found → AnsweredSoFar index words (at + 1) more
answered_more index words at word found more answer l e a m so_far =
    left index words at word found l e so_far
    ∙ ap (λ r. mapped (λ rest. found ++ rest) (with_answer r (answers_of index (drop (at + 1) words)))) a
    ∙ pushed found answer (answers_of index (drop (at + 1) words))
    ∙ ap (λ f. mapped (λ rest. f ++ rest) (answers_of index (drop (at + 1) words))) (sym m)

pub refused_here : (index : IndexView) (words : List (List ℕ)) (at : ℕ) (word : List ℕ) (found : List Answer) (error : WantedError) → at < length words → word ≡ get_or words at word
    → answer_of index word ≡ Err error → AnsweredSoFar index words at found → answers_of index words ≡ Err error
refused_here index words at word found error l e a so_far =
    left index words at word found l e so_far ∙ ap (λ r. mapped (λ rest. found ++ rest) (with_answer r (answers_of index (drop (at + 1) words)))) a

pub answered_all : (index : IndexView) (words : List (List ℕ)) (at : ℕ) (found : List Answer) → length words ≤ at → AnsweredSoFar index words at found → answers_of index words ≡ Ok found
answered_all index words at found l so_far =
    so_far ∙ ap (λ ws. mapped (λ rest. found ++ rest) (answers_of index ws)) (drop_all at words l) ∙ ap Ok (append-nil found)
