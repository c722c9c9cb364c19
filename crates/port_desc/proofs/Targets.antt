-- The steps by which words give targets.
use Rattle.std.proofs.Common.{◌≡◌, ◌≢◌, ℕ, ◌+◌, ◌<◌, ◌≤◌, List, [], ◌∷◌, ◌++◌, length, get_or, drop, ap, sym, ◌∙◌, refl, arith, Ok, Err, Result}
use Rattle.std.specs.Prelude.{map}
use Rattle.std.proofs.lemmas.List.{drop_all, append_assoc, append-nil}
use Rattle.port_vars.specs.Assignment.{mapped, ◌>>=◌}
use Rattle.port_desc.specs.declared.fault.DescError.{DescError}
use Rattle.port_desc.specs.declared.fault.DescError.TheVariants.{BadDepend}
use Rattle.port_desc.specs.Dependencies.{target_behind, refusal_of_three, target_in, target_of, targets_of}
use Rattle.port_desc.proofs.Turns.{left_more}
use Rattle.port_desc.proofs.Refused.{ok_then, err_then, mapped-none, mapped-mapped, mapped_alike, then_ok}

-- targets behind some that are known
abbrev pub behind : List (List ℕ) → Result (List (List ℕ)) DescError → Result (List (List ℕ)) DescError
behind found r = mapped (λ rest. found ++ rest) r

targets_next : (word target : List ℕ) (more : List (List ℕ)) → target_of word ≡ Ok target → targets_of (word ∷ more) ≡ mapped (λ rest. target ∷ rest) (targets_of more)
targets_next word target more h = ok_then (target_of word) (λ t. targets_of more >>= λ ts. Ok (t ∷ ts)) target h ∙ then_ok (targets_of more) (λ ts. target ∷ ts)

targets_fault : (word : List ℕ) (e : DescError) (more : List (List ℕ)) → target_of word ≡ Err e → targets_of (word ∷ more) ≡ Err e
targets_fault word e more h = err_then (target_of word) (λ t. targets_of more >>= λ ts. Ok (t ∷ ts)) e h

-- the targets so far, with those of the words that are left, are all
abbrev pub TargetsSoFar : List (List ℕ) → List (List ℕ) → ℕ → Type 0
TargetsSoFar words found at = behind found (targets_of (drop at words)) ≡ targets_of words

pub targets_begin : (words found : List (List ℕ)) → found ≡ [] → TargetsSoFar words found 0
targets_begin words found e = ap (λ f. behind f (targets_of words)) e ∙ mapped-none (targets_of words)

pub targets_more : (words found longer : List (List ℕ)) (at : ℕ) (word target : List ℕ) → at < length words → word ≡ get_or words at word → target_of word ≡ Ok target
    → longer ≡ found ++ target ∷ [] → TargetsSoFar words found at → TargetsSoFar words longer (at + 1)
targets_more words found longer at word target l e h m so_far =
    let rest : Result (List (List ℕ)) DescError = targets_of (drop (at + 1) words) in
    ap (λ f. behind f rest) m
    ∙ mapped_alike (λ ts. (found ++ target ∷ []) ++ ts) (λ ts. found ++ target ∷ ts) rest (λ ts. append_assoc found (target ∷ []) ts)
    ∙ sym (mapped-mapped (λ ts. found ++ ts) (λ ts. target ∷ ts) rest)
    ∙ ap (behind found) (sym (targets_next word target (drop (at + 1) words) h) ∙ ap targets_of (sym (left_more words at word l e)))
    ∙ so_far

pub target_refused : (words found : List (List ℕ)) (at : ℕ) (word : List ℕ) (e : DescError) → at < length words → word ≡ get_or words at word → target_of word ≡ Err e
    → TargetsSoFar words found at → targets_of words ≡ Err e
target_refused words found at word e l is h so_far =
    sym so_far ∙ ap (behind found) (ap targets_of (left_more words at word l is) ∙ targets_fault word e (drop (at + 1) words) h)

pub targets_end : (words found : List (List ℕ)) (at : ℕ) → length words ≤ at → TargetsSoFar words found at → targets_of words ≡ Ok found
targets_end words found at l so_far =
    sym so_far ∙ ap (λ left. behind found (targets_of left)) (drop_all at words l) ∙ ap Ok (append-nil found)

-- what the parts of a word are, by their number
pub two_parts : {X : Type 0} (f : X → List ℕ) (d : X) (word : List ℕ) (parts : List X) → 2 ≤ length parts → length parts < 3
    → target_in word (map f parts) ≡ target_behind word (f (get_or parts 0 d)) (f (get_or parts 1 d))
two_parts f d word [] low high = absurd (omega arith)
two_parts f d word (x ∷ []) low high = absurd (omega arith)
two_parts f d word (x ∷ y ∷ []) low high = refl
two_parts f d word (x ∷ y ∷ z ∷ more) low high = absurd (omega arith)

pub three_parts : {X : Type 0} (f : X → List ℕ) (d : X) (word : List ℕ) (parts : List X) → 3 ≤ length parts → length parts < 4
    → target_in word (map f parts) ≡ Err (refusal_of_three word (f (get_or parts 1 d)))
three_parts f d word [] low high = absurd (omega arith)
three_parts f d word (x ∷ []) low high = absurd (omega arith)
three_parts f d word (x ∷ y ∷ []) low high = absurd (omega arith)
three_parts f d word (x ∷ y ∷ z ∷ []) low high = refl
three_parts f d word (x ∷ y ∷ z ∷ u ∷ more) low high = absurd (omega arith)

pub other_parts : {X : Type 0} (f : X → List ℕ) (word : List ℕ) (parts : List X) → length parts ≢ 2 → length parts ≢ 3 → target_in word (map f parts) ≡ Err (BadDepend word)
other_parts f word [] two three = refl
other_parts f word (x ∷ []) two three = refl
other_parts f word (x ∷ y ∷ []) two three = absurd (two refl)
other_parts f word (x ∷ y ∷ z ∷ []) two three = absurd (three refl)
other_parts f word (x ∷ y ∷ z ∷ u ∷ more) two three = refl
