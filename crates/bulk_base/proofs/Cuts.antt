-- A list cut at the elements that pass a test: the part that begins at one place.
use Rattle.std.proofs.Common.{◌≡◌, ℕ, ◌+◌, ◌-◌, ◌<◌, ◌≤◌, Bool, true, false, List, [], ◌∷◌, ◌++◌, length, get_or, take, drop, arith, ◌∙◌, sym, ap}
use Rattle.std.proofs.lemmas.List.{take-append-drop, drop-drop, drop_more, get_or-take, get_or-drop, length-take, length-drop, get_or_default}
use Rattle.std.proofs.lemmas.List.Splits.{slice_split_at, slice_split_none}
use Rattle.std.specs.List.{slice_split}

-- no element from one place up to another passes
abbrev pub NonePasses : (p : ℕ → Bool) → List ℕ → ℕ → ℕ → Type 0
NonePasses p xs from to = (k : ℕ) → from ≤ k → k < to → p (get_or xs k 0) ≡ false

part_at : (xs : List ℕ) (s i : ℕ) → s ≤ i → i < length xs → drop s xs ≡ take (i - s) (drop s xs) ++ (get_or xs i 0 ∷ drop (i + 1) xs)
part_at xs s i o l = sym (take-append-drop (i - s) (drop s xs)) ∙ ap (λ r. take (i - s) (drop s xs) ++ r) (drop-drop (i - s) s xs ∙ (let e : s + (i - s) ≡ i = omega arith in rw e (drop_more xs i 0 l)))

inside_at : (p : ℕ → Bool) (xs : List ℕ) (s i : ℕ) → NonePasses p xs s i → i < length xs → (k d : ℕ) → k < length (take (i - s) (drop s xs)) → p (get_or (take (i - s) (drop s xs)) k d) ≡ false
inside_at p xs s i none l k d h =
    let short : k < i - s = omega (arith, length-take (i - s) (drop s xs)) in
    let near : s + k < length xs = omega arith in
    rw (get_or-take (i - s) (drop s xs) k d short, get_or-drop s xs k d, get_or_default xs (s + k) d 0 near) (none (s + k) (omega arith) (omega arith))

pub slice_split_here : (p : ℕ → Bool) (xs : List ℕ) (s i : ℕ) → s ≤ i → i < length xs → NonePasses p xs s i → p (get_or xs i 0) ≡ true
    → slice_split p (drop s xs) ≡ take (i - s) (drop s xs) ∷ slice_split p (drop (i + 1) xs)
slice_split_here p xs s i o l none hit =
    ap (slice_split p) (part_at xs s i o l)
    ∙ slice_split_at p (take (i - s) (drop s xs)) (get_or xs i 0) (drop (i + 1) xs) (λ k d h. inside_at p xs s i none l k d h) hit

pub slice_split_last : (p : ℕ → Bool) (xs : List ℕ) (s : ℕ) → NonePasses p xs s (length xs) → slice_split p (drop s xs) ≡ drop s xs ∷ []
slice_split_last p xs s none = slice_split_none p (drop s xs) (λ k d h. let near : s + k < length xs = omega (arith, length-drop s xs) in rw (get_or-drop, get_or_default xs (s + k) d 0 near) (none (s + k) (omega arith) near))
