-- Numbers one after another.
use Rattle.std.proofs.Common.{◌≡◌, ℕ, ◌+◌, Bool, List, [], ◌∷◌, ◌++◌, ap, sym, ◌∙◌, arith, cond, append_assoc}
use Rattle.std.specs.Prelude.{map, filter}
use Rattle.std.specs.List.{range_with_len}
use Rattle.std.proofs.lemmas.List.{map-id}
use Rattle.std.proofs.lemmas.List.Elements.{filter-append}
use Rattle.std.proofs.lemmas.List.FromFn.{map-range_with_len_more}

pub range_more : (n : ℕ) → range_with_len 0 (n + 1) ≡ range_with_len 0 n ++ n ∷ []
range_more n =
    sym (map-id (range_with_len 0 (n + 1))) ∙ map-range_with_len_more (λ k. k) 0 n n (omega arith)
    ∙ ap (λ ks. ks ++ n ∷ []) (map-id (range_with_len 0 n))

-- one more number, where it passes
pub passing_more : (p : ℕ → Bool) (n : ℕ) (before now : List ℕ) (b : Bool)
    → before ≡ filter p (range_with_len 0 n) → b ≡ p n
    → now ≡ before ++ (let l : List ℕ = cond b (n ∷ []) [] in l)
    → now ≡ filter p (range_with_len 0 (n + 1))
passing_more p n before now b so_far is more =
    more ∙ ap (λ xs. xs ++ (let l : List ℕ = cond b (n ∷ []) [] in l)) so_far
    ∙ ap (λ c. filter p (range_with_len 0 n) ++ (let l : List ℕ = cond c (n ∷ []) [] in l)) is
    ∙ sym (ap (filter p) (range_more n) ∙ filter-append p (range_with_len 0 n) (n ∷ []))

-- one more of what numbers give, behind others
pub mapped_more : {X : Type 0} (f : ℕ → X) (n : ℕ) (start before now : List X) (x : X)
    → before ≡ start ++ map f (range_with_len 0 n) → now ≡ before ++ x ∷ [] → x ≡ f n
    → now ≡ start ++ map f (range_with_len 0 (n + 1))
mapped_more f n start before now x so_far more is =
    more ∙ ap (λ xs. xs ++ x ∷ []) so_far ∙ append_assoc start (map f (range_with_len 0 n)) (x ∷ [])
    ∙ ap (λ y. start ++ (map f (range_with_len 0 n) ++ y ∷ [])) is
    ∙ ap (λ ys. start ++ ys) (sym (map-range_with_len_more f 0 n n (omega arith)))
