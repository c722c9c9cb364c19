-- States after draws.
use Rattle.std.proofs.Common.{◌≡◌, ℕ, zero, suc, ◌+◌, ◌%◌, ◌/◌, ◌^◌, List, [], ◌∷◌, ◌++◌, refl, ap, sym, ◌∙◌, arith}
use Rattle.std.specs.Prelude.{map}
use Rattle.std.specs.List.{range_with_len}
use Rattle.std.proofs.lemmas.List.FromFn.{map-range_with_len_more}
use Rattle.tree_maker.specs.Draws.{next, after, draw}
use Rattle.tree_maker.specs.Made.{depends_count, targets, last_draw}

pub after_one : (k x : ℕ) → after (k + 1) x ≡ next (after k x)
after_one k x = ap (λ n. after n x) (let e : k + 1 ≡ suc k = omega arith in e)

after_add : (a b x : ℕ) → after (a + b) x ≡ after a (after b x)
after_add zero b x = ap (λ n. after n x) (let e : 0 + b ≡ b = omega arith in e)
after_add (suc a) b x =
    ap (λ n. after n x) (let e : suc a + b ≡ suc (a + b) = omega arith in e)
    ∙ ap next (after_add a b x)

-- one more dependency
pub targets_more : (x i k : ℕ) (targets now : List ℕ) (target state drawn : ℕ)
    → targets ≡ map (λ n. draw (n + 1) x % i) (range_with_len 0 k)
    → now ≡ targets ++ target ∷ [] → target ≡ drawn % i → drawn ≡ next state / 2 ^ 33
    → state ≡ after k x
    → now ≡ map (λ n. draw (n + 1) x % i) (range_with_len 0 (k + 1))
targets_more x i k targets now target state drawn so_far more is gives s =
    let here : target ≡ draw (k + 1) x % i =
    is ∙ ap (λ d. d % i) (gives ∙ ap (λ n. next n / 2 ^ 33) s ∙ ap (λ n. n / 2 ^ 33) (sym (after_one k x))) in
    more ∙ ap (λ xs. xs ++ target ∷ []) so_far
    ∙ ap (λ t. map (λ n. draw (n + 1) x % i) (range_with_len 0 k) ++ t ∷ []) here
    ∙ sym (map-range_with_len_more (λ n. draw (n + 1) x % i) 0 k k (omega arith))

map_same : (f g : ℕ → ℕ) (xs : List ℕ) → ((n : ℕ) → f n ≡ g n) → map f xs ≡ map g xs
map_same f g [] same = refl
map_same f g (x ∷ xs) same = ap (λ y. y ∷ map f xs) (same x) ∙ ap (λ ys. g x ∷ ys) (map_same f g xs same)

-- the dependencies, drawn behind two draws
pub targets_are : (x i count state : ℕ) (drawn : List ℕ) → state ≡ next (next x)
    → drawn ≡ map (λ n. draw (n + 1) state % i) (range_with_len 0 count)
    → count ≡ depends_count i x → drawn ≡ targets i x
targets_are x i count state drawn s is c =
    is ∙ ap (λ y. map (λ n. draw (n + 1) y % i) (range_with_len 0 count)) s
    ∙ map_same (λ n. draw (n + 1) (next (next x)) % i) (λ n. draw (n + 3) x % i) (range_with_len 0 count)
    (λ n. ap (λ y. y / 2 ^ 33 % i) (sym (ap (λ m. after m x) (let e : n + 3 ≡ (n + 1) + 2 = omega arith in e) ∙ after_add (n + 1) 2 x)))
    ∙ ap (λ m. map (λ n. draw (n + 3) x % i) (range_with_len 0 m)) c

-- the state behind all draws of a port
pub last_is : (x i count state behind : ℕ) → state ≡ next (next x) → behind ≡ after count state
    → count ≡ depends_count i x → next behind ≡ after (last_draw i x) x
last_is x i count state behind s b c =
    ap next (b ∙ ap (after count) s ∙ ap (λ m. after m (next (next x))) c)
    ∙ sym (ap (λ m. after m x) (let e : depends_count i x + 3 ≡ suc (depends_count i x + 2) = omega arith in e)
    ∙ ap next (after_add (depends_count i x) 2 x))
