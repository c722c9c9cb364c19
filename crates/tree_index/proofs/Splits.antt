-- Texts that a byte parts in two.
use Rattle.std.proofs.Common.{◌≡◌, ℕ, Bool, true, false, List, [], ◌∷◌, ◌++◌, refl, ap, sym, ◌∙◌, arith}
use Rattle.std.specs.Prelude.{cond, not, ◌==◌, ◌&&◌}
use Rattle.std.specs.List.{list_all}
use Rattle.std.proofs.lemmas.Bool.Decides.{nat_tests}
use Rattle.bulk_base.specs.Names.{is_port_byte, is_port_name}

-- what stands before the first such byte, and behind it
before : ℕ → List ℕ → List ℕ
before b [] = []
before b (x ∷ xs) = cond (x == b) [] (x ∷ before b xs)

behind : ℕ → List ℕ → List ℕ
behind b [] = []
behind b (x ∷ xs) = cond (x == b) xs (behind b xs)

abbrev pub lacks : ℕ → List ℕ → Bool
lacks b xs = list_all (λ x. not (x == b)) xs

both : (a b : Bool) → (not a && b) ≡ true → (a ≡ false) × (b ≡ true)
both a b h = (grind arith, grind arith)

itself : (b : ℕ) → (b == b) ≡ true
itself b = grind (arith, nat_tests)

before_all : (b : ℕ) (xs : List ℕ) → lacks b xs ≡ true → before b xs ≡ xs
unfolding before
before_all b [] h = refl
before_all b (x ∷ xs) h =
    let parts = both (x == b) (lacks b xs) h in
    ap (λ t. cond t [] (x ∷ before b xs)) parts.0 ∙ ap (λ ys. x ∷ ys) (before_all b xs parts.1)

before_at : (b : ℕ) (xs ys : List ℕ) → lacks b xs ≡ true → before b (xs ++ b ∷ ys) ≡ xs
unfolding before
before_at b [] ys h = ap (λ t. cond t [] (b ∷ before b ys)) (itself b)
before_at b (x ∷ xs) ys h =
    let parts = both (x == b) (lacks b xs) h in
    ap (λ t. cond t [] (x ∷ before b (xs ++ b ∷ ys))) parts.0 ∙ ap (λ zs. x ∷ zs) (before_at b xs ys parts.1)

behind_at : (b : ℕ) (xs ys : List ℕ) → lacks b xs ≡ true → behind b (xs ++ b ∷ ys) ≡ ys
unfolding behind
behind_at b [] ys h = ap (λ t. cond t ys (behind b ys)) (itself b)
behind_at b (x ∷ xs) ys h =
    let parts = both (x == b) (lacks b xs) h in
    ap (λ t. cond t (xs ++ b ∷ ys) (behind b (xs ++ b ∷ ys))) parts.0 ∙ behind_at b xs ys parts.1

-- two texts that are parted at their first such byte
pub front_of : (b : ℕ) (xs ys vs ws : List ℕ) → lacks b xs ≡ true → lacks b vs ≡ true → xs ++ b ∷ ys ≡ vs ++ b ∷ ws → xs ≡ vs
front_of b xs ys vs ws h k e = sym (before_at b xs ys h) ∙ ap (before b) e ∙ before_at b vs ws k

pub back_of : (b : ℕ) (xs ys vs ws : List ℕ) → lacks b xs ≡ true → lacks b vs ≡ true → xs ++ b ∷ ys ≡ vs ++ b ∷ ws → ys ≡ ws
back_of b xs ys vs ws h k e = sym (behind_at b xs ys h) ∙ ap (behind b) e ∙ behind_at b vs ws k

pub front_whole : (b : ℕ) (xs ys vs : List ℕ) → lacks b xs ≡ true → lacks b vs ≡ true → xs ++ b ∷ ys ≡ vs → xs ≡ vs
front_whole b xs ys vs h k e = sym (before_at b xs ys h) ∙ ap (before b) e ∙ before_all b vs k

-- no name of a category or a port has a slash or an `@`
no_slash_byte : (x : ℕ) → is_port_byte x ≡ true → not (x == 47) ≡ true
no_slash_byte x h = grind (arith, nat_tests)

no_at_byte : (x : ℕ) → is_port_byte x ≡ true → not (x == 64) ≡ true
no_at_byte x h = grind (arith, nat_tests)

parts_of : (a b : Bool) → (a && b) ≡ true → (a ≡ true) × (b ≡ true)
parts_of a b h = (grind arith, grind arith)

and : (a b : Bool) → a ≡ true → b ≡ true → (a && b) ≡ true
and a b p q = grind arith

weaker : (p q : ℕ → Bool) → ((x : ℕ) → p x ≡ true → q x ≡ true) → (xs : List ℕ) → list_all p xs ≡ true → list_all q xs ≡ true
weaker p q f [] h = refl
weaker p q f (x ∷ xs) h =
    let parts = parts_of (p x) (list_all p xs) h in
    and (q x) (list_all q xs) (f x parts.0) (weaker p q f xs parts.1)

bytes_of : (name : List ℕ) → is_port_name name ≡ true → list_all is_port_byte name ≡ true
bytes_of name h = grind arith

pub no_slash : (name : List ℕ) → is_port_name name ≡ true → lacks 47 name ≡ true
no_slash name h = weaker is_port_byte (λ x. not (x == 47)) no_slash_byte name (bytes_of name h)

pub no_at : (name : List ℕ) → is_port_name name ≡ true → lacks 64 name ≡ true
no_at name h = weaker is_port_byte (λ x. not (x == 64)) no_at_byte name (bytes_of name h)

lacks_append : (b : ℕ) (xs ys : List ℕ) → lacks b xs ≡ true → lacks b ys ≡ true → lacks b (xs ++ ys) ≡ true
lacks_append b [] ys h k = k
lacks_append b (x ∷ xs) ys h k =
    let parts = parts_of (not (x == b)) (lacks b xs) h in
    and (not (x == b)) (lacks b (xs ++ ys)) parts.0 (lacks_append b xs ys parts.1 k)

pub no_at_origin : (category port : List ℕ) → is_port_name category ≡ true → is_port_name port ≡ true → lacks 64 (category ++ 47 ∷ port) ≡ true
no_at_origin category port h k = lacks_append 64 category (47 ∷ port) (no_at category h) (no_at port k)
