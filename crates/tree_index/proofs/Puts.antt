-- Entries that are put into a map one after another.
use Rattle.std.proofs.Common.{◌≡◌, ℕ, ◌+◌, Bool, true, false, List, [], ◌∷◌, refl, ap, sym, subst, ◌∙◌, length, arith}
use Rattle.std.specs.Prelude.{cond, map, filter, Some, None, bytes_eq}
use Rattle.std.specs.declared.cmp.Ordering.{Ordering}
use Rattle.std.specs.declared.cmp.Ordering.TheVariants.{Less, Equal, Greater}
use Rattle.std.specs.Ordering.{nat_cmp, is_eq, eq_by_cmp}
use Rattle.std.specs.Cmp.{eq_by_cmp_equiv}
use Rattle.std.specs.Cmp.Lexicographic.{slice_cmp, nat_list_cmp_total, texts_ties}
use Rattle.std.specs.List.{AllByRecursion, IsDistinct, fold}
use Rattle.std.specs.FinMap as finite
use Rattle.std.specs.FinMap.{FinMap, slice_cmp-IsAntisymmetric, nat_cmp-IsAntisymmetric}
use Rattle.std.specs.FinMap.Entries.{find, put, by_order}
use Rattle.std.proofs.lemmas.Map.Keys.{IsDistinct-head, IsDistinct-tail}

abbrev order : List ℕ → List ℕ → Ordering
order = slice_cmp nat_cmp

abbrev pub values_of : {X : Type 0} → List (List ℕ × X) → List X
values_of es = map (λ e. e.1) es

-- whatever holds of the value put and of all values before holds of all
all_put : {X : Type 0} (P : X → Type 0) (k : List ℕ) (v : X) (es : List (List ℕ × X)) → P v → AllByRecursion P (values_of es) → AllByRecursion P (values_of (put order k v es))
all_put P k v [] p h = (p, tt)
all_put P k v (e ∷ es) p h =
    elim (order k e.0) as (λ o. AllByRecursion P (values_of (by_order o ((k, v) ∷ e ∷ es) ((e.0, v) ∷ es) (e ∷ put order k v es)))) [
      | Less ↦ (p, h)
      | Equal ↦ (p, h.1)
      | Greater ↦ (h.0, all_put P k v es p h.1)
    ]

-- each key is the name of its value
AreNamed : {X : Type 0} → (X → List ℕ) → List (List ℕ × X) → Type 0
AreNamed name es = AllByRecursion (λ e. e.0 ≡ name e.1) es

named_put : {X : Type 0} (name : X → List ℕ) (v : X) (es : List (List ℕ × X)) → AreNamed name es → AreNamed name (put order (name v) v es)
unfolding AreNamed
named_put name v [] h = (refl, tt)
named_put name v (e ∷ es) h =
    elim (order (name v) e.0) as (λ o. order (name v) e.0 ≡ o → AreNamed name (by_order o ((name v, v) ∷ e ∷ es) ((e.0, v) ∷ es) (e ∷ put order (name v) v es))) [
      | Less ↦ λ _. (refl, h)
      | Equal ↦ λ t. (sym (slice_cmp-IsAntisymmetric nat_cmp-IsAntisymmetric (name v) e.0 t), h.1)
      | Greater ↦ λ _. (h.0, named_put name v es h.1)
    ] refl

keys_named : {X : Type 0} (name : X → List ℕ) (es : List (List ℕ × X)) → AreNamed name es → map name (values_of es) ≡ map (λ e. e.0) es
unfolding AreNamed
keys_named name [] h = refl
keys_named name (e ∷ es) h = (λ i. sym h.0 i ∷ keys_named name es h.1 i)

-- how many values pass a test, where the key is new
count : {X : Type 0} → (X → Bool) → List X → ℕ
count p xs = length (filter p xs)

count_cons : {X : Type 0} (p : X → Bool) (x : X) (xs : List X) → count p (x ∷ xs) ≡ cond (p x) 1 0 + count p xs
unfolding count
count_cons p x xs = elim (p x) as (λ b. length (cond b (x ∷ filter p xs) (filter p xs)) ≡ cond b 1 0 + length (filter p xs)) [ true ↦ omega arith | false ↦ omega arith ]

count_put : {X : Type 0} (p : X → Bool) (k : List ℕ) (v : X) (es : List (List ℕ × X)) → find order k es ≡ None → count p (values_of (put order k v es)) ≡ cond (p v) 1 0 + count p (values_of es)
count_put p k v [] h = count_cons p v []
count_put p k v (e ∷ es) h =
    elim (order k e.0) as (λ o. cond (is_eq o) (Some e.1) (find order k es) ≡ None → count p (values_of (by_order o ((k, v) ∷ e ∷ es) ((e.0, v) ∷ es) (e ∷ put order k v es))) ≡ cond (p v) 1 0 + count p (e.1 ∷ values_of es)) [
      | Less ↦ λ _. count_cons p v (e.1 ∷ values_of es)
      | Equal ↦ λ s. absurd (cc)
      | Greater ↦ λ s. let rest = count_put p k v es s in omega (arith, count_cons p e.1 (values_of (put order k v es)), count_cons p e.1 (values_of es), rest)
    ] h

-- a list of values, each put under its name
abbrev puts : {X : Type 0} → (X → List ℕ) → FinMap order X → List X → FinMap order X
puts name m xs = fold (λ map x. finite.insert map (name x) x) m xs

abbrev held : {X : Type 0} → FinMap order X → List X
held m = values_of (finite.entries m)

all_insert : {X : Type 0} (P : X → Type 0) (m : FinMap order X) (k : List ℕ) (v : X) → P v → AllByRecursion P (held m) → AllByRecursion P (held (finite.insert m k v))
all_insert P m k v p h = subst (λ es. AllByRecursion P (values_of es)) (sym (finite.entries-insert nat_list_cmp_total m k v)) (all_put P k v (finite.entries m) p h)

all_puts : {X : Type 0} (P : X → Type 0) (name : X → List ℕ) (m : FinMap order X) (xs : List X) → AllByRecursion P (held m) → AllByRecursion P xs → AllByRecursion P (held (puts name m xs))
all_puts P name m [] h k = h
all_puts P name m (x ∷ xs) h k = all_puts P name (finite.insert m (name x) x) xs (all_insert P m (name x) x k.0 h) k.1

named_puts : {X : Type 0} (name : X → List ℕ) (m : FinMap order X) (xs : List X) → AreNamed name (finite.entries m) → AreNamed name (finite.entries (puts name m xs))
named_puts name m [] h = h
named_puts name m (x ∷ xs) h =
    named_puts name (finite.insert m (name x) x) xs (subst (AreNamed name) (sym (finite.entries-insert nat_list_cmp_total m (name x) x)) (named_put name x (finite.entries m) h))

-- two names that a test of bytes tells apart are two keys
apart_keys : (k q : List ℕ) → bytes_eq k q ≡ false → eq_by_cmp order q k ≡ false
apart_keys k q h = (eq_by_cmp_equiv nat_list_cmp_total).symm q k ∙ sym (texts_ties k q) ∙ h

still_new : {X : Type 0} (name : X → List ℕ) (m : FinMap order X) (x : X) (xs : List X) → AllByRecursion (λ k. bytes_eq (name x) k ≡ false) (map name xs) → AllByRecursion (λ y. finite.get m (name y) ≡ None) xs
    → AllByRecursion (λ y. finite.get (finite.insert m (name x) x) (name y) ≡ None) xs
still_new name m x [] a h = tt
still_new name m x (y ∷ ys) a h =
    (finite.get-insert nat_list_cmp_total m (name x) x (name y) ∙ ap (λ b. cond b (Some x) (finite.get m (name y))) (apart_keys (name x) (name y) a.0) ∙ h.0, still_new name m x ys a.1 h.1)

count_puts : {X : Type 0} (p : X → Bool) (name : X → List ℕ) (m : FinMap order X) (xs : List X) → IsDistinct bytes_eq (map name xs) → AllByRecursion (λ y. finite.get m (name y) ≡ None) xs
    → count p (held (puts name m xs)) ≡ count p (held m) + count p xs
unfolding count
count_puts p name m [] d n = omega arith
count_puts p name m (x ∷ xs) d n =
    let here : count p (held (finite.insert m (name x) x)) ≡ cond (p x) 1 0 + count p (held m) =
    ap (λ es. count p (values_of es)) (finite.entries-insert nat_list_cmp_total m (name x) x) ∙ count_put p (name x) x (finite.entries m) (sym (finite.get-entries m (name x)) ∙ n.0) in
    let rest : count p (held (puts name (finite.insert m (name x) x) xs)) ≡ count p (held (finite.insert m (name x) x)) + count p xs =
    count_puts p name (finite.insert m (name x) x) xs (IsDistinct-tail bytes_eq (name x) (map name xs) d) (still_new name m x xs (IsDistinct-head bytes_eq (name x) (map name xs) d) n.1) in
    omega (arith, here, rest, count_cons p x xs)

-- the values of a map that was empty
no_length : {A : Type 0} (xs : List A) → length xs ≡ 0 → xs ≡ []
no_length [] e = refl
no_length (x ∷ xs) e = absurd (omega arith)

pub entries_none : (X : Type 0) → finite.entries (finite.empty {X = X} {R = order}) ≡ []
entries_none X = no_length _ (sym (finite.len-entries (finite.empty {X = X} {R = order})) ∙ finite.len-empty order X)

AreNamed_none : {X : Type 0} (name : X → List ℕ) → AreNamed name (finite.entries (finite.empty {X = X} {R = order}))
unfolding AreNamed
AreNamed_none {X} name = subst (AllByRecursion (λ e. e.0 ≡ name e.1)) (sym (entries_none X)) tt

held_none : (X : Type 0) → held (finite.empty {X = X} {R = order}) ≡ []
held_none X = ap values_of (entries_none X)

none_held : {X : Type 0} (name : X → List ℕ) (xs : List X) → AllByRecursion (λ y. finite.get (finite.empty {X = X} {R = order}) (name y) ≡ None) xs
none_held name [] = tt
none_held name (x ∷ xs) = (finite.get-empty order (name x), none_held name xs)

-- all values that are put under their names
abbrev pub all_put_in : {X : Type 0} → (X → List ℕ) → List X → List X
all_put_in name xs = held (puts name finite.empty xs)

pub holds_of_all : {X : Type 0} (P : X → Type 0) (name : X → List ℕ) (xs : List X) → AllByRecursion P xs → AllByRecursion P (all_put_in name xs)
holds_of_all {X} P name xs h = all_puts P name finite.empty xs (subst (AllByRecursion P) (sym (held_none X)) tt) h

pub names_are_keys : {X : Type 0} (name : X → List ℕ) (xs : List X) → map name (all_put_in name xs) ≡ finite.keys (puts name finite.empty xs)
names_are_keys name xs = keys_named name (finite.entries (puts name finite.empty xs)) (named_puts name finite.empty xs (AreNamed_none name))

zero_more : (n : ℕ) → 0 + n ≡ n
zero_more n = omega arith

pub as_many : {X : Type 0} (p : X → Bool) (name : X → List ℕ) (xs : List X) → IsDistinct bytes_eq (map name xs) → length (filter p (all_put_in name xs)) ≡ length (filter p xs)
unfolding count
as_many {X} p name xs d = count_puts p name finite.empty xs d (none_held name xs) ∙ ap (λ ys. count p ys + count p xs) (held_none X) ∙ zero_more (count p xs)
