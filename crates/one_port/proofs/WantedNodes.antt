-- The nodes with some numbers: no two of them have packages of one name where no two nodes have, and they are in form.
use Rattle.std.proofs.Common.{◌≡◌, ℕ, ◌<◌, Bool, true, false, zero, suc, List, [], ◌∷◌, map, arith, ◌∙◌, sym, ap, subst, refl}
use Rattle.std.specs.Prelude.{Option, Some, None, slice_get, unwrap_or, bytes_eq, find, cond}
use Rattle.std.specs.Option.{option_map}
use Rattle.std.specs.List.{AllByRecursion, IsDistinct, filter_map, cons_option}
use Rattle.std.specs.List.Sorted.{IsStrictlySortedBy}
use Rattle.std.specs.Ordering.{nat_cmp}
use Rattle.std.specs.declared.cmp.Ordering.TheVariants.{Less}
use Rattle.std.proofs.lemmas.Option.{slice_get-map}
use Rattle.std.proofs.lemmas.Map.Keys.{IsDistinct-head, IsDistinct-tail, IsDistinct-cons}
use Rattle.tree_index.specs.declared.node.NodeInfo.{NodeInfo}
use Rattle.one_port.specs.NodeJobs.{nodes_at}

some_is : {X : Type 0} (x y : X) → Some x ≡ Some y → x ≡ y
some_is x y e = ap (λ o. unwrap_or o x) e

-- what holds of each element holds of the one at a place
pub all_at : {X : Type 0} (P : X → Type 0) (xs : List X) (k : ℕ) (x : X) → AllByRecursion P xs → slice_get xs k ≡ Some x → P x
all_at P [] k x h e = absurd (cc)
all_at P (y ∷ ys) zero x h e = subst P (some_is y x e) h.0
all_at P (y ∷ ys) (suc k) x h e = all_at P ys k x h.1 e

-- and of the first of some elements that passes a test
found_now : {X : Type 0} (P : X → Type 0) (passes : Bool) (y x : X) (rest : Option X) → P y → (rest ≡ Some x → P x) → cond passes (Some y) rest ≡ Some x → P x
found_now P true y x rest h more e = subst P (some_is y x e) h
found_now P false y x rest h more e = more e

found_next : {X : Type 0} (P : X → Type 0) (p : X → Bool) (found : Option X) (others : List X) (x : X) → ((y : X) → found ≡ Some y → P y) → (find p others ≡ Some x → P x) → find p (cons_option found others) ≡ Some x → P x
found_next P p None others x h more e = more e
found_next P p (Some y) others x h more e = found_now P (p y) y x (find p others) (h y refl) more e

pub found_at : {X : Type 0} (P : X → Type 0) (p : X → Bool) (xs : List X) (numbers : List ℕ) (x : X) → AllByRecursion P xs → find p (filter_map (slice_get xs) numbers) ≡ Some x → P x
found_at P p xs [] x h e = absurd (cc)
found_at P p xs (n ∷ numbers) x h e =
    found_next P p (slice_get xs n) (filter_map (slice_get xs) numbers) x (λ y g. all_at P xs n y h g) (λ f. found_at P p xs numbers x h f) e

-- elements at two places differ
apart_at : {X : Type 0} (eq : X → X → Bool) (xs : List X) (i j : ℕ) (x y : X) → IsDistinct eq xs → i < j → slice_get xs i ≡ Some x → slice_get xs j ≡ Some y → eq x y ≡ false
apart_at eq [] i j x y d l p q = absurd (cc)
apart_at eq (z ∷ zs) i zero x y d l p q = absurd (omega arith)
apart_at eq (z ∷ zs) zero (suc j) x y d l p q = subst (λ w. eq w y ≡ false) (some_is z x p) (all_at (λ w. eq z w ≡ false) zs j y (IsDistinct-head eq z zs d) q)
apart_at eq (z ∷ zs) (suc i) (suc j) x y d l p q = apart_at eq zs i j x y (IsDistinct-tail eq z zs d) (omega arith) p q

less_is : (n m : ℕ) → nat_cmp n m ≡ Less → n < m
less_is n m e = grind arith

apart_behind : {X : Type 0} (eq : X → X → Bool) (xs : List X) (n : ℕ) (x : X) (numbers : List ℕ) → IsDistinct eq xs → slice_get xs n ≡ Some x → AllByRecursion (λ m. nat_cmp n m ≡ Less) numbers
    → AllByRecursion (λ y. eq x y ≡ false) (filter_map (slice_get xs) numbers)
apart_behind eq xs n x [] d e h = tt
apart_behind eq xs n x (m ∷ numbers) d e h =
    elim (slice_get xs m) as (λ o. slice_get xs m ≡ o → AllByRecursion (λ y. eq x y ≡ false) (cons_option o (filter_map (slice_get xs) numbers))) [
      | None ↦ λ q. apart_behind eq xs n x numbers d e h.1
      | Some y ↦ λ q. (apart_at eq xs n m x y d (less_is n m h.0) e q, apart_behind eq xs n x numbers d e h.1)
    ] refl

-- elements at ascending places differ where all do
distinct_at : {X : Type 0} (eq : X → X → Bool) (xs : List X) (numbers : List ℕ) → IsDistinct eq xs → IsStrictlySortedBy nat_cmp numbers → IsDistinct eq (filter_map (slice_get xs) numbers)
unfolding IsDistinct IsStrictlySortedBy
distinct_at eq xs [] d s = tt
distinct_at eq xs (n ∷ numbers) d s =
    elim (slice_get xs n) as (λ o. slice_get xs n ≡ o → IsDistinct eq (cons_option o (filter_map (slice_get xs) numbers))) [
      | None ↦ λ e. distinct_at eq xs numbers d s.1
      | Some x ↦ λ e. IsDistinct-cons eq x (filter_map (slice_get xs) numbers) (apart_behind eq xs n x numbers d e s.0) (distinct_at eq xs numbers d s.1)
    ] refl

at_map : {X Y : Type 0} (f : X → Y) (xs : List X) (numbers : List ℕ) → map f (filter_map (slice_get xs) numbers) ≡ filter_map (slice_get (map f xs)) numbers
at_map f xs [] = refl
at_map f xs (n ∷ numbers) =
    (elim (slice_get xs n) as (λ o. map f (cons_option o (filter_map (slice_get xs) numbers)) ≡ cons_option (option_map f o) (filter_map (slice_get (map f xs)) numbers)) [
      | None ↦ at_map f xs numbers
      | Some x ↦ ap (λ ys. f x ∷ ys) (at_map f xs numbers)
    ])
    ∙ ap (λ o. cons_option o (filter_map (slice_get (map f xs)) numbers)) (sym (slice_get-map f xs n))

-- no two of the nodes with ascending numbers have packages of one name
pub distinct_names : (nodes : List NodeInfo) (numbers : List ℕ) → IsDistinct bytes_eq (map (λ node. node.desc.name) nodes) → IsStrictlySortedBy nat_cmp numbers
    → IsDistinct bytes_eq (map (λ node. node.desc.name) (nodes_at nodes numbers))
distinct_names nodes numbers d s =
    subst (IsDistinct bytes_eq) (sym (at_map (λ node. node.desc.name) nodes numbers)) (distinct_at bytes_eq (map (λ node. node.desc.name) nodes) numbers d s)
