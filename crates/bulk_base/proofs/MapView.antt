-- A tree map with texts as keys, read as a finite map.
use Rattle.std.proofs.Common.{◌≡◌, ℕ, Bool, true, false, List, [], ◌∷◌, ◌++◌, ap, subst, sym, ◌∙◌, refl}
use Rattle.std.specs.Prelude.{Some, None, map, cond, ◌&&◌, is_some, T}
use Rattle.std.specs.declared.cmp.Ordering.{Ordering}
use Rattle.std.specs.declared.cmp.Ordering.TheVariants.{Less, Equal, Greater}
use Rattle.std.specs.Ordering.{nat_cmp, is_eq, is_lt, eq_by_cmp, ordering_reverse}
use Rattle.std.specs.Cmp.{eq_by_cmp_equiv}
use Rattle.std.specs.Cmp.Lexicographic.{slice_cmp, nat_list_cmp_total}
use Rattle.std.specs.Map.{lookup}
use Rattle.std.specs.List.{AllByRecursion}
use Rattle.std.specs.List.Sorted.{IsStrictlySortedBy}
use Rattle.std.specs.BTreeMap as tree
use Rattle.std.specs.FinMap as map
use Rattle.std.specs.FinMap.{FinMap, IsAntisymmetric, nat_cmp-IsAntisymmetric, slice_cmp-IsAntisymmetric, same_map, get-from_entries, get-insert, get-remove, get-from_sorted, entries-from_sorted, from_entries, from_entries_push, from_sorted, entries, get, insert, remove}
use Rattle.std.specs.FinMap.Entries.{find, is_sorted, below_all}

abbrev pub order : List ℕ → List ℕ → Ordering
order = slice_cmp nat_cmp

same_keys : IsAntisymmetric order
same_keys = slice_cmp-IsAntisymmetric nat_cmp-IsAntisymmetric

abbrev pub view : {X : Type 0} → List (List ℕ × X) → FinMap order X
view es = from_entries es

pub lookup-find : {X : Type 0} (q : List ℕ) (es : List (List ℕ × X)) → lookup (tree.is_at (order q)) es ≡ find order q es
lookup-find q [] = refl
lookup-find q (e ∷ es) = ap (cond (is_eq (order q e.0)) (Some e.1)) (lookup-find q es)

pub get-view : {X : Type 0} (q : List ℕ) (m : tree.BTreeMap (List ℕ) X) → tree.get order m q ≡ get (view m.entries) q
get-view q m = lookup-find q m.entries ∙ sym (get-from_entries nat_list_cmp_total m.entries q)

turned : (k q : List ℕ) → tree.is_at (order k) q ≡ eq_by_cmp order q k
turned k q = (eq_by_cmp_equiv nat_list_cmp_total).symm k q

pub view-insert : {X : Type 0} (m n : tree.BTreeMap (List ℕ) X) (k : List ℕ) (v : X) → tree.Updates order m n k (Some v) → view n.entries ≡ insert (view m.entries) k v
view-insert m n k v h = same_map nat_list_cmp_total same_keys _ _ (λ q.
    sym (get-view q n) ∙ h.0 q ∙ ap (λ b. cond b (Some v) (tree.get order m q)) (turned k q) ∙ ap (cond (eq_by_cmp order q k) (Some v)) (get-view q m)
    ∙ sym (get-insert nat_list_cmp_total (view m.entries) k v q))

pub view-remove : {X : Type 0} (m n : tree.BTreeMap (List ℕ) X) (k : List ℕ) → tree.UpdatesBy order (order k) m n None → view n.entries ≡ remove (view m.entries) k
view-remove m n k h = same_map nat_list_cmp_total same_keys _ _ (λ q.
    sym (get-view q n) ∙ h.0 q ∙ ap (λ b. cond b None (tree.get order m q)) (turned k q) ∙ ap (cond (eq_by_cmp order q k) None) (get-view q m)
    ∙ sym (get-remove nat_list_cmp_total (view m.entries) k q))

twice : {A : Type 0} (b : Bool) (x y z : A) → cond b x (cond b y z) ≡ cond b x z
twice true x y z = refl
twice false x y z = refl

-- keys that strictly rise are the keys of the finite map
below_all-from : {X : Type 0} (k : List ℕ) (es : List (List ℕ × X)) → AllByRecursion (λ y. order k y ≡ Less) (map (λ e. e.0) es) → below_all order k es ≡ true
below_all-from k [] h = refl
below_all-from k (e ∷ es) h = ap (λ o. is_lt o && below_all order k es) h.0 ∙ below_all-from k es h.1

pub is_sorted-from : {X : Type 0} (es : List (List ℕ × X)) → IsStrictlySortedBy order (map (λ e. e.0) es) → is_sorted order es ≡ true
unfolding IsStrictlySortedBy
is_sorted-from [] h = refl
is_sorted-from (e ∷ es) h = ap (λ b. b && is_sorted order es) (below_all-from e.0 es h.0) ∙ is_sorted-from es h.1

T-from : {b : Bool} → b ≡ true → T b
T-from {b} e = subst T (sym e) tt

pub entries-view : {X : Type 0} (es : List (List ℕ × X)) → IsStrictlySortedBy order (map (λ e. e.0) es) → entries (view es) ≡ es
entries-view es h =
    let sorted : T (is_sorted order es) = T-from (is_sorted-from es h) in
    ap entries (same_map nat_list_cmp_total same_keys (view es) (from_sorted es) (λ q. get-from_entries nat_list_cmp_total es q ∙ sym (get-from_sorted order es q sorted)))
    ∙ entries-from_sorted order es sorted

pub keys-view : {X : Type 0} (m : tree.BTreeMap (List ℕ) X) → tree.IsOrdered order m → map.keys (view m.entries) ≡ tree.keys m
keys-view m h = ap (map (λ e. e.0)) (entries-view m.entries h)

pub contains-view : {X : Type 0} (m : tree.BTreeMap (List ℕ) X) (k : List ℕ) → is_some (tree.get order m k) ≡ map.contains_key (view m.entries) k
contains-view m k = ap is_some (get-view k m)

-- the keys of a finite map strictly rise
below_all-to : {X : Type 0} (k : List ℕ) (es : List (List ℕ × X)) → T (below_all order k es) → AllByRecursion (λ y. order k y ≡ Less) (map (λ e. e.0) es)
below_all-to k [] h = tt
below_all-to k (e ∷ es) h =
    elim (order k e.0) as (λ o. order k e.0 ≡ o → T (is_lt o && below_all order k es) → (order k e.0 ≡ Less) × AllByRecursion (λ y. order k y ≡ Less) (map (λ e. e.0) es)) [
      | Less ↦ λ p t. (p, below_all-to k es t)
      | Equal ↦ λ p t. absurd t
      | Greater ↦ λ p t. absurd t
    ] refl h

both-first : (a b : Bool) → T (a && b) → T a
both-first true b p = tt
both-first false b p = p

both-second : (a b : Bool) → T (a && b) → T b
both-second true b p = p
both-second false b p = absurd p

is_sorted-to : {X : Type 0} (es : List (List ℕ × X)) → T (is_sorted order es) → IsStrictlySortedBy order (map (λ e. e.0) es)
unfolding IsStrictlySortedBy
is_sorted-to [] h = tt
is_sorted-to (e ∷ es) h = (below_all-to e.0 es (both-first (below_all order e.0 es) (is_sorted order es) h), is_sorted-to es (both-second (below_all order e.0 es) (is_sorted order es) h))

pub keys_ascend : {X : Type 0} (m : FinMap order X) → IsStrictlySortedBy order (map.keys m)
keys_ascend m = is_sorted-to (entries m) (map.entries_sorted m)

-- an entry that stands behind others in the keys' order has a key that none of these has
before_it : {X : Type 0} (done rest : List (List ℕ × X)) (d k : List ℕ) (v : X) → AllByRecursion (λ y. order d y ≡ Less) (map (λ e. e.0) (done ++ (k, v) ∷ rest)) → order d k ≡ Less
before_it [] rest d k v h = h.0
before_it (x ∷ done) rest d k v h = before_it done rest d k v h.1

pub none_so_far : {X : Type 0} (done rest : List (List ℕ × X)) (k : List ℕ) (v : X) → IsStrictlySortedBy order (map (λ e. e.0) (done ++ (k, v) ∷ rest)) → find order k done ≡ None
unfolding IsStrictlySortedBy
none_so_far [] rest k v h = refl
none_so_far (x ∷ done) rest k v h =
    let apart : order k x.0 ≡ Greater = nat_list_cmp_total.antisymm k x.0 ∙ ap ordering_reverse (before_it done rest x.0 k v h.0) in
    ap (λ o. cond (is_eq o) (Some x.1) (find order k done)) apart ∙ none_so_far done rest k v h.1

-- a map with one more entry behind all
pub view-push : {X : Type 0} (done rest : List (List ℕ × X)) (k : List ℕ) (v : X) → IsStrictlySortedBy order (map (λ e. e.0) (done ++ (k, v) ∷ rest)) → view (done ++ (k, v) ∷ []) ≡ insert (view done) k v
view-push done rest k v h = from_entries_push nat_list_cmp_total same_keys done k v (none_so_far done rest k v h)

-- what is taken out and put back
pub insert-remove : {X : Type 0} (m : FinMap order X) (k : List ℕ) (v : X) → insert (remove m k) k v ≡ insert m k v
insert-remove m k v = same_map nat_list_cmp_total same_keys _ _ (λ q.
    get-insert nat_list_cmp_total (remove m k) k v q ∙ ap (cond (eq_by_cmp order q k) (Some v)) (get-remove nat_list_cmp_total m k q)
    ∙ twice (eq_by_cmp order q k) (Some v) None (get m q) ∙ sym (get-insert nat_list_cmp_total m k v q))
