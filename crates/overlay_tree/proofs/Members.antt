-- Lists with the same members.
use Rattle.std.proofs.Common.{◌≡◌, ℕ, Bool, true, false, List, [], ◌∷◌, ◌++◌, ap, ap₂, sym, ◌∙◌, refl, subst, cond}
use Rattle.std.specs.Prelude.{not, ◌&&◌, ◌||◌, filter, map as each, Option, Some, None, bytes_eq}
use Rattle.std.specs.declared.cmp.Ordering.TheVariants.{Less, Equal, Greater}
use Rattle.std.specs.Ordering.{is_eq, eq_by_cmp, nat_cmp}
use Rattle.std.specs.Cmp.{eq_by_cmp_equiv}
use Rattle.std.specs.Cmp.Lexicographic.{nat_list_cmp_total, texts_ties}
use Rattle.std.specs.List.{list_any, list_all}
use Rattle.std.specs.List.Sorted.{IsStrictlySortedBy}
use Rattle.std.specs.FinMap as map
use Rattle.std.specs.FinMap.{IsAntisymmetric, nat_cmp-IsAntisymmetric, slice_cmp-IsAntisymmetric, same_map, get-from_entries}
use Rattle.std.specs.FinMap.Entries.{put, by_order, find}
use Rattle.std.proofs.Math.Path.{fun_ext}
use Rattle.std.proofs.lemmas.List.Folds.{list_any-append}
use Rattle.std.proofs.lemmas.Slice.Eq.{bytes_eq-Decides}
use Rattle.bulk_base.proofs.MapView.{order, view, entries-view}
use Rattle.outside.specs.Contents.{has_no_folder}
use Rattle.bulk_base.specs.Path.{is_below}
use Rattle.overlay_tree.specs.Listed.{Alike}

or_twice : (a b : Bool) → (a || (a || b)) ≡ (a || b)
or_twice true b = refl
or_twice false b = refl

or_swapped : (a b c : Bool) → (a || (b || c)) ≡ (b || (a || c))
or_swapped true true c = refl
or_swapped true false c = refl
or_swapped false b c = refl

any_put : {X : Type 0} (p : List ℕ → Bool) (k : List ℕ) (v : X) (es : List (List ℕ × X)) → list_any p (each (λ e. e.0) (put order k v es)) ≡ (p k || list_any p (each (λ e. e.0) es))
any_put p k v [] = refl
any_put p k v (e ∷ es) =
    let rest : Bool = list_any p (each (λ y. y.0) es) in
    elim (order k e.0) as (λ o. order k e.0 ≡ o → list_any p (each (λ y. y.0) (by_order o ((k, v) ∷ e ∷ es) ((e.0, v) ∷ es) (e ∷ put order k v es))) ≡ (p k || (p e.0 || rest))) [
      | Less ↦ λ q. refl
      | Equal ↦ λ q. let same : k ≡ e.0 = (bytes_eq-Decides k e.0).0 (texts_ties k e.0 ∙ ap is_eq q) in sym (ap (λ t. p t || (p e.0 || rest)) same ∙ or_twice (p e.0) rest)
      | Greater ↦ λ q. ap (λ b. p e.0 || b) (any_put p k v es) ∙ or_swapped (p e.0) (p k) rest
    ] refl

-- a map with one more key
pub any_insert : {X : Type 0} (p : List ℕ → Bool) (m : map.FinMap order X) (k : List ℕ) (v : X) → list_any p (map.keys (map.insert m k v)) ≡ (p k || list_any p (map.keys m))
any_insert p m k v = ap (λ es. list_any p (each (λ e. e.0) es)) (map.entries-insert nat_list_cmp_total m k v) ∙ any_put p k v (map.entries m)

pub Alike-append : (a b c d : List (List ℕ)) → Alike a b → Alike c d → Alike (a ++ c) (b ++ d)
Alike-append a b c d h k p = list_any-append p a c ∙ ap₂ (λ x y. x || y) (h p) (k p) ∙ sym (list_any-append p b d)

pub any_filter : (t p : List ℕ → Bool) (xs : List (List ℕ)) → list_any p (filter t xs) ≡ list_any (λ x. t x && p x) xs
any_filter t p [] = refl
any_filter t p (x ∷ xs) = elim (t x) as (λ b. list_any p (cond b (x ∷ filter t xs) (filter t xs)) ≡ ((b && p x) || list_any (λ y. t y && p y) xs)) [
  | true ↦ ap (λ b. p x || b) (any_filter t p xs)
  | false ↦ any_filter t p xs
]

pub Alike-filter : (t : List ℕ → Bool) (xs ys : List (List ℕ)) → Alike xs ys → Alike (filter t xs) (filter t ys)
Alike-filter t xs ys h p = any_filter t p xs ∙ h (λ x. t x && p x) ∙ sym (any_filter t p ys)

all_by_any : (p : List ℕ → Bool) (xs : List (List ℕ)) → list_all p xs ≡ not (list_any (λ x. not (p x)) xs)
all_by_any p [] = refl
all_by_any p (x ∷ xs) = elim (p x) as (λ b. (b && list_all p xs) ≡ not (not b || list_any (λ y. not (p y)) xs)) [ true ↦ all_by_any p xs | false ↦ refl ]

pub all_alike : (p : List ℕ → Bool) (xs ys : List (List ℕ)) → Alike xs ys → list_all p xs ≡ list_all p ys
all_alike p xs ys h = all_by_any p xs ∙ ap not (h (λ x. not (p x))) ∙ sym (all_by_any p ys)

pub has_no_folder-alike : (xs ys : List (List ℕ)) → Alike xs ys → has_no_folder xs ≡ has_no_folder ys
has_no_folder-alike xs ys h =
    ap (λ (t : List ℕ → Bool). list_all t xs) (fun_ext (λ folder. all_alike (λ path. not (is_below folder path)) xs ys h))
    ∙ all_alike (λ folder. list_all (λ path. not (is_below folder path)) ys) xs ys h

-- ---- ascending lists with the same members are one

abbrev units : List (List ℕ) → List (List ℕ × Unit {0})
units xs = each (λ x. (x, tt)) xs

keys_of_units : (xs : List (List ℕ)) → each (λ e. e.0) (units xs) ≡ xs
keys_of_units [] = refl
keys_of_units (x ∷ xs) = ap (λ ys. x ∷ ys) (keys_of_units xs)

find_unit : (q : List ℕ) (xs : List (List ℕ)) → find order q (units xs) ≡ cond (list_any (eq_by_cmp order q) xs) (Some tt) None
find_unit q [] = refl
find_unit q (x ∷ xs) = elim (eq_by_cmp order q x) as (λ b. cond b (Some tt) (find order q (units xs)) ≡ cond (b || list_any (eq_by_cmp order q) xs) (Some tt) None) [ true ↦ refl | false ↦ find_unit q xs ]

same_keys : IsAntisymmetric order
same_keys = slice_cmp-IsAntisymmetric nat_cmp-IsAntisymmetric

keys_back : (xs : List (List ℕ)) → IsStrictlySortedBy order xs → map.keys (view (units xs)) ≡ xs
keys_back xs h = ap (each (λ e. e.0)) (entries-view (units xs) (subst (IsStrictlySortedBy order) (sym (keys_of_units xs)) h)) ∙ keys_of_units xs

pub same_list : (xs ys : List (List ℕ)) → IsStrictlySortedBy order xs → IsStrictlySortedBy order ys → ((q : List ℕ) → list_any (eq_by_cmp order q) xs ≡ list_any (eq_by_cmp order q) ys) → xs ≡ ys
same_list xs ys h k same =
    sym (keys_back xs h)
    ∙ ap map.keys (same_map nat_list_cmp_total same_keys (view (units xs)) (view (units ys)) (λ q.
    get-from_entries nat_list_cmp_total (units xs) q ∙ find_unit q xs ∙ ap (λ b. cond b (Some tt) None) (same q) ∙ sym (find_unit q ys) ∙ sym (get-from_entries nat_list_cmp_total (units ys) q)))
    ∙ keys_back ys k
