-- Found nodes, put in order by a sort.
use Rattle.std.proofs.Common.{◌≡◌, ℕ, ◌<◌, true, List, sym, subst, ◌∙◌, nat_eq}
use Rattle.std.specs.Prelude.{◌&&◌, filter}
use Rattle.std.specs.List.{range_with_len, All, Contains, IsDistinct}
use Rattle.std.specs.List.Sorted.{IsPermutation, IsSorted, IsStrictlyIncreasing}
use Rattle.std.specs.Ordering.{nat_cmp}
use Rattle.std.specs.BTreeSet as tree
use Rattle.std.specs.BTreeSet.{BTreeSet}
use Rattle.std.proofs.lemmas.Bool.{and_parts, and_from}
use Rattle.std.proofs.lemmas.Cmp.{nat_cmp_total}
use Rattle.std.proofs.lemmas.List.{get_or_default}
use Rattle.std.proofs.lemmas.List.Elements.{Contains-get_or}
use Rattle.std.proofs.lemmas.List.Kept.{IsStrictlyIncreasing-filter}
use Rattle.std.proofs.lemmas.List.Sorted.{Contains-permutation, IsPermutation-sym, IsNonDecreasingBy-from_sort}
use Rattle.std.proofs.lemmas.Map.Keys.{IsDistinct-IsPermutation, IsStrictlyIncreasing-from_distinct, sorted_from_strictly_increasing}
use Rattle.std.proofs.lemmas.Map.Lookups.{btree_set_from_contains, exact_unsigned}
use Rattle.std.proofs.lemmas.Map.Views.{btree_set_contains_iff}
use Rattle.dep_graph.specs.Graphs.{has}
use Rattle.dep_graph.proofs.Members.{Place, place_of, same_bool, has_from_place, has-range, has-filter, all_has}
use Rattle.dep_graph.proofs.Reaching.{increasing_range}
use Rattle.dep_graph.proofs.Installing.{eq_turned}

has_contained : (xs : List ℕ) (n : ℕ) → Contains xs n → has xs n ≡ true
has_contained xs n c = has_from_place xs n c.0 c.1 (get_or_default xs c.0 0 n c.1 ∙ c.2)

contains_had : (xs : List ℕ) (n : ℕ) → has xs n ≡ true → Contains xs n
contains_had xs n h =
    let place : Place xs n = place_of xs n h in
    subst (Contains xs) place.is (Contains-get_or xs place.at 0 place.within)

-- ascending numbers are known by which numbers there are
same_ascending : (xs ys : List ℕ) → IsStrictlyIncreasing xs → IsStrictlyIncreasing ys → ((n : ℕ) → has xs n ≡ true → has ys n ≡ true) → ((n : ℕ) → has ys n ≡ true → has xs n ≡ true) → xs ≡ ys
same_ascending xs ys rises also into out_of =
    let set : List ℕ → BTreeSet ℕ = λ keys. record { keys = keys } in
    btree_set_from_contains nat_cmp_total (set xs) (set ys) (sorted_from_strictly_increasing xs rises) (sorted_from_strictly_increasing ys also)
    (λ n. same_bool (tree.contains nat_cmp (set xs) n) (tree.contains nat_cmp (set ys) n)
    (λ h. (btree_set_contains_iff nat_cmp_total exact_unsigned (set ys) n).1 (contains_had ys n (into n (has_contained xs n ((btree_set_contains_iff nat_cmp_total exact_unsigned (set xs) n).0 h)))))
    (λ h. (btree_set_contains_iff nat_cmp_total exact_unsigned (set xs) n).1 (contains_had xs n (out_of n (has_contained ys n ((btree_set_contains_iff nat_cmp_total exact_unsigned (set ys) n).0 h))))))
    exact_unsigned

pub sorted_are : (nodes sorted : List ℕ) (count : ℕ) → IsDistinct nat_eq nodes → All (λ n. n < count) nodes → IsPermutation nodes sorted → IsSorted nat_cmp sorted
    → sorted ≡ filter (has nodes) (range_with_len 0 count)
sorted_are nodes sorted count once below moved order =
    let moved_has : (n : ℕ) → has sorted n ≡ true → has nodes n ≡ true = λ n h. has_contained nodes n (Contains-permutation sorted nodes n (IsPermutation-sym nodes sorted moved) (contains_had sorted n h)) in
    let kept : (n : ℕ) → has (filter (has nodes) (range_with_len 0 count)) n ≡ (has nodes n && has (range_with_len 0 count) n) = has-filter (has nodes) (range_with_len 0 count) in
    same_ascending sorted (filter (has nodes) (range_with_len 0 count))
    (IsStrictlyIncreasing-from_distinct sorted (IsNonDecreasingBy-from_sort (λ n. n) sorted order) (IsDistinct-IsPermutation nat_eq eq_turned nodes sorted moved once))
    (IsStrictlyIncreasing-filter (has nodes) (range_with_len 0 count) (increasing_range count))
    (λ n h. kept n ∙ and_from (has nodes n) (has (range_with_len 0 count) n) (moved_has n h) (has-range count n (all_has (λ m. m < count) nodes n below (moved_has n h))))
    (λ n h. has_contained sorted n (Contains-permutation nodes sorted n moved (contains_had nodes n (and_parts (has nodes n) (has (range_with_len 0 count) n) (sym (kept n) ∙ h)).0)))
