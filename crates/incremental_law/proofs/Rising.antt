-- Numbers that rise, and the packages at them in order.
use Rattle.std.proofs.Common.{◌≡◌, ℕ, zero, suc, ◌+◌, ◌<◌, ◌≤◌, Bool, true, false, List, [], ◌∷◌, refl, ap, sym, subst, arith, Option, Some, None, cond, inl, inr}
use Rattle.std.specs.Prelude.{filter, Contains, IsTrue}
use Rattle.std.specs.List.{filter_map, cons_option, range_with_len}
use Rattle.std.specs.Ordering.{nat_cmp, is_lt, ordering_then}
use Rattle.std.specs.Cmp.Lexicographic.{slice_cmp}
use Rattle.std.specs.declared.cmp.Ordering.{Ordering}
use Rattle.std.specs.declared.cmp.Ordering.TheVariants.{Less, Equal, Greater}
use Rattle.bulk_base.proofs.Members.{contains_here, contains_more, contains_cases, contains_none, filter_out_of, Given, filter_map_given}
use Rattle.bulk_model.specs.Among.{package_cmp, AreInOrder}
use Rattle.bulk_model.specs.Views.{PackageView, node_of_package}
use Rattle.model_laws.proofs.Ordered.{order_from, none_order}

abbrev pub IsBefore : List ℕ → List ℕ → Type 0
IsBefore a b = slice_cmp nat_cmp a b ≡ Less

less_from : (o : Ordering) → IsTrue (is_lt o) → o ≡ Less
less_from Less h = refl
less_from Equal h = absurd cc
less_from Greater h = absurd cc

pub before_from : (a b : List ℕ) → IsTrue (is_lt (slice_cmp nat_cmp a b)) → IsBefore a b
before_from a b h = less_from (slice_cmp nat_cmp a b) h

before_by_node : (a b : PackageView) → IsBefore (node_of_package a) (node_of_package b) → package_cmp a b ≡ Less
before_by_node a b h = ap (λ o. ordering_then o (slice_cmp nat_cmp a.name b.name)) h

-- numbers that rise
pub AreRising : List ℕ → Type 0
AreRising [] = Unit {0}
AreRising (n ∷ ns) = ((m : ℕ) → Contains ns m → n < m) × AreRising ns

range_from : (a n m : ℕ) → Contains (range_with_len a n) m → a ≤ m
range_from a zero m h = absurd (contains_none m h)
range_from a (suc n) m h =
    elim (contains_cases a (range_with_len (a + 1) n) m h) [ inl e ↦ omega arith | inr c ↦ (let l : a + 1 ≤ m = range_from (a + 1) n m c in omega arith) ]

pub range_rises : (a n : ℕ) → AreRising (range_with_len a n)
unfolding AreRising
range_rises a zero = tt
range_rises a (suc n) = ((λ m c. let l : a + 1 ≤ m = range_from (a + 1) n m c in omega arith), range_rises (a + 1) n)

kept_rises : (x : ℕ) (b : Bool) (xs : List ℕ) → ((m : ℕ) → Contains xs m → x < m) → AreRising xs → AreRising (cond b (x ∷ xs) xs)
unfolding AreRising
kept_rises x true xs first rest = (first, rest)
kept_rises x false xs first rest = rest

pub filter_rises : (p : ℕ → Bool) (xs : List ℕ) → AreRising xs → AreRising (filter p xs)
unfolding AreRising
filter_rises p [] h = tt
filter_rises p (x ∷ xs) h = kept_rises x (p x) (filter p xs) (λ m c. h.0 m (filter_out_of p xs m c).0) (filter_rises p xs h.1)

module _ (at : ℕ → Option PackageView) (count : ℕ) (node : ℕ → List ℕ) (rise : (a b : ℕ) → a < b → b < count → IsBefore (node a) (node b))
    (named : (n : ℕ) (p : PackageView) → n < count → at n ≡ Some p → node_of_package p ≡ node n) where
  given_order : (n : ℕ) (ns : List ℕ) (o : Option PackageView) → n < count → at n ≡ o → ((m : ℕ) → Contains ns m → n < m) → ((m : ℕ) → Contains ns m → m < count)
      → AreInOrder (filter_map at ns) → AreInOrder (cons_option o (filter_map at ns))
  given_order n ns None l e first below rest = rest
  given_order n ns (Some p) l e first below rest = order_from p (filter_map at ns)
      (λ q c. let g : Given at ns q = filter_map_given at ns q c in
      before_by_node p q (subst (λ a. IsBefore a (node_of_package q)) (sym (named n p l e)) (subst (λ b. IsBefore (node n) b) (sym (named g.one q (below g.one g.is) g.gives)) (rise n g.one (first g.one g.is) (below g.one g.is)))))
      rest

  pub map_order : (ns : List ℕ) → AreRising ns → ((m : ℕ) → Contains ns m → m < count) → AreInOrder (filter_map at ns)
  unfolding AreRising
  map_order [] h below = none_order
  map_order (n ∷ ns) h below = given_order n ns (at n) (below n (contains_here n ns)) refl h.0 (λ m c. below m (contains_more n ns m c)) (map_order ns h.1 (λ m c. below m (contains_more n ns m c)))
