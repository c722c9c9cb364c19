-- Packages in order, by node, then name.
use Rattle.std.proofs.Common.{◌≡◌, Bool, true, false, List, [], ◌∷◌, refl, ap, sym, subst, ◌∙◌, cond, inl, inr, ◌⊎◌}
use Rattle.std.specs.Prelude.{filter, Contains}
use Rattle.std.specs.List.{AllByRecursion, fold}
use Rattle.std.specs.List.Sorted.{IsStrictlySortedBy}
use Rattle.std.specs.Cmp.{IsTotalOrder}
use Rattle.std.specs.Cmp.Lexicographic.{slice_cmp}
use Rattle.std.specs.Ordering.{nat_cmp, is_lt, ordering_reverse, ordering_then}
use Rattle.std.specs.declared.cmp.Ordering.{Ordering}
use Rattle.std.specs.declared.cmp.Ordering.TheVariants.{Less, Equal, Greater}
use Rattle.std.proofs.lemmas.Cmp.{nat_list_cmp_total, then_total, on_total}
use Rattle.std.proofs.lemmas.List.Kept.{IsStrictlySortedBy-filter}
use Rattle.std.proofs.lemmas.Map.Lookups.{exact_bytes}
use Rattle.bulk_base.proofs.Members.{contains_here, contains_more, contains_cases, contains_none}
use Rattle.bulk_model.specs.Among.{package_cmp, AreInOrder}
use Rattle.bulk_model.specs.Sound.{IsWithin, HasNames, place, by_node}
use Rattle.bulk_model.specs.Views.{PackageView, node_of_package}

package_total : IsTotalOrder package_cmp
package_total = then_total (on_total node_of_package nat_list_cmp_total) (on_total (λ (p : PackageView). p.name) nat_list_cmp_total)

pub never_both : (a b : PackageView) → package_cmp a b ≡ Less → package_cmp b a ≡ Less → ⊥
never_both a b f g = let no : Less ≡ Greater = sym f ∙ package_total.antisymm a b ∙ ap ordering_reverse g in cc

-- what a list by recursion has of all it has of each member
recursion_at : {X : Type 0} (P : X → Type 0) (xs : List X) (x : X) → AllByRecursion P xs
    → Contains xs x → P x
recursion_at P [] x all c = absurd (contains_none x c)
recursion_at P (y ∷ xs) x all c = elim (contains_cases y xs x c) [ inl e ↦ subst P e all.0 | inr m ↦ recursion_at P xs x all.1 m ]

recursion_from : {X : Type 0} (P : X → Type 0) (xs : List X) → ((x : X) → Contains xs x → P x)
    → AllByRecursion P xs
recursion_from P [] each = tt
recursion_from P (x ∷ xs) each = (each x (contains_here x xs), recursion_from P xs (λ y c. each y (contains_more x xs y c)))

-- a list in order: its first comes before each other, and the others are in order
pub first_before : (p : PackageView) (ps : List PackageView) → AreInOrder (p ∷ ps)
    → (q : PackageView) → Contains ps q → package_cmp p q ≡ Less
unfolding IsStrictlySortedBy
first_before p ps h q c = recursion_at (λ r. package_cmp p r ≡ Less) ps q h.0 c

pub rest_order : (p : PackageView) (ps : List PackageView) → AreInOrder (p ∷ ps) → AreInOrder ps
unfolding IsStrictlySortedBy
rest_order p ps h = h.1

pub order_from : (p : PackageView) (ps : List PackageView)
    → ((q : PackageView) → Contains ps q → package_cmp p q ≡ Less) → AreInOrder ps
    → AreInOrder (p ∷ ps)
unfolding IsStrictlySortedBy
order_from p ps first rest = (recursion_from (λ r. package_cmp p r ≡ Less) ps first, rest)

pub none_order : AreInOrder []
unfolding IsStrictlySortedBy
none_order = tt

-- a filter keeps the order
pub filter_order : (test : PackageView → Bool) (ps : List PackageView) → AreInOrder ps
    → AreInOrder (filter test ps)
filter_order test ps h = IsStrictlySortedBy-filter package_cmp test ps h

-- two lists in order with the same members are one
first_same : (p q : PackageView) (ps qs : List PackageView) → AreInOrder (p ∷ ps)
    → AreInOrder (q ∷ qs) → Contains (q ∷ qs) p → Contains (p ∷ ps) q → p ≡ q
first_same p q ps qs f g c d =
    elim (contains_cases q qs p c) [
      | inl e ↦ sym e
      | inr m ↦ elim (contains_cases p ps q d) [ inl e ↦ e | inr n ↦ absurd (never_both q p (first_before q qs g p m) (first_before p ps f q n)) ]
    ]

rest_same : (p q : PackageView) (ps qs : List PackageView) → AreInOrder (p ∷ ps) → p ≡ q
    → ((r : PackageView) → Contains (p ∷ ps) r → Contains (q ∷ qs) r) → (r : PackageView)
    → Contains ps r → Contains qs r
rest_same p q ps qs f e into r c =
    elim (contains_cases q qs r (into r (contains_more p ps r c))) [
      | inl same ↦ absurd (let b : package_cmp r r ≡ Less = subst (λ z. package_cmp z r ≡ Less) (e ∙ same) (first_before p ps f r c) in never_both r r b b)
      | inr m ↦ m
    ]

pub same_order : (ps qs : List PackageView) → AreInOrder ps → AreInOrder qs
    → ((r : PackageView) → Contains ps r → Contains qs r)
    → ((r : PackageView) → Contains qs r → Contains ps r) → ps ≡ qs
same_order [] [] f g into back = refl
same_order [] (q ∷ qs) f g into back = absurd (contains_none q (back q (contains_here q qs)))
same_order (p ∷ ps) [] f g into back = absurd (contains_none p (into p (contains_here p ps)))
same_order (p ∷ ps) (q ∷ qs) f g into back =
    let e = first_same p q ps qs f g (into p (contains_here p ps)) (back q (contains_here q qs)) in
    ap (λ z. z ∷ ps) e
    ∙ ap (λ zs. q ∷ zs) (same_order ps qs (rest_order p ps f) (rest_order q qs g) (rest_same p q ps qs f e into) (rest_same q p qs ps g (sym e) back))

-- ---- a package in its place among others

less_of : (o : Ordering) → is_lt o ≡ true → o ≡ Less
less_of Less e = refl
less_of Equal e = absurd (cc e)
less_of Greater e = absurd (cc e)

equal_of : (o : Ordering) → is_lt o ≡ false → is_lt (ordering_reverse o) ≡ false → o ≡ Equal
equal_of Less e f = absurd (cc e)
equal_of Equal e f = refl
equal_of Greater e f = absurd (cc f)

same_second : (a b : Ordering) → ordering_then a b ≡ Equal → b ≡ Equal
same_second Less b e = absurd (cc e)
same_second Equal b e = e
same_second Greater b e = absurd (cc e)

-- packages of one place have one name
pub same_name : (p q : PackageView) → package_cmp p q ≡ Equal → p.name ≡ q.name
same_name p q e =
    exact_bytes p.name q.name (same_second (slice_cmp nat_cmp (node_of_package p) (node_of_package q)) (slice_cmp nat_cmp p.name q.name) e)

-- the two tests that find the place beside another package
abbrev is_before : PackageView → PackageView → Bool
is_before p q = is_lt (package_cmp p q)

place_taken : (p q : PackageView) → is_before p q ≡ false → is_before q p ≡ false
    → package_cmp p q ≡ Equal
place_taken p q b c = equal_of (package_cmp p q) b (sym (ap is_lt (package_total.antisymm q p)) ∙ c)

out_case : (p q : PackageView) (ps placed : List PackageView) (r : PackageView) (b c : Bool)
    → (Contains placed r → Contains (p ∷ ps) r)
    → Contains (cond b (p ∷ q ∷ ps) (cond c (q ∷ placed) (q ∷ ps))) r
    → Contains (p ∷ q ∷ ps) r
out_case p q ps placed r true c more h = h
out_case p q ps placed r false true more h =
    elim (contains_cases q placed r h) [
      | inl e ↦ contains_more p (q ∷ ps) r (subst (λ z. Contains (q ∷ ps) z) e (contains_here q ps))
      | inr m ↦
          elim (contains_cases p ps r (more m)) [
            | inl e ↦ subst (λ z. Contains (p ∷ q ∷ ps) z) e (contains_here p (q ∷ ps))
            | inr n ↦ contains_more p (q ∷ ps) r (contains_more q ps r n)
          ]
    ]
out_case p q ps placed r false false more h = contains_more p (q ∷ ps) r h

pub place_out_of : (p : PackageView) (ps : List PackageView) (r : PackageView)
    → Contains (place p ps) r
    → Contains (p ∷ ps) r
place_out_of p [] r c = c
place_out_of p (q ∷ ps) r c = out_case p q ps (place p ps) r (is_before p q) (is_before q p) (place_out_of p ps r) c

order_case : (p q : PackageView) (ps : List PackageView) (b c : Bool) → is_before p q ≡ b
    → is_before q p ≡ c
    → AreInOrder (q ∷ ps) → AreInOrder (place p ps)
    → AreInOrder (cond b (p ∷ q ∷ ps) (cond c (q ∷ place p ps) (q ∷ ps)))
order_case p q ps true c e f order rest =
    let first : package_cmp p q ≡ Less = less_of (package_cmp p q) e in
    order_from p (q ∷ ps)
    (λ r d. elim (contains_cases q ps r d) [ inl same ↦ subst (λ z. package_cmp p z ≡ Less) same first | inr m ↦ package_total.trans p q r first (first_before q ps order r m) ])
    order
order_case p q ps false true e f order rest =
    let first : package_cmp q p ≡ Less = less_of (package_cmp q p) f in
    order_from q (place p ps)
    (λ r d. elim (contains_cases p ps r (place_out_of p ps r d)) [ inl same ↦ subst (λ z. package_cmp q z ≡ Less) same first | inr m ↦ first_before q ps order r m ])
    rest
order_case p q ps false false e f order rest = order

pub place_order : (p : PackageView) (ps : List PackageView) → AreInOrder ps
    → AreInOrder (place p ps)
place_order p [] order = order_from p [] (λ q c. absurd (contains_none q c)) none_order
place_order p (q ∷ ps) order =
    order_case p q ps (is_before p q) (is_before q p) refl refl order (place_order p ps (rest_order q ps order))

into_case : (p q : PackageView) (ps placed : List PackageView) (r : PackageView) (b c : Bool)
    → is_before p q ≡ b → is_before q p ≡ c → (package_cmp p q ≡ Equal → p ≡ q)
    → (Contains (p ∷ ps) r → Contains placed r)
    → (p ≡ r) ⊎ ((q ≡ r) ⊎ Contains ps r)
    → Contains (cond b (p ∷ q ∷ ps) (cond c (q ∷ placed) (q ∷ ps))) r
into_case p q ps placed r true c e f one more (inl same) = subst (λ z. Contains (p ∷ q ∷ ps) z) same (contains_here p (q ∷ ps))
into_case p q ps placed r true c e f one more (inr (inl same)) =
    contains_more p (q ∷ ps) r (subst (λ z. Contains (q ∷ ps) z) same (contains_here q ps))
into_case p q ps placed r true c e f one more (inr (inr m)) = contains_more p (q ∷ ps) r (contains_more q ps r m)
into_case p q ps placed r false true e f one more (inl same) = contains_more q placed r (more (subst (λ z. Contains (p ∷ ps) z) same (contains_here p ps)))
into_case p q ps placed r false true e f one more (inr (inl same)) = subst (λ z. Contains (q ∷ placed) z) same (contains_here q placed)
into_case p q ps placed r false true e f one more (inr (inr m)) = contains_more q placed r (more (contains_more p ps r m))
into_case p q ps placed r false false e f one more (inl same) =
    subst (λ z. Contains (q ∷ ps) z) (sym (one (place_taken p q e f)) ∙ same) (contains_here q ps)
into_case p q ps placed r false false e f one more (inr (inl same)) = subst (λ z. Contains (q ∷ ps) z) same (contains_here q ps)
into_case p q ps placed r false false e f one more (inr (inr m)) = contains_more q ps r m

where_in : (p q : PackageView) (ps : List PackageView) (r : PackageView) → Contains (p ∷ q ∷ ps) r
    → (p ≡ r) ⊎ ((q ≡ r) ⊎ Contains ps r)
where_in p q ps r c = elim (contains_cases p (q ∷ ps) r c) [ inl e ↦ inl e | inr m ↦ inr (contains_cases q ps r m) ]

-- where a place is that of one package alone, none is lost
pub place_into : (p : PackageView) (ps : List PackageView) (r : PackageView)
    → ((q : PackageView) → Contains ps q → package_cmp p q ≡ Equal → p ≡ q) → Contains (p ∷ ps) r
    → Contains (place p ps) r
place_into p [] r one c = c
place_into p (q ∷ ps) r one c =
    into_case p q ps (place p ps) r (is_before p q) (is_before q p) refl refl (one q (contains_here q ps))
    (place_into p ps r (λ s m. one s (contains_more q ps s m))) (where_in p q ps r c)

-- ---- all of a list in their places, one after another

abbrev all_placed : List PackageView → List PackageView → List PackageView
all_placed done ps = fold (λ placed p. place p placed) done ps

placed_order : (done ps : List PackageView) → AreInOrder done → AreInOrder (all_placed done ps)
placed_order done [] order = order
placed_order done (p ∷ ps) order = placed_order (place p done) ps (place_order p done order)

pub members_are_in_order : (members : List PackageView) → AreInOrder (by_node members)
members_are_in_order members = placed_order [] members none_order

placed_out_of : (done ps : List PackageView) (r : PackageView) → Contains (all_placed done ps) r
    → Contains done r ⊎ Contains ps r
placed_out_of done [] r c = inl c
placed_out_of done (p ∷ ps) r c =
    elim (placed_out_of (place p done) ps r c) [
      | inl d ↦
          elim (contains_cases p done r (place_out_of p done r d)) [
            | inl e ↦ inr (subst (λ z. Contains (p ∷ ps) z) e (contains_here p ps))
            | inr m ↦ inl m
          ]
      | inr m ↦ inr (contains_more p ps r m)
    ]

pub by_node_out_of : (members : List PackageView) (p : PackageView) → Contains (by_node members) p
    → Contains members p
by_node_out_of members p c = elim (placed_out_of [] members p c) [ inl none ↦ absurd (contains_none p none) | inr m ↦ m ]

module _ (members : List PackageView) (names : HasNames members) where
  one_place : (p q : PackageView) → Contains members p → Contains members q
      → package_cmp p q ≡ Equal → p ≡ q
  one_place p q c d e = names p q c d (same_name p q e)

  placed_within : (done : List PackageView) (p : PackageView) → IsWithin done members
      → Contains members p
      → IsWithin (place p done) members
  placed_within done p in_done here r c =
      elim (contains_cases p done r (place_out_of p done r c)) [ inl e ↦ subst (λ z. Contains members z) e here | inr m ↦ in_done r m ]

  placed_into : (done ps : List PackageView) → IsWithin done members → IsWithin ps members
      → (r : PackageView)
      → Contains done r ⊎ Contains ps r → Contains (all_placed done ps) r
  placed_into done [] in_done in_ps r (inl c) = c
  placed_into done [] in_done in_ps r (inr c) = absurd (contains_none r c)
  placed_into done (p ∷ ps) in_done in_ps r at =
      let here : Contains members p = in_ps p (contains_here p ps) in
      let into = place_into p done r (λ q c e. one_place p q here (in_done q c) e) in
      placed_into (place p done) ps (placed_within done p in_done here) (λ q c. in_ps q (contains_more p ps q c)) r
      (elim at [
        | inl c ↦ inl (into (contains_more p done r c))
        | inr c ↦
            elim (contains_cases p ps r c) [
              | inl e ↦ inl (into (subst (λ z. Contains (p ∷ done) z) e (contains_here p done)))
              | inr m ↦ inr m
            ]
      ])

  pub by_node_into : (p : PackageView) → Contains members p → Contains (by_node members) p
  by_node_into p c = placed_into [] members (λ q none. absurd (contains_none q none)) (λ q m. m) p (inr c)
