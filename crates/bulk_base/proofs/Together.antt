-- Among texts in byte order those with one beginning stand together, from the first that is not before it.
use Rattle.std.proofs.Common.{◌≡◌, ℕ, ◌<◌, Bool, true, false, List, [], ◌∷◌, ◌++◌, length, get_or, ap, sym, ◌∙◌, refl, subst, nat_eq, append-nil, eqb-true, true≢false, arith, Bor}
use Rattle.std.specs.Prelude.{All, cond, not, ◌&&◌, ◌||◌, filter, map, Some, None}
use Rattle.std.specs.declared.cmp.Ordering.{Ordering}
use Rattle.std.specs.declared.cmp.Ordering.TheVariants.{Less, Equal, Greater}
use Rattle.std.specs.Ordering.{is_eq, is_le, nat_cmp, ordering_then, ordering_reverse}
use Rattle.std.specs.Cmp.{nat_cmp_total, tied_itself, unsigned_ties}
use Rattle.std.specs.List.{list_any, starts_with, slice_get, AllByRecursion}
use Rattle.std.specs.List.Sorted.{IsStrictlySortedBy}
use Rattle.std.specs.Option.{option_map_or}
use Rattle.std.specs.Map.Iter.{deref_pair}
use Rattle.std.proofs.lemmas.Bool.{and_from, and_parts}
use Rattle.std.proofs.lemmas.List.{map-append, length-append, length-map, get_or-map}
use Rattle.std.proofs.lemmas.List.Elements.{filter-append, filter_passes, All-filter}
use Rattle.std.proofs.lemmas.List.Kept.{IsStrictlySortedBy-filter}
use Rattle.std.proofs.lemmas.Option.{slice_get_within, get_or_from_slice_get}
use Rattle.std.proofs.Math.Seq.{get_or-append_seam}
use Rattle.bulk_base.proofs.MapView.{order}

abbrev pub begins : List ℕ → List ℕ → Bool
begins front text = starts_with nat_eq text front

-- what begins with a text is not before it
not_before : (front text : List ℕ) → begins front text ≡ true → is_le (order front text) ≡ true
not_before [] [] h = refl
not_before [] (y ∷ ys) h = refl
not_before (x ∷ xs) [] h = cc
not_before (x ∷ xs) (y ∷ ys) h =
    let p = and_parts (nat_eq x y) (begins xs ys) h in
    let tied : nat_cmp x y ≡ Equal = subst (λ z. nat_cmp x z ≡ Equal) (eqb-true x y p.0) (tied_itself nat_cmp_total x) in
    ap (λ o. is_le (ordering_then o (order xs ys))) tied ∙ not_before xs ys p.1

-- what stands between a text and one that begins with it begins with it too
between : (front mid text : List ℕ) → is_le (order front mid) ≡ true → is_le (order mid text) ≡ true → begins front text ≡ true → begins front mid ≡ true
between [] mid text l r h = refl
between (x ∷ xs) [] text l r h = cc
between (x ∷ xs) (y ∷ ys) [] l r h = cc
between (x ∷ xs) (y ∷ ys) (z ∷ zs) l r h =
    let p = and_parts (nat_eq x z) (begins xs zs) h in
    let back : nat_cmp y z ≡ ordering_reverse (nat_cmp x y) = subst (λ w. nat_cmp y w ≡ ordering_reverse (nat_cmp x y)) (eqb-true x z p.0) (nat_cmp_total.antisymm y x) in
    step (nat_cmp x y) refl (λ m s. between xs ys zs m s p.1) l (subst (λ o. is_le (ordering_then o (order ys zs)) ≡ true) back r)
  where
    step : (o : Ordering) → nat_cmp x y ≡ o → (is_le (order xs ys) ≡ true → is_le (order ys zs) ≡ true → begins xs ys ≡ true)
        → is_le (ordering_then o (order xs ys)) ≡ true → is_le (ordering_then (ordering_reverse o) (order ys zs)) ≡ true → begins (x ∷ xs) (y ∷ ys) ≡ true
    step Less e rest m s = cc
    step Equal e rest m s = and_from _ _ (unsigned_ties x y ∙ ap is_eq e) (rest m s)
    step Greater e rest m s = cc

-- behind one that does not begin with the text, and is not before it, none does
none_behind : (front key : List ℕ) (more : List (List ℕ)) → is_le (order front key) ≡ true → begins front key ≡ false → AllByRecursion (λ k. order key k ≡ Less) more
    → list_any (begins front) more ≡ false
none_behind front key [] from fails later = refl
none_behind front key (k ∷ more) from fails later =
    elim (begins front k) as (λ b. begins front k ≡ b → list_any (begins front) (k ∷ more) ≡ false) [
      | true ↦ λ e. let passes : begins front key ≡ true = between front key k from (ap is_le later.0) e in absurd (true≢false (sym passes ∙ fails))
      | false ↦ λ e. ap (λ b. b || list_any (begins front) more) e ∙ none_behind front key more from fails later.1
    ] refl

none_kept : {X : Type 0} (p : X → Bool) (xs : List X) → list_any p xs ≡ false → filter p xs ≡ []
none_kept p [] h = refl
none_kept p (x ∷ xs) h = elim (p x) as (λ b. p x ≡ b → cond b (x ∷ filter p xs) (filter p xs) ≡ []) [
  | true ↦ λ e. cc
  | false ↦ λ e. none_kept p xs (sym (ap (λ b. b || list_any p xs) e) ∙ h)
] refl

module _ {X : Type 0} (front : List ℕ) where
  abbrev pub keys_of : List (List ℕ × X) → List (List ℕ)
  keys_of entries = map (λ e. e.0) entries

  pub keys_shown : (yielded : List (Bor (List ℕ) × Bor X)) → keys_of (map deref_pair yielded) ≡ map (λ e. e.0.now) yielded
  keys_shown [] = refl
  keys_shown (e ∷ yielded) = ap (λ ks. e.0.now ∷ ks) (keys_shown yielded)

  -- what a search that begins at the text finds
  abbrev pub from_front : List (List ℕ × X) → List (List ℕ × X)
  from_front entries = filter (λ e. is_le (order front e.0) && not false) entries

  -- the first that is found tells whether there is one with this beginning
  pub first_begins : (entries : List (List ℕ × X)) → IsStrictlySortedBy order (keys_of entries)
      → list_any (begins front) (keys_of entries) ≡ option_map_or (λ e. begins front e.0) (slice_get (from_front entries) 0) false
  unfolding IsStrictlySortedBy
  first_begins [] h = refl
  first_begins (e ∷ entries) h = elim (is_le (order front e.0)) as (λ b. is_le (order front e.0) ≡ b
      → list_any (begins front) (keys_of (e ∷ entries)) ≡ option_map_or (λ x. begins front x.0) (slice_get (cond (b && not false) (e ∷ from_front entries) (from_front entries)) 0) false) [
        | true ↦ λ from. elim (begins front e.0) as (λ b. begins front e.0 ≡ b → (b || list_any (begins front) (keys_of entries)) ≡ b) [
          | true ↦ λ q. refl
          | false ↦ λ q. none_behind front e.0 (keys_of entries) from q h.0
        ] refl
        | false ↦ λ before. elim (begins front e.0) as (λ b. begins front e.0 ≡ b → (b || list_any (begins front) (keys_of entries)) ≡ option_map_or (λ x. begins front x.0) (slice_get (from_front entries) 0) false) [
          | true ↦ λ q. absurd (true≢false (sym (not_before front e.0 q) ∙ before))
          | false ↦ λ q. first_begins entries h.1
        ] refl
      ] refl

  -- the search misses none of them
  pub kept_from_front : (entries : List (List ℕ × X)) → filter (begins front) (keys_of entries) ≡ filter (begins front) (keys_of (from_front entries))
  kept_from_front [] = refl
  kept_from_front (e ∷ entries) = elim (is_le (order front e.0)) as (λ b. is_le (order front e.0) ≡ b
      → filter (begins front) (keys_of (e ∷ entries)) ≡ filter (begins front) (keys_of (cond (b && not false) (e ∷ from_front entries) (from_front entries)))) [
        | true ↦ λ from. ap (λ ks. cond (begins front e.0) (e.0 ∷ ks) ks) (kept_from_front entries)
        | false ↦ λ before. elim (begins front e.0) as (λ b. begins front e.0 ≡ b → cond b (e.0 ∷ filter (begins front) (keys_of entries)) (filter (begins front) (keys_of entries)) ≡ filter (begins front) (keys_of (from_front entries))) [
          | true ↦ λ q. absurd (true≢false (sym (not_before front e.0 q) ∙ before))
          | false ↦ λ q. kept_from_front entries
        ] refl
      ] refl

  -- what holds of all keys holds of the key of each that is found
  pub found_key : (P : List ℕ → Type 0) (entries : List (List ℕ × X)) (k : ℕ) (e : List ℕ × X) → All P (keys_of entries) → slice_get (from_front entries) k ≡ Some e → P e.0
  found_key P entries k e all at =
      let each : All (λ x. P x.0) entries = λ i d l. subst P (get_or-map (λ x. x.0) entries i d d.0 l) (all i d.0 (omega (arith, length-map entries (λ x. x.0)))) in
      let kept : All (λ x. P x.0) (from_front entries) = All-filter (λ x. is_le (order front x.0) && not false) (λ x. P x.0) entries each in
      subst (λ x. P x.0) (get_or_from_slice_get (from_front entries) k e e at) (kept k e (slice_get_within (from_front entries) k e at))

  keys_from_front : (entries : List (List ℕ × X)) → keys_of (from_front entries) ≡ filter (λ k. is_le (order front k) && not false) (keys_of entries)
  keys_from_front [] = refl
  keys_from_front (e ∷ entries) = elim (is_le (order front e.0)) as (λ b. keys_of (cond (b && not false) (e ∷ from_front entries) (from_front entries))
      ≡ cond (b && not false) (e.0 ∷ filter (λ k. is_le (order front k) && not false) (keys_of entries)) (filter (λ k. is_le (order front k) && not false) (keys_of entries))) [
        | true ↦ ap (λ ks. e.0 ∷ ks) (keys_from_front entries)
        | false ↦ keys_from_front entries
      ]

  behind : (done rest : List (List ℕ × X)) (e : List ℕ × X) → IsStrictlySortedBy order (keys_of (done ++ e ∷ rest)) → AllByRecursion (λ k. order e.0 k ≡ Less) (keys_of rest)
  unfolding IsStrictlySortedBy
  behind [] rest e h = h.0
  behind (d ∷ done) rest e h = behind done rest e h.1

  -- where one that is found does not begin with the text, those before it are all
  pub kept_before : (entries done rest : List (List ℕ × X)) (e : List ℕ × X) → IsStrictlySortedBy order (keys_of entries) → from_front entries ≡ done ++ e ∷ rest → begins front e.0 ≡ false
      → filter (begins front) (keys_of entries) ≡ filter (begins front) (keys_of done)
  kept_before entries done rest e sorted found fails =
      let order_found : IsStrictlySortedBy order (keys_of (done ++ e ∷ rest)) =
      subst (λ l. IsStrictlySortedBy order (keys_of l)) found
      (subst (IsStrictlySortedBy order) (sym (keys_from_front entries)) (IsStrictlySortedBy-filter order (λ k. is_le (order front k) && not false) (keys_of entries) sorted)) in
      let passes : All (λ x. (is_le (order front x.0) && not false) ≡ true) (done ++ e ∷ rest) = subst (λ l. All (λ x. (is_le (order front x.0) && not false) ≡ true) l) found (filter_passes (λ x. is_le (order front x.0) && not false) entries) in
      let here : get_or (done ++ e ∷ rest) (length done) e ≡ e = get_or-append_seam done e rest e in
      let from : is_le (order front e.0) ≡ true =
      (and_parts (is_le (order front e.0)) (not false) (subst (λ x. (is_le (order front x.0) && not false) ≡ true) here (passes (length done) e (omega (arith, length-append done (e ∷ rest)))))).0 in
      let none : filter (begins front) (keys_of (e ∷ rest)) ≡ [] = none_kept (begins front) (e.0 ∷ keys_of rest) (ap (λ b. b || list_any (begins front) (keys_of rest)) fails ∙ none_behind front e.0 (keys_of rest) from fails (behind done rest e order_found)) in
      kept_from_front entries
      ∙ ap (λ l. filter (begins front) (keys_of l)) found
      ∙ ap (filter (begins front)) (map-append (λ x. x.0) done (e ∷ rest))
      ∙ filter-append (begins front) (keys_of done) (keys_of (e ∷ rest))
      ∙ ap (λ l. filter (begins front) (keys_of done) ++ l) none
      ∙ append-nil _
