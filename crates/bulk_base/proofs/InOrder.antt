-- Texts in byte order, each once, have what the texts have.
use Rattle.std.proofs.Common.{◌≡◌, ℕ, Bool, true, false, List, [], ◌∷◌, ap, sym, ◌∙◌, refl}
use Rattle.std.specs.Prelude.{map, ◌||◌}
use Rattle.std.specs.declared.cmp.Ordering.TheVariants.{Less, Equal, Greater}
use Rattle.std.specs.Cmp.Lexicographic.{nat_list_cmp_total, texts_ties}
use Rattle.std.specs.Ordering.{is_eq}
use Rattle.std.proofs.lemmas.Slice.Eq.{bytes_eq-Decides}
use Rattle.std.specs.List.{list_all, list_any, fold}
use Rattle.std.specs.FinMap as finite
use Rattle.std.specs.FinMap.Entries.{put, by_order}
use Rattle.std.proofs.lemmas.Bool.{and_parts, and_from}
use Rattle.std.proofs.lemmas.List.{nil_from_length}
use Rattle.bulk_base.proofs.MapView.{order, keys_ascend}
use Rattle.std.specs.List.Sorted.{IsStrictlySortedBy}
use Rattle.bulk_base.specs.Order.{TextSet, set_of, in_order}

module _ (p : List ℕ → Bool) where
  list_all-put : {X : Type 0} (text : List ℕ) (x : X) (es : List (List ℕ × X)) → p text ≡ true → list_all p (map (λ e. e.0) es) ≡ true → list_all p (map (λ e. e.0) (put order text x es)) ≡ true
  list_all-put text x [] h k = and_from _ _ h refl
  list_all-put text x (e ∷ es) h k =
      let m = and_parts (p e.0) (list_all p (map (λ y. y.0) es)) k in
      elim (order text e.0) as (λ o. list_all p (map (λ y. y.0) (by_order o ((text, x) ∷ e ∷ es) ((e.0, x) ∷ es) (e ∷ put order text x es))) ≡ true) [
        | Less ↦ and_from _ _ h k
        | Equal ↦ k
        | Greater ↦ and_from _ _ m.0 (list_all-put text x es h m.1)
      ]

  put_all : (texts : List (List ℕ)) (set : TextSet) → list_all p (finite.keys set) ≡ true → list_all p texts ≡ true → list_all p (finite.keys (fold (λ set text. finite.insert set text tt) set texts)) ≡ true
  put_all [] set s h = s
  put_all (text ∷ texts) set s h =
      let m = and_parts (p text) (list_all p texts) h in
      put_all texts (finite.insert set text tt)
      (ap (λ es. list_all p (map (λ e. e.0) es)) (finite.entries-insert nat_list_cmp_total set text tt) ∙ list_all-put text tt (finite.entries set) m.0 s) m.1

  no_keys : list_all p (finite.keys (let none : TextSet = finite.empty in none)) ≡ true
  no_keys = ap (λ es. list_all p (map (λ e. e.0) es)) (nil_from_length (finite.entries (let none : TextSet = finite.empty in none)) (sym (finite.len-entries finite.empty) ∙ finite.len-empty order (Unit {0})))

  -- what all texts pass, all pass in order
  pub list_all-in_order : (texts : List (List ℕ)) → list_all p texts ≡ true → list_all p (in_order texts) ≡ true
  unfolding in_order
  list_all-in_order texts h = put_all texts finite.empty no_keys h

pub in_order-ascends : (texts : List (List ℕ)) → IsStrictlySortedBy order (in_order texts)
unfolding in_order
in_order-ascends texts = keys_ascend (fold (λ set text. finite.insert set text tt) finite.empty texts)

or_twice : (a b : Bool) → (a || (a || b)) ≡ (a || b)
or_twice true b = refl
or_twice false b = refl

or_swapped : (a b c : Bool) → (a || (b || c)) ≡ (b || (a || c))
or_swapped true true c = refl
or_swapped true false c = refl
or_swapped false b c = refl

or_none : (a : Bool) → (a || false) ≡ a
or_none true = refl
or_none false = refl

module _ (p : List ℕ → Bool) where
  list_any-put : {X : Type 0} (text : List ℕ) (x : X) (es : List (List ℕ × X)) → list_any p (map (λ e. e.0) (put order text x es)) ≡ (p text || list_any p (map (λ e. e.0) es))
  list_any-put text x [] = refl
  list_any-put text x (e ∷ es) =
      let rest : Bool = list_any p (map (λ y. y.0) es) in
      elim (order text e.0) as (λ o. order text e.0 ≡ o → list_any p (map (λ y. y.0) (by_order o ((text, x) ∷ e ∷ es) ((e.0, x) ∷ es) (e ∷ put order text x es))) ≡ (p text || (p e.0 || rest))) [
        | Less ↦ λ q. refl
        | Equal ↦ λ q. let same : text ≡ e.0 = (bytes_eq-Decides text e.0).0 (texts_ties text e.0 ∙ ap is_eq q) in sym (ap (λ t. p t || (p e.0 || rest)) same ∙ or_twice (p e.0) rest)
        | Greater ↦ λ q. ap (λ b. p e.0 || b) (list_any-put text x es) ∙ or_swapped (p e.0) (p text) rest
      ] refl

  any_put : (texts : List (List ℕ)) (set : TextSet) → list_any p (finite.keys (fold (λ set text. finite.insert set text tt) set texts)) ≡ (list_any p texts || list_any p (finite.keys set))
  any_put [] set = refl
  any_put (text ∷ texts) set =
      any_put texts (finite.insert set text tt)
      ∙ ap (λ b. list_any p texts || b) (ap (λ es. list_any p (map (λ e. e.0) es)) (finite.entries-insert nat_list_cmp_total set text tt) ∙ list_any-put text tt (finite.entries set))
      ∙ or_swapped (list_any p texts) (p text) (list_any p (finite.keys set))
      ∙ or_same (p text) (list_any p texts) (list_any p (finite.keys set))
    where
      or_same : (a b c : Bool) → (a || (b || c)) ≡ ((a || b) || c)
      or_same true b c = refl
      or_same false b c = refl

  -- one of the texts passes where one of them in order does
  pub list_any-set_of : (texts : List (List ℕ)) → list_any p (finite.keys (set_of texts)) ≡ list_any p texts
  list_any-set_of texts =
      any_put texts finite.empty
      ∙ ap (λ es. list_any p texts || list_any p (map (λ e. e.0) es)) (nil_from_length (finite.entries (let none : TextSet = finite.empty in none)) (sym (finite.len-entries finite.empty) ∙ finite.len-empty order (Unit {0})))
      ∙ or_none (list_any p texts)
