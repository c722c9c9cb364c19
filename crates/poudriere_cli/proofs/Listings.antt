-- Lists that rise, and paths below paths.
use Rattle.std.proofs.Common.{◌≡◌, ◌↔◌, ℕ, ◌+◌, Bool, true, false, not, List, [], ◌∷◌, length, get_or, IsTrue, arith, sym, ap, refl, ◌∙◌}
use Rattle.std.specs.Prelude.{◌&&◌, ◌||◌}
use Rattle.std.specs.declared.cmp.Ordering.{Ordering}
use Rattle.std.specs.declared.cmp.Ordering.TheVariants.{Less, Equal, Greater}
use Rattle.std.specs.Ordering.{is_lt}
use Rattle.std.specs.Cmp.{IsTotalOrder}
use Rattle.std.specs.FinMap.{keys}
use Rattle.std.specs.List.{IsAllAdjacentAnswer, AllAdjacentBelow, list_all, list_any}
use Rattle.std.specs.List.Sorted.{IsStrictlySortedBy}
use Rattle.std.proofs.lemmas.Map.Keys.{sorted_from_all_adjacent, Less-from_sorted}
use Rattle.bulk_base.specs.Order.{TextSet, set_of}
use Rattle.bulk_base.specs.Path.{is_below}
use Rattle.bulk_base.proofs.InOrder.{list_any-set_of}

is_lt-Less : (o : Ordering) → true ≡ is_lt o → o ≡ Less
is_lt-Less Less e = refl
is_lt-Less Equal e = cc
is_lt-Less Greater e = cc

rising : {K : Type 0} {R : K → K → Ordering} (o : IsTotalOrder R) (xs : List K) → AllAdjacentBelow (λ x y. true ≡ is_lt (R x y)) xs (length xs) → IsStrictlySortedBy R xs
unfolding IsStrictlySortedBy
rising o [] h = tt
rising o (x ∷ xs) h = sorted_from_all_adjacent o (x ∷ xs) x (λ k l. is_lt-Less _ (h k x l))

-- each element is below the next just where each is below all those after it
pub rises : {K : Type 0} {R : K → K → Ordering} (o : IsTotalOrder R) (xs : List K) (r : Bool) → IsAllAdjacentAnswer (λ x y b. b ≡ is_lt (R x y)) xs r → IsTrue r ↔ IsStrictlySortedBy R xs
rises o xs true a = (λ e. rising o xs a, λ s. refl)
rises o [] false a = let no : ⊥ = omega arith in absurd no
rises {R = R} o (x ∷ xs) false a =
    (λ e. cc, λ s. let less : R (get_or (x ∷ xs) a.0 x) (get_or (x ∷ xs) (a.0 + 1) x) ≡ Less = Less-from_sorted R (x ∷ xs) a.0 (a.0 + 1) x s (omega arith) a.1 in let no = a.2 x in cc)

abbrev pub has_none_below : List (List ℕ) → List ℕ → Bool
has_none_below paths folder = list_all (λ path. not (is_below folder path)) paths

none_below : (folder : List ℕ) (paths : List (List ℕ)) → has_none_below paths folder ≡ not (list_any (is_below folder) paths)
none_below folder [] = refl
none_below folder (path ∷ paths) = elim (is_below folder path) as (λ b. (not b && has_none_below paths folder) ≡ not (b || list_any (is_below folder) paths)) [
  | true ↦ refl
  | false ↦ none_below folder paths
]

-- what a search in the set of the paths tells
pub told_below : (folder : List ℕ) (paths : List (List ℕ)) (set : TextSet) (found : Bool) → set ≡ set_of paths → found ≡ list_any (is_below folder) (keys set) → has_none_below paths folder ≡ not found
told_below folder paths set found all told =
    none_below folder paths ∙ ap not (sym (list_any-set_of (is_below folder) paths) ∙ ap (λ s. list_any (is_below folder) (keys s)) (sym all) ∙ sym told)
