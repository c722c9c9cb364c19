-- The recipes of the nodes so far.
use Rattle.std.proofs.Common.{◌≡◌, ◌∙◌, ℕ, ◌+◌, ◌<◌, Bool, true, List, [], ◌∷◌, ◌++◌, ap, sym, subst, length, get_or, map, inl, inr, arith, length-append}
use Rattle.std.specs.Prelude.{Option, None, is_some}
use Rattle.std.specs.List.{range_with_len}
use Rattle.std.proofs.lemmas.Bool.{cases_lt}
use Rattle.std.proofs.lemmas.List.{get_or_append_left}
use Rattle.std.proofs.lemmas.List.FromFn.{map-range_with_len_more}
use Rattle.std.proofs.Math.Seq.{get_or-append_seam}
use Rattle.bulk_model.specs.declared.digest.Digest.{Digest}
use Rattle.dep_graph.specs.Graphs.{has}
use Rattle.tree_index.specs.Index.{IndexView}
use Rattle.plan_maker.specs.Recipes.{MayHaveRecipe}

abbrev AreAsked : IndexView → List ℕ → ℕ → List (Option Digest) → Type 0
AreAsked index nodes n digests = (k : ℕ) → k < n → is_some (get_or digests k None) ≡ true → MayHaveRecipe index (has nodes k) k

pub asked_more : (index : IndexView) (nodes : List ℕ) (n : ℕ) (before now : List (Option Digest)) (found : Option Digest) (asked : Bool) → length before ≡ n → now ≡ before ++ found ∷ []
    → asked ≡ has nodes n → (is_some found ≡ true → MayHaveRecipe index asked n) → AreAsked index nodes n before → AreAsked index nodes (n + 1) now
asked_more index nodes n before now found asked size e a may so_far k l h =
    elim (cases_lt k n) [
      | inl less ↦ so_far k less (ap is_some (sym (get_or_append_left before (found ∷ []) None k (omega arith))) ∙ sym (ap (λ ds. is_some (get_or ds k None)) e) ∙ h)
      | inr more ↦
          let same : k ≡ n = omega arith in
          let last : get_or now k None ≡ found = ap (λ ds. get_or ds k None) e ∙ ap (λ i. get_or (before ++ found ∷ []) i None) (same ∙ sym size) ∙ get_or-append_seam before found [] None in
          subst (λ i. MayHaveRecipe index (has nodes i) i) (sym same) (subst (λ b. MayHaveRecipe index b n) a (may (ap is_some (sym last) ∙ h)))
    ]

pub map_range_more : {Y : Type 0} (f : ℕ → Y) (n : ℕ) (before now : List Y) (y : Y) → before ≡ map f (range_with_len 0 n) → y ≡ f n → now ≡ before ++ y ∷ [] → now ≡ map f (range_with_len 0 (n + 1))
map_range_more f n before now y b e w = w ∙ (λ t. b t ++ e t ∷ []) ∙ sym (map-range_with_len_more f 0 n n (omega arith))

pub one_longer : (before now : List (Option Digest)) (found : Option Digest) (n : ℕ) → length before ≡ n → now ≡ before ++ found ∷ [] → length now ≡ n + 1
one_longer before now found n size e = omega (arith, ap length e, length-append before (found ∷ []))
