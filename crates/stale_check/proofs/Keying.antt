-- The places of the first of some with each name.
use Rattle.std.proofs.Common.{◌≡◌, ℕ, ◌+◌, ◌<◌, ◌≤◌, Bool, List, [], ◌∷◌, ◌++◌, length, take, get_or, arith, ◌∙◌, ap, sym, cond, nat_lt, eqb}
use Rattle.std.specs.Prelude.{Option, Some, None, IfSome, position, bytes_eq}
use Rattle.std.specs.Option.{option_or}
use Rattle.std.specs.List.{position_or_len}
use Rattle.std.specs.Ordering.{nat_cmp}
use Rattle.std.specs.Cmp.Lexicographic.{slice_cmp}
use Rattle.std.specs.FinMap as map
use Rattle.std.proofs.lemmas.List.{length-append, length-take, take_more}
use Rattle.std.proofs.lemmas.List.Folds.{position_or_len_push}
use Rattle.std.proofs.lemmas.List.Quantifiers.{position-Some}
use Rattle.std.proofs.lemmas.List.Sums.{prefix_len-le-length}
use Rattle.std.proofs.lemmas.Slice.Eq.{bytes_eq-Decides}
use Rattle.std.proofs.lemmas.Bool.Decides.{nat_tests}
use Rattle.tree_index.specs.Numbers.{Numbers, Gains}
use Rattle.stale_check.specs.Placing.{AreKeyed}

push_case : (n size m : ℕ) (t : Bool) → n ≤ size → m ≡ cond (eqb n size) (size + cond t 0 1) n
    → cond (nat_lt m (size + 1)) (Some m) None ≡ option_or (cond (nat_lt n size) (Some n) None) (cond t (Some size) None)
push_case n size m t h e = grind (arith, nat_tests)

-- the first place at which a test passes, in a list with an element more
position_push : {X : Type 0} (p : X → Bool) (xs : List X) (y : X) → position p (xs ++ y ∷ []) ≡ option_or (position p xs) (cond (p y) (Some (length xs)) None)
position_push p xs y =
    ap (λ size. cond (nat_lt (position_or_len p (xs ++ y ∷ [])) size) (Some (position_or_len p (xs ++ y ∷ []))) None) (length-append xs (y ∷ []))
    ∙ push_case (position_or_len p xs) (length xs) (position_or_len p (xs ++ y ∷ [])) (p y) (prefix_len-le-length _ xs) (position_or_len_push p xs y)

module _ {X : Type 0} (key : X → List ℕ) where
  pub keyed_none : (numbers : Numbers) → numbers ≡ map.empty → AreKeyed key [] numbers
  keyed_none numbers e = λ name. ap (λ m. map.get m name) e ∙ map.get-empty (slice_cmp nat_cmp) name

  -- one more of them, whose name gains its place where it had none
  pub keyed_at : (xs : List X) (at : ℕ) (d : X) (own : List ℕ) (old new : Numbers) → at < length xs → own ≡ key (get_or xs at d)
      → AreKeyed key (take at xs) old → Gains old (λ name. bytes_eq name own) at new → AreKeyed key (take (at + 1) xs) new
  keyed_at xs at d own old new within is so_far gains = λ name.
      let size : at ≡ length (take at xs) = omega (arith, length-take at xs) in
      gains name
      ∙ ap (λ o. option_or o (cond (bytes_eq name own) (Some at) None)) (so_far name)
      ∙ ap (λ k. option_or (position (λ x. bytes_eq name (key x)) (take at xs)) (cond (bytes_eq name k) (Some at) None)) is
      ∙ ap (λ n. option_or (position (λ x. bytes_eq name (key x)) (take at xs)) (cond (bytes_eq name (key (get_or xs at d))) (Some n) None)) size
      ∙ sym (position_push (λ x. bytes_eq name (key x)) (take at xs) (get_or xs at d))
      ∙ ap (position (λ x. bytes_eq name (key x))) (sym (take_more xs at d within))

  -- what stands at a name's place has the name
  pub keyed_is : (xs : List X) (numbers : Numbers) (d : X) → AreKeyed key xs numbers → (name : List ℕ) (n : ℕ) → map.get numbers name ≡ Some n
      → (n < length xs) × (name ≡ key (get_or xs n d))
  keyed_is xs numbers d all name n e =
      let p = position-Some (λ x. bytes_eq name (key x)) xs n d (sym (all name) ∙ e) in
      (p.0, (bytes_eq-Decides name (key (get_or xs n d))).0 p.1)

  pub keyed_within : (xs : List X) (numbers : Numbers) (d : X) → AreKeyed key xs numbers → (name : List ℕ) (found : Option ℕ) → found ≡ map.get numbers name
      → IfSome found (λ n. n < length xs)
  keyed_within xs numbers d all name None e = tt
  keyed_within xs numbers d all name (Some n) e = (keyed_is xs numbers d all name n (sym e)).0
