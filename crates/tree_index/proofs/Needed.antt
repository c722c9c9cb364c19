-- The numbers of needed nodes as a set that grows, and their order.
use Rattle.std.proofs.Common.{◌≡◌, ℕ, ◌+◌, ◌<◌, ◌≤◌, Bool, true, false, List, [], ◌∷◌, refl, ap, sym, ◌∙◌, length, get_or, take, cond, subst, arith, zero, suc}
use Rattle.std.specs.Prelude.{Option, Some, None, filter, ◌==◌, ◌||◌, ◌&&◌}
use Rattle.std.specs.declared.cmp.Ordering.TheVariants.{Less, Equal, Greater}
use Rattle.std.specs.Ordering.{nat_cmp, match_ordering}
use Rattle.std.specs.Cmp.{nat_cmp_is}
use Rattle.std.specs.List.{AllByRecursion, list_any, range_with_len}
use Rattle.std.specs.List.Sorted.{IsStrictlySortedBy}
use Rattle.std.specs.BTreeSet.{insert_key}
use Rattle.std.proofs.lemmas.Bool.{eq-eqb}
use Rattle.std.proofs.lemmas.Bool.Decides.{nat_tests}
use Rattle.std.proofs.lemmas.List.Folds.{list_any_more}
use Rattle.bulk_model.specs.Facts.{kind_number}
use Rattle.bulk_model.specs.declared.depend.DepKind.{DepKind}
use Rattle.tree_index.specs.declared.node.At.{At}
use Rattle.tree_index.specs.declared.node.At.TheVariants.{Node, Nowhere, Moved}
use Rattle.tree_index.specs.declared.node.Target.{Target}
use Rattle.tree_index.specs.Facts.{IsAtWithin, AreWithin}
use Rattle.tree_index.specs.Depends.{leads_to, is_number, is_needed, with_number, numbers_of}
use Rattle.tree_index.proofs.Lists.{all_at}

module _ (p : ℕ → Bool) where
  -- the numbers of a range that pass a test
  abbrev pub passing : ℕ → ℕ → List ℕ
  passing a len = filter p (range_with_len a len)

  -- what holds of all of a range holds of those that pass
  pub all_passing : (P : ℕ → Type 0) (a len : ℕ) → ((n : ℕ) → a ≤ n → n < a + len → P n) → AllByRecursion P (passing a len)
  all_passing P a zero each = tt
  all_passing P a (suc len) each =
      let rest = all_passing P (a + 1) len (λ n low high. each n (omega arith) (omega arith)) in
      elim (p a) as (λ b. AllByRecursion P (cond b (a ∷ passing (a + 1) len) (passing (a + 1) len))) [ true ↦ (each a (omega arith) (omega arith), rest) | false ↦ rest ]

  pub passing_ascend : (a len : ℕ) → IsStrictlySortedBy nat_cmp (passing a len)
  unfolding IsStrictlySortedBy
  passing_ascend a zero = tt
  passing_ascend a (suc len) =
      let rest = passing_ascend (a + 1) len in
      elim (p a) as (λ b. IsStrictlySortedBy nat_cmp (cond b (a ∷ passing (a + 1) len) (passing (a + 1) len))) [
        | true ↦ (all_passing (λ n. nat_cmp a n ≡ Less) (a + 1) len (λ n low high. sym (nat_cmp_is a n Less (let l : a < n = omega arith in l))), rest)
        | false ↦ rest
      ]

-- a number that is put before all others
before_all : (k : ℕ) (ks : List ℕ) → AllByRecursion (λ n. k < n) ks → insert_key nat_cmp ks k ≡ k ∷ ks
before_all k [] h = refl
before_all k (n ∷ ks) h = ap (λ o. match_ordering o (k ∷ n ∷ ks) (n ∷ ks) (n ∷ insert_key nat_cmp ks k)) (sym (nat_cmp_is k n Less h.0))

put_here : (k : ℕ) (here : Bool) (rest : List ℕ) → AllByRecursion (λ n. k < n) rest → insert_key nat_cmp (cond here (k ∷ rest) rest) k ≡ k ∷ rest
put_here k true rest h = ap (λ o. match_ordering o (k ∷ k ∷ rest) (k ∷ rest) (k ∷ insert_key nat_cmp rest k)) (sym (nat_cmp_is k k Equal refl))
put_here k false rest h = before_all k rest h

put_later : (k a : ℕ) (here : Bool) (rest : List ℕ) → a < k → insert_key nat_cmp (cond here (a ∷ rest) rest) k ≡ cond here (a ∷ insert_key nat_cmp rest k) (insert_key nat_cmp rest k)
put_later k a true rest l = ap (λ o. match_ordering o (k ∷ a ∷ rest) (a ∷ rest) (a ∷ insert_key nat_cmp rest k)) (sym (nat_cmp_is k a Greater l))
put_later k a false rest l = refl

module _ (p : ℕ → Bool) (k : ℕ) where
  -- the test, and the number that is put
  abbrev or_put : ℕ → Bool
  or_put n = (n == k) || p n

  others_alike : (a len : ℕ) → k < a → passing p a len ≡ passing or_put a len
  others_alike a zero l = refl
  others_alike a (suc len) l =
      let apart : (a == k) ≡ false = grind (arith, nat_tests) in
      (λ i. cond (sym apart i || p a) (a ∷ others_alike (a + 1) len (omega arith) i) (others_alike (a + 1) len (omega arith) i))

  put_step : (a len : ℕ) → a ≤ k → (a + 1 ≤ k → insert_key nat_cmp (passing p (a + 1) len) k ≡ passing or_put (a + 1) len) → (t : Bool) → (a == k) ≡ t
      → insert_key nat_cmp (passing p a (suc len)) k ≡ passing or_put a (suc len)
  put_step a len low next true e =
      let same : a ≡ k = grind (arith, nat_tests) in
      ap (λ x. insert_key nat_cmp (cond (p a) (x ∷ passing p (a + 1) len) (passing p (a + 1) len)) k) same
      ∙ put_here k (p a) (passing p (a + 1) len) (all_passing p (λ n. k < n) (a + 1) len (λ n lower _. omega arith))
      ∙ (λ i. sym same i ∷ others_alike (a + 1) len (omega arith) i)
      ∙ ap (λ t. cond (t || p a) (a ∷ passing or_put (a + 1) len) (passing or_put (a + 1) len)) (sym e)
  put_step a len low next false e =
      let less : a < k = grind (arith, nat_tests) in
      put_later k a (p a) (passing p (a + 1) len) less
      ∙ ap (λ rest. cond (p a) (a ∷ rest) rest) (next (omega arith))
      ∙ ap (λ t. cond (t || p a) (a ∷ passing or_put (a + 1) len) (passing or_put (a + 1) len)) (sym e)

  -- a number that is put into those of a range that pass a test
  pub put_in : (a len : ℕ) → a ≤ k → k < a + len → insert_key nat_cmp (passing p a len) k ≡ passing or_put a len
  put_in a zero low high = absurd (omega arith)
  put_in a (suc len) low high = put_step a len low (λ l. put_in (a + 1) len l (omega arith)) (a == k) refl

-- the numbers that the first targets need
abbrev needed_by : ℕ → List Target → DepKind → ℕ → List ℕ
needed_by count targets kind i = numbers_of count (take i targets) kind

-- the set has what the first targets need, of so many nodes as all targets stand within
abbrev pub NeededSoFar : List Target → DepKind → ℕ → List ℕ → Type 0
NeededSoFar targets kind i keys = (count : ℕ) → AreWithin count targets → keys ≡ needed_by count targets kind i

none_pass : (a len : ℕ) → [] ≡ filter (λ n. false) (range_with_len a len)
none_pass a zero = refl
none_pass a (suc len) = none_pass (a + 1) len

pub none_needed : (targets : List Target) (kind : DepKind) (keys : List ℕ) → keys ≡ [] → NeededSoFar targets kind 0 keys
none_needed targets kind keys e = λ count within. e ∙ none_pass 0 count

or_swapped : (a b : Bool) → (a || b) ≡ (b || a)
or_swapped true true = refl
or_swapped true false = refl
or_swapped false true = refl
or_swapped false false = refl

or_false : (a : Bool) → (a || false) ≡ a
or_false true = refl
or_false false = refl

second_part : (a b : Bool) → (a && b) ≡ true → b ≡ true
second_part true b h = h
second_part false b h = cc

led_within : (count k : ℕ) (at : At) → leads_to k at ≡ true → IsAtWithin count at → k < count
led_within count k (Node m) e w = grind (arith, nat_tests)
led_within count k (Nowhere name) e w = cc
led_within count k (Moved old new) e w = cc

-- one target more, which needs a node
one_needed : (targets : List Target) (kind : DepKind) (i k : ℕ) (target : Target) (keys longer : List ℕ) → i < length targets → target ≡ get_or targets i target
    → ((n : ℕ) → is_needed kind n target ≡ (n == k)) → longer ≡ insert_key nat_cmp keys k → NeededSoFar targets kind i keys → NeededSoFar targets kind (i + 1) longer
one_needed targets kind i k target keys longer l e needs put so_far = λ count all.
    let first : ℕ → Bool = λ n. list_any (is_needed kind n) (take i targets) in
    let leads : leads_to k target.at ≡ true = second_part (kind_number target.kind == kind_number kind) (leads_to k target.at) (needs k ∙ eq-eqb k k refl) in
    let within : IsAtWithin count target.at = subst (λ (t : Target). IsAtWithin count t.at) (sym e) (all_at (λ (t : Target). IsAtWithin count t.at) targets i target all l) in
    let low : 0 ≤ k = omega arith in
    let high : k < 0 + count = (let h = led_within count k target.at leads within in omega arith) in
    put ∙ ap (λ ks. insert_key nat_cmp ks k) (so_far count all) ∙ put_in first k 0 count low high
    ∙ (λ j. filter (λ n. (ap (λ b. b || first n) (sym (needs n) ∙ ap (is_needed kind n) e) ∙ or_swapped (is_needed kind n (get_or targets i target)) (first n) ∙ sym (list_any_more (is_needed kind n) targets i target l)) j)
    (range_with_len 0 count))

-- one target more, which needs none
none_more : (targets : List Target) (kind : DepKind) (i : ℕ) (target : Target) (keys : List ℕ) → i < length targets → target ≡ get_or targets i target
    → ((n : ℕ) → is_needed kind n target ≡ false) → NeededSoFar targets kind i keys → NeededSoFar targets kind (i + 1) keys
none_more targets kind i target keys l e needs so_far = λ count all.
    let first : ℕ → Bool = λ n. list_any (is_needed kind n) (take i targets) in
    so_far count all
    ∙ (λ j. filter (λ n. (sym (or_false (first n)) ∙ ap (λ b. first n || b) (sym (needs n) ∙ ap (is_needed kind n) e) ∙ sym (list_any_more (is_needed kind n) targets i target l)) j) (range_with_len 0 count))

-- one target more
pub more_needed : (targets : List Target) (kind : DepKind) (i : ℕ) (target : Target) (number : Option ℕ) (keys longer : List ℕ) → i < length targets → target ≡ get_or targets i target
    → ((n : ℕ) → is_needed kind n target ≡ is_number n number) → longer ≡ with_number keys number → NeededSoFar targets kind i keys → NeededSoFar targets kind (i + 1) longer
more_needed targets kind i target None keys longer l e needs put so_far = λ count all. put ∙ none_more targets kind i target keys l e needs so_far count all
more_needed targets kind i target (Some k) keys longer l e needs put so_far = one_needed targets kind i k target keys longer l e needs put so_far
