-- What nodes are after more of them were added.
use Rattle.std.proofs.Common.{◌≡◌, ℕ, ◌<◌, ◌≤◌, Bool, true, false, List, [], ◌∷◌, ◌++◌, length, get_or, refl, ap, sym, ◌∙◌, arith, cond, inl, inr, ◌⊎◌}
use Rattle.std.specs.Prelude.{◌==◌, ◌||◌}
use Rattle.std.proofs.lemmas.Bool.{cases_lt, eq-eqb, eqb-true}
use Rattle.std.proofs.lemmas.List.{length_push, get_or_append_left, get_or_push}
use Rattle.dep_graph.specs.Graphs.{has}
use Rattle.dep_graph.specs.Found.{with_node, with_nodes}
use Rattle.dep_graph.proofs.Members.{has-append}

pub record Extends (nodes more after : List ℕ) : Type 0 where
  pub longer : length nodes ≤ length after
  pub same : (i : ℕ) → i < length nodes → get_or after i 0 ≡ get_or nodes i 0
  pub fresh : (i : ℕ) → length nodes ≤ i → i < length after → has more (get_or after i 0) ≡ true
  pub holds : (n : ℕ) → has after n ≡ (has nodes n || has more n)

or_none : (b : Bool) → b ≡ (b || false)
or_none true = refl
or_none false = refl

or_assoc : (a b c d : Bool) → d ≡ (a || (b || false)) → (d || c) ≡ (a || (b || c))
or_assoc true b c d e = ap (λ x. x || c) e
or_assoc false true c d e = ap (λ x. x || c) e
or_assoc false false c d e = ap (λ x. x || c) e

abbrev added : Bool → List ℕ → ℕ → List ℕ
added b nodes n = cond b nodes (nodes ++ n ∷ [])

or_true : (b : Bool) → true ≡ (b || true)
or_true true = refl
or_true false = refl

has_added : (nodes : List ℕ) (n m : ℕ) (b : Bool) → has nodes n ≡ b → (same : Bool) → (m == n) ≡ same → has (added b nodes n) m ≡ (has nodes m || (same || false))
has_added nodes n m true e true s = ap (has nodes) (eqb-true m n s) ∙ e ∙ or_true (has nodes m)
has_added nodes n m true e false s = or_none (has nodes m)
has_added nodes n m false e same s = has-append nodes (n ∷ []) m ∙ ap (λ x. has nodes m || (x || false)) s

length_added : (nodes : List ℕ) (n : ℕ) (b : Bool) → length nodes ≤ length (added b nodes n)
length_added nodes n true = omega arith
length_added nodes n false = omega (arith, length_push nodes n)

same_added : (nodes : List ℕ) (n i : ℕ) (b : Bool) → i < length nodes → get_or (added b nodes n) i 0 ≡ get_or nodes i 0
same_added nodes n i true l = refl
same_added nodes n i false l = get_or_append_left nodes (n ∷ []) 0 i l

fresh_added : (nodes : List ℕ) (n i : ℕ) (b : Bool) → length nodes ≤ i → i < length (added b nodes n) → get_or (added b nodes n) i 0 ≡ n
fresh_added nodes n i true h l = absurd (omega arith)
fresh_added nodes n i false h l = get_or_push nodes n 0 i (omega (arith, length_push nodes n))

later_case : (nodes more middle after : List ℕ) (x i : ℕ) → ((m : ℕ) → length nodes ≤ m → m < length middle → get_or middle m 0 ≡ x) → Extends middle more after
    → length nodes ≤ i → i < length after → (i < length middle) ⊎ (length middle ≤ i) → has (x ∷ more) (get_or after i 0) ≡ true
later_case nodes more middle after x i only e h l (inl early) =
    let is : get_or after i 0 ≡ x = e.same i early ∙ only i h early in
    ap (λ b. b || has more (get_or after i 0)) (eq-eqb (get_or after i 0) x is)
later_case nodes more middle after x i only e h l (inr late) = ap (λ b. (get_or after i 0 == x) || b) (e.fresh i late l) ∙ sym (or_true (get_or after i 0 == x))

pub extended : (nodes more : List ℕ) → Extends nodes more (with_nodes nodes more)
extended nodes [] = record { longer = omega arith; same = λ i l. refl; fresh = λ i l h. absurd (omega arith); holds = λ n. or_none (has nodes n) }
extended nodes (x ∷ more) =
    let rest : Extends (with_node nodes x) more (with_nodes (with_node nodes x) more) = extended (with_node nodes x) more in
    let first : length nodes ≤ length (with_node nodes x) = length_added nodes x (has nodes x) in
    let second : length (with_node nodes x) ≤ length (with_nodes (with_node nodes x) more) = rest.longer in
    record {
      longer = omega arith;
      same = λ i l. rest.same i (omega arith) ∙ same_added nodes x i (has nodes x) l;
      fresh = λ i h l. later_case nodes more (with_node nodes x) (with_nodes (with_node nodes x) more) x i (λ m a b. fresh_added nodes x m (has nodes x) a b) rest h l (cases_lt i (length (with_node nodes x)));
      holds = λ n. rest.holds n ∙ or_assoc (has nodes n) (n == x) (has more n) (has (with_node nodes x) n) (has_added nodes x n (has nodes x) refl (n == x) refl);
    }
