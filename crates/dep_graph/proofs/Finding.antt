-- A node more among the found ones, and its mark; and all marks taken away.
use Rattle.std.proofs.Common.{◌≡◌, ℕ, ◌<◌, Bool, true, false, List, [], ◌∷◌, ◌++◌, length, get_or, set, replicate, refl, ap, sym, subst, ◌∙◌, arith, inl, inr, ◌⊎◌}
use Rattle.std.specs.Prelude.{◌==◌, ◌||◌, ◌&&◌, not}
use Rattle.std.specs.List.{All, IsDistinct}
use Rattle.std.specs.Cmp.{nat_eq_equiv}
use Rattle.std.proofs.lemmas.Bool.{ne_eqb, eq-eqb, cases_eq}
use Rattle.std.proofs.lemmas.List.{length-set, get_or-set_same, get_or-set_other, get_or-replicate, length-replicate}
use Rattle.std.proofs.lemmas.List.Elements.{All-push, All-nil}
use Rattle.std.proofs.lemmas.Map.Keys.{IsDistinct-push}
use Rattle.dep_graph.specs.Graphs.{has}
use Rattle.dep_graph.specs.Found.{IsFound, unmarked}
use Rattle.dep_graph.proofs.Members.{has-append}

none_more : (a b : Bool) → b ≡ false → a ≡ (a || (b || false))
none_more true b e = refl
none_more false b e = sym (ap (λ x. x || false) e)

one_more : (a b : Bool) → b ≡ true → (a || (b || false)) ≡ true
one_more true b e = refl
one_more false b e = ap (λ x. x || false) e

mark : (marks : List Bool) (nodes : List ℕ) (n m : ℕ) → n < length marks → get_or marks m false ≡ has nodes m → (m ≡ n) ⊎ (m ≡ n → ⊥)
    → get_or (set marks n true) m false ≡ has (nodes ++ n ∷ []) m
mark marks nodes n m l e (inl same) =
    ap (λ x. get_or (set marks n true) x false) same ∙ get_or-set_same marks n true false l
    ∙ sym (has-append nodes (n ∷ []) m ∙ one_more (has nodes m) (m == n) (eq-eqb m n same))
mark marks nodes n m l e (inr apart) =
    get_or-set_other marks n m true false apart ∙ e ∙ none_more (has nodes m) (m == n) (ne_eqb m n apart) ∙ sym (has-append nodes (n ∷ []) m)

pub found_more : (marks : List Bool) (nodes : List ℕ) (n : ℕ) → n < length marks → get_or marks n false ≡ false → IsFound marks nodes → IsFound (set marks n true) (nodes ++ n ∷ [])
found_more marks nodes n l new f = record {
  once = IsDistinct-push nat_eq_equiv nodes n f.once (sym (f.marked n l) ∙ new);
  below = subst (λ size. All (λ m. m < size) (nodes ++ n ∷ [])) (sym (length-set marks n true)) (All-push (λ m. m < length marks) nodes n f.below l);
  marked = λ m h. mark marks nodes n m l (f.marked m (subst (λ size. m < size) (length-set marks n true) h)) (cases_eq m n);
}

pub none_found : (count : ℕ) (marks : List Bool) (nodes : List ℕ) → marks ≡ replicate count false → nodes ≡ [] → IsFound marks nodes
unfolding IsDistinct
none_found count marks nodes e n = subst (λ xs. IsFound marks xs) (sym n) (record {
  once = tt;
  below = All-nil (λ m. m < length marks);
  marked = λ m h. ap (λ l. get_or l m false) e ∙ get_or-replicate count m false false (let size : length marks ≡ count = ap length e ∙ length-replicate count false in omega arith);
})

-- marks that are taken away
pub length-unmarked : (marks : List Bool) (nodes : List ℕ) → length (unmarked marks nodes) ≡ length marks
length-unmarked marks [] = refl
length-unmarked marks (n ∷ nodes) = length-unmarked (set marks n false) nodes ∙ length-set marks n false

never : (b : Bool) → (b && false) ≡ false
never true = refl
never false = refl

unmark_case : (marks : List Bool) (nodes : List ℕ) (n m : ℕ) → m < length marks → (m ≡ n) ⊎ (m ≡ n → ⊥)
    → (not (has nodes m) && get_or (set marks n false) m false) ≡ (not (has (n ∷ nodes) m) && get_or marks m false)
unmark_case marks nodes n m l (inl same) =
    ap (λ b. not (has nodes m) && b) (ap (λ x. get_or (set marks x false) m false) (sym same) ∙ get_or-set_same marks m false false l)
    ∙ never (not (has nodes m)) ∙ sym (ap (λ b. not (b || has nodes m) && get_or marks m false) (eq-eqb m n same))
unmark_case marks nodes n m l (inr apart) =
    ap (λ b. not (has nodes m) && b) (get_or-set_other marks n m false false apart)
    ∙ sym (ap (λ b. not (b || has nodes m) && get_or marks m false) (ne_eqb m n apart))

get_or-unmarked : (marks : List Bool) (nodes : List ℕ) (m : ℕ) → m < length marks → get_or (unmarked marks nodes) m false ≡ (not (has nodes m) && get_or marks m false)
get_or-unmarked marks [] m l = refl
get_or-unmarked marks (n ∷ nodes) m l =
    get_or-unmarked (set marks n false) nodes m (let size : length (set marks n false) ≡ length marks = length-set marks n false in omega arith)
    ∙ unmark_case marks nodes n m l (cases_eq m n)

not_both : (b : Bool) → (not b && b) ≡ false
not_both true = refl
not_both false = refl

pub none_marked : (marks : List Bool) (nodes : List ℕ) → IsFound marks nodes → IsFound (unmarked marks nodes) []
unfolding IsDistinct
none_marked marks nodes f = record {
  once = tt;
  below = All-nil (λ m. m < length (unmarked marks nodes));
  marked = λ m h.
      let l : m < length marks = (let size : length (unmarked marks nodes) ≡ length marks = length-unmarked marks nodes in omega arith) in
      get_or-unmarked marks nodes m l ∙ ap (λ b. not (has nodes m) && b) (f.marked m l) ∙ not_both (has nodes m);
}
