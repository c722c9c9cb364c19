-- Marks that are put one after another.
use Rattle.std.proofs.Common.{◌≡◌, ◌≢◌, ◌∙◌, ℕ, ◌+◌, ◌<◌, ◌≤◌, Bool, true, false, List, ap, sym, refl, length, get_or, map, cond, replicate, zero, suc, inl, inr, arith, length-set}
use Rattle.std.proofs.lemmas.Bool.{cases_lt}
use Rattle.std.proofs.lemmas.List.{get_or-set_same, get_or-set_other, ext_get_or, length-map, get_or-map, length-replicate}
use Rattle.std.proofs.Math.ListN.{set}
use Rattle.bulk_model.specs.Flags.{flag}

abbrev marked : List Bool → ℕ → Bool → List Bool
marked marks at holds = cond holds (set marks at true) marks

size_marked : (marks : List Bool) (at : ℕ) (holds : Bool) → length (marked marks at holds) ≡ length marks
size_marked marks at true = length-set marks at true
size_marked marks at false = refl

here : (marks : List Bool) (at : ℕ) (holds : Bool) → at < length marks → get_or marks at false ≡ false → get_or (marked marks at holds) at false ≡ holds
here marks at true l e = get_or-set_same marks at true false l
here marks at false l e = e

elsewhere : (marks : List Bool) (at k : ℕ) (holds : Bool) → k ≢ at → get_or (marked marks at holds) k false ≡ get_or marks k false
elsewhere marks at k true n = get_or-set_other marks at k true false n
elsewhere marks at k false n = refl

pub record AreMarked (f : ℕ → Bool) (nodes : List ℕ) (at : ℕ) (marks : List Bool) : Type 0 where
  pub size : length marks ≡ length nodes
  pub done : (k : ℕ) → k < at → flag marks k ≡ f (get_or nodes k 0)
  pub rest : (k : ℕ) → at ≤ k → flag marks k ≡ false

pub marked_more : (f : ℕ → Bool) (nodes : List ℕ) (at : ℕ) (before now : List Bool) (holds : Bool) → at < length nodes → now ≡ marked before at holds → holds ≡ f (get_or nodes at 0)
    → AreMarked f nodes at before → AreMarked f nodes (at + 1) now
marked_more f nodes at before now holds l e h m = record {
  size = ap length e ∙ size_marked before at holds ∙ m.size;
  done = λ k less. elim (cases_lt k at) [
    | inl below ↦ ap (λ ms. get_or ms k false) e ∙ elsewhere before at k holds (omega arith) ∙ m.done k below
    | inr above ↦
        let same : k ≡ at = omega arith in
        ap (λ ms. get_or ms k false) e ∙ ap (λ i. get_or (marked before at holds) i false) same ∙ here before at holds (let size = m.size in omega arith) (m.rest at (omega arith)) ∙ h ∙ ap (λ i. f (get_or nodes i 0)) (sym same)
  ];
  rest = λ k beyond. ap (λ ms. get_or ms k false) e ∙ elsewhere before at k holds (omega arith) ∙ m.rest k (omega arith);
}

pub marked_all : (f : ℕ → Bool) (nodes : List ℕ) (at : ℕ) (marks : List Bool) → length nodes ≤ at → AreMarked f nodes at marks → marks ≡ map f nodes
marked_all f nodes at marks l m =
    ext_get_or false marks (map f nodes) (m.size ∙ sym (length-map nodes f)) (λ k less. m.done k (let size = m.size in omega arith) ∙ sym (get_or-map f nodes k 0 false (let size = m.size in omega arith)))

no_mark : (n k : ℕ) → get_or (replicate n false) k false ≡ false
no_mark zero k = refl
no_mark (suc n) zero = refl
no_mark (suc n) (suc k) = no_mark n k

pub none_marked : (f : ℕ → Bool) (nodes : List ℕ) (marks : List Bool) → marks ≡ replicate (length nodes) false → AreMarked f nodes 0 marks
none_marked f nodes marks e = record {
  size = ap length e ∙ length-replicate (length nodes) false;
  done = λ k less. absurd (omega arith);
  rest = λ k beyond. ap (λ ms. get_or ms k false) e ∙ no_mark (length nodes) k;
}
