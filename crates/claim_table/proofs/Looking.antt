-- What a seat knows after looks.
use Rattle.std.proofs.Common.{◌≡◌, ℕ, zero, suc, ◌+◌, ◌<◌, ◌≤◌, ◌==◌, Bool, true, false, List, [], ◌∷◌, map, length, take, get_or, refl, sym, ap, ◌∙◌, ⊎_elim, eq-eqb, take_all, arith}
use Rattle.std.specs.List.{list_all, list_any}
use Rattle.std.proofs.lemmas.Bool.{or_cases, or_left, or_right, and_from, and_parts}
use Rattle.std.proofs.lemmas.List.Folds.{list_all_more, list_all-map}
use Rattle.bulk_model.specs.declared.plan.Edge.{Edge}
use Rattle.bulk_model.specs.declared.plan.Kept.{Kept as KeptPackages}
use Rattle.bulk_model.specs.Results.{is_kept}
use Rattle.claim_table.specs.declared.word.Word.{Word}
use Rattle.claim_table.specs.declared.view.View.{View}
use Rattle.claim_table.specs.Words.{is_good, is_bad}
use Rattle.claim_table.specs.Seats.{is_known, KnowsMore}
use Rattle.bulk_model.specs.Installs.{has}
use Rattle.claim_table.specs.Changes.{put_if, after_look}

put-more : (b : Bool) (n k : ℕ) (ns : List ℕ) → has ns k ≡ true → has (put_if b n ns) k ≡ true
put-more true n k ns e = or_right (n == k) (has ns k) e
put-more false n k ns e = e

put-in : (b : Bool) (n : ℕ) (ns : List ℕ) → b ≡ true → has (put_if b n ns) n ≡ true
put-in true n ns e = or_left (n == n) (has ns n) (eq-eqb n n refl)
put-in false n ns e = cc

-- a look forgets nothing, and a good word is known from then on
pub looked-more : (n : ℕ) (word : Word) (v : View) → KnowsMore v (after_look n word v)
looked-more n word v k e = put-more (is_good word) n k v.built e

pub looked-good : (kept : KeptPackages) (n : ℕ) (word : Word) (v : View) → is_good word ≡ true → is_known kept (after_look n word v) n ≡ true
looked-good kept n word v e = or_right (is_kept kept n) (has (put_if (is_good word) n v.built) n) (put-in (is_good word) n v.built e)

edges-more : (f g : Edge → Bool) → ((e : Edge) → f e ≡ true → g e ≡ true) → (es : List Edge) → list_all f es ≡ true → list_all g es ≡ true
edges-more f g more [] e = refl
edges-more f g more (x ∷ xs) e = let p = and_parts (f x) (list_all f xs) e in and_from (g x) (list_all g xs) (more x p.0) (edges-more f g more xs p.1)

-- one more target that is known
pub known-more : (kept : KeptPackages) (old new : View) (edges : List Edge) (i : ℕ) (d : Edge) → i < length edges → KnowsMore old new
    → list_all (λ e. is_known kept old e.to) (take i edges) ≡ true → is_known kept new (get_or edges i d).to ≡ true → list_all (λ e. is_known kept new e.to) (take (i + 1) edges) ≡ true
known-more kept old new edges i d inside more all next =
    let f : Edge → Bool = λ (e : Edge). is_known kept old e.to in
    let g : Edge → Bool = λ (e : Edge). is_known kept new e.to in
    let each : (e : Edge) → f e ≡ true → g e ≡ true = λ (e : Edge) h. ⊎_elim (λ k. or_left (is_kept kept e.to) (has new.built e.to) k) (λ b. or_right (is_kept kept e.to) (has new.built e.to) (more e.to b)) (or_cases (is_kept kept e.to) (has old.built e.to) h) in
    list_all_more g edges i d inside ∙ and_from (list_all g (take i edges)) (g (get_or edges i d)) (edges-more f g each (take i edges) all) next

pub all-known : (kept : KeptPackages) (v : View) (edges : List Edge) (i : ℕ) → length edges ≤ i → list_all (λ e. is_known kept v e.to) (take i edges) ≡ true → list_all (is_known kept v) (map (λ e. e.to) edges) ≡ true
all-known kept v edges i over all = list_all-map (is_known kept v) (λ (e : Edge). e.to) edges ∙ sym (ap (list_all (λ (e : Edge). is_known kept v e.to)) (take_all i edges over)) ∙ all

-- a target that is known as bad
pub bad-known : (ns : List ℕ) (edges : List Edge) (i : ℕ) (d : Edge) → i < length edges → has ns (get_or edges i d).to ≡ true → list_any (has ns) (map (λ e. e.to) edges) ≡ true
bad-known ns [] i d inside e = absurd (omega arith)
bad-known ns (x ∷ xs) zero d inside e = or_left (has ns x.to) (list_any (has ns) (map (λ y. y.to) xs)) e
bad-known ns (x ∷ xs) (suc i) d inside e = or_right (has ns x.to) (list_any (has ns) (map (λ y. y.to) xs)) (bad-known ns xs i d (omega arith) e)

pub looked-bad : (n : ℕ) (word : Word) (v : View) → is_bad word ≡ true → has (after_look n word v).bad n ≡ true
looked-bad n word v e = put-in (is_bad word) n v.bad e
