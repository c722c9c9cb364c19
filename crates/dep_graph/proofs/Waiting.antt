-- A node more in the order: what the waiting nodes' counts are then.
use Rattle.std.proofs.Common.{◌≡◌, ℕ, ◌+◌, ◌-◌, ◌<◌, ◌≤◌, Bool, true, false, List, [], ◌∷◌, ◌++◌, length, get_or, set, take, refl, ap, sym, subst, ◌∙◌, arith, cond, nat_eq, inl, inr, ◌⊎◌}
use Rattle.std.specs.Prelude.{◌==◌, ◌||◌, not}
use Rattle.std.specs.List.{All, IsDistinct}
use Rattle.std.specs.Cmp.{nat_eq_equiv}
use Rattle.std.proofs.lemmas.Bool.{eq-eqb, eqb-true, eqb-false, ne_eqb, cases_eq, cases_lt, both_ways}
use Rattle.std.proofs.lemmas.List.{length-set, get_or-set_same, get_or-set_other, length_push, get_or_append_left, get_or_push, take-append-le, take_at, take_all, take_more, length-take-le, get_or-take}
use Rattle.std.proofs.lemmas.List.Elements.{All-push}
use Rattle.std.proofs.lemmas.List.Sums.{sum_by-cons}
use Rattle.std.proofs.lemmas.Map.Keys.{IsDistinct-push, apart_from_distinct}
use Rattle.bulk_model.specs.declared.plan.Edge.{Edge}
use Rattle.dep_graph.specs.Graphs.{has, times, depends_at}
use Rattle.dep_graph.specs.Waiting.{count_outside, IsWaiting}
use Rattle.dep_graph.proofs.Members.{Place, place_of, has_from_place, has-append, all_from_has}

pub or_none : (b : Bool) → (b || (false || false)) ≡ b
or_none true = refl
or_none false = refl

pub or_one : (b : Bool) → (b || (true || false)) ≡ true
or_one true = refl
or_one false = refl

zero_more : (n : ℕ) → 0 + n ≡ n
zero_more n = omega arith

-- what a longer order has
pub has_pushed : (order : List ℕ) (n m : ℕ) (same : Bool) → (n == m) ≡ same → has (order ++ m ∷ []) n ≡ (has order n || (same || false))
has_pushed order n m same e = has-append order (m ∷ []) n ∙ ap (λ b. has order n || (b || false)) e

or_true : (b : Bool) → (b || true) ≡ true
or_true true = refl
or_true false = refl

not_not : (b : Bool) → not b ≡ false → b ≡ true
not_not true e = refl
not_not false e = absurd (both_ways true e refl)

first_case : (first : ℕ) (order : List ℕ) (n : ℕ) → has (take first order) n ≡ true → (first < length order) ⊎ (length order ≤ first) → has order n ≡ true
first_case first order n h (inl l) =
    let place : Place (take first order) n = place_of (take first order) n h in
    let size : length (take first order) ≡ first = length-take-le first order (omega arith) in
    let before : place.at < first = (let w : place.at < length (take first order) = place.within in omega arith) in
    has_from_place order n place.at (omega arith) (sym (get_or-take first order place.at 0 before) ∙ place.is)
first_case first order n h (inr all) = ap (λ l. has l n) (sym (take_all first order all)) ∙ h

pub has_first : (first : ℕ) (order : List ℕ) (n : ℕ) → has (take first order) n ≡ true → has order n ≡ true
has_first first order n h = first_case first order n h (cases_lt first (length order))

abbrev pub one_if : Bool → ℕ
one_if b = cond b 1 0

pub count_outside-cons : (list numbers : List ℕ) (x : ℕ) → count_outside list (x ∷ numbers) ≡ one_if (not (has list x)) + count_outside list numbers
count_outside-cons list numbers x = sum_by-cons (λ y. cond (not (has list y)) 1 0) x numbers

pub times-cons : (numbers : List ℕ) (x n : ℕ) → times (x ∷ numbers) n ≡ one_if (n == x) + times numbers n
times-cons numbers x n = sum_by-cons (λ y. cond (n == y) 1 0) x numbers

none_case : (list numbers : List ℕ) (x n : ℕ) → ((m : ℕ) → has numbers m ≡ true → has list m ≡ true) → (outside : Bool) → not (has list x) ≡ outside → outside ≡ false
    → (same : Bool) → (n == x) ≡ same → (same || has numbers n) ≡ true → has list n ≡ true
none_case list numbers x n rest outside o e true s h = ap (has list) (eqb-true n x s) ∙ not_not (has list x) (o ∙ e)
none_case list numbers x n rest outside o e false s h = rest n h

zero_first : (b : Bool) (n : ℕ) → one_if b + n ≡ 0 → (b ≡ false) × (n ≡ 0)
zero_first true n e = absurd (omega arith)
zero_first false n e = (refl, omega arith)

none_outside : (list numbers : List ℕ) → count_outside list numbers ≡ 0 → (n : ℕ) → has numbers n ≡ true → has list n ≡ true
none_outside list [] e n h = absurd (both_ways false refl h)
none_outside list (x ∷ numbers) e n h =
    let parts : (not (has list x) ≡ false) × (count_outside list numbers ≡ 0) = zero_first (not (has list x)) (count_outside list numbers) (sym (count_outside-cons list numbers x) ∙ e) in
    none_case list numbers x n (none_outside list numbers parts.1) (not (has list x)) refl parts.0 (n == x) refl h

-- some outside
pub record Outside (list numbers : List ℕ) : Type 0 where
  pub at : ℕ
  pub member : has numbers at ≡ true
  pub out : has list at ≡ false

some_case : (list numbers : List ℕ) (x : ℕ) → (0 < count_outside list numbers → Outside list numbers) → (b : Bool) → has list x ≡ b → 0 < one_if (not b) + count_outside list numbers → Outside list (x ∷ numbers)
some_case list numbers x rest true e l =
    let more : Outside list numbers = rest (let z : 0 < 0 + count_outside list numbers = l in omega arith) in
    record { at = more.at; member = ap (λ b. (more.at == x) || b) more.member ∙ or_true (more.at == x); out = more.out }
some_case list numbers x rest false e l = record { at = x; member = ap (λ b. b || has numbers x) (eq-eqb x x refl); out = e }

pub some_outside : (list numbers : List ℕ) → 0 < count_outside list numbers → Outside list numbers
some_outside list [] l = absurd (omega arith)
some_outside list (x ∷ numbers) l = some_case list numbers x (some_outside list numbers) (has list x) refl (subst (λ t. 0 < t) (count_outside-cons list numbers x) l)

-- a node that ends the first part of the order
step_case : (list numbers : List ℕ) (x y : ℕ) → has list x ≡ false → (rest : count_outside list numbers ≡ count_outside (list ++ x ∷ []) numbers + times numbers x)
    → (same : Bool) → (x == y) ≡ same → one_if (not (has list y)) + count_outside list numbers ≡ one_if (not (has (list ++ x ∷ []) y)) + count_outside (list ++ x ∷ []) numbers + (one_if same + times numbers x)
step_case list numbers x y new rest true s =
    let before : has list y ≡ false = ap (has list) (sym (eqb-true x y s)) ∙ new in
    let now : has (list ++ x ∷ []) y ≡ true = has_pushed list y x true (eq-eqb y x (sym (eqb-true x y s))) ∙ or_one (has list y) in
    ap (λ b. one_if (not b) + count_outside list numbers) before ∙ (let e : 1 + count_outside list numbers ≡ 0 + count_outside (list ++ x ∷ []) numbers + (1 + times numbers x) = omega arith in e)
    ∙ sym (ap (λ b. one_if (not b) + count_outside (list ++ x ∷ []) numbers + (1 + times numbers x)) now)
step_case list numbers x y new rest false s =
    let now : has (list ++ x ∷ []) y ≡ has list y = has_pushed list y x false (ne_eqb y x (λ e. eqb-false x y s (sym e))) ∙ or_none (has list y) in
    (let e : one_if (not (has list y)) + count_outside list numbers ≡ one_if (not (has list y)) + count_outside (list ++ x ∷ []) numbers + (0 + times numbers x) = omega arith in e)
    ∙ sym (ap (λ b. one_if (not b) + count_outside (list ++ x ∷ []) numbers + (0 + times numbers x)) now)

outside_step : (list numbers : List ℕ) (x : ℕ) → has list x ≡ false → count_outside list numbers ≡ count_outside (list ++ x ∷ []) numbers + times numbers x
outside_step list [] x new = refl
outside_step list (y ∷ numbers) x new =
    count_outside-cons list numbers y ∙ step_case list numbers x y new (outside_step list numbers x new) (x == y) refl
    ∙ sym (ap (λ t. t + times (y ∷ numbers) x) (count_outside-cons (list ++ x ∷ []) numbers y)
    ∙ ap (λ t. one_if (not (has (list ++ x ∷ []) y)) + count_outside (list ++ x ∷ []) numbers + t) (times-cons numbers y x))

-- a node stands once in an order
before_case : (order : List ℕ) (at : ℕ) → IsDistinct nat_eq order → at < length order → (b : Bool) → has (take at order) (get_or order at 0) ≡ b → b ≡ false
before_case order at once l false e = refl
before_case order at once l true e =
    let place : Place (take at order) (get_or order at 0) = place_of (take at order) (get_or order at 0) e in
    let size : length (take at order) ≡ at = length-take-le at order (omega arith) in
    let before : place.at < at = (let w : place.at < length (take at order) = place.within in omega arith) in
    absurd (both_ways (get_or order place.at 0 == get_or order at 0) (apart_from_distinct nat_eq order place.at at 0 once before l)
    (eq-eqb (get_or order place.at 0) (get_or order at 0) (sym (get_or-take at order place.at 0 before) ∙ place.is)))

pub not_before : (order : List ℕ) (at : ℕ) → IsDistinct nat_eq order → at < length order → has (take at order) (get_or order at 0) ≡ false
not_before order at once l = before_case order at once l (has (take at order) (get_or order at 0)) refl

module _ (graph : List (List Edge)) where
  -- the first part of the order grows by a node
  pub take_up : (at : ℕ) (left order users : List ℕ) → at < length order → ((n : ℕ) → n < length graph → times users n ≡ times (depends_at graph n) (get_or order at 0))
      → IsWaiting graph at [] left order → IsWaiting graph (at + 1) users left order
  take_up at left order users l e w = record {
    size = w.size;
    within = omega arith;
    counts = λ n h.
        w.counts n h ∙ (let z : count_outside (take at order) (depends_at graph n) + 0 ≡ count_outside (take at order) (depends_at graph n) = omega arith in z)
        ∙ outside_step (take at order) (depends_at graph n) (get_or order at 0) (not_before order at w.in_order.once l)
        ∙ ap (λ t. count_outside (take at order ++ get_or order at 0 ∷ []) (depends_at graph n) + t) (sym (e n h))
        ∙ ap (λ list. count_outside list (depends_at graph n) + times users n) (sym (take_more order at 0 l));
    ordered = w.ordered;
    in_order = w.in_order;
  }

  -- a dependency of a waiting node less
  count_case : (at m n : ℕ) (rest left order : List ℕ) → m < length graph → n < length graph → IsWaiting graph at (m ∷ rest) left order → (n ≡ m) ⊎ (n ≡ m → ⊥)
      → get_or (set left m (get_or left m 0 - 1)) n 0 ≡ count_outside (take at order) (depends_at graph n) + times rest n
  count_case at m n rest left order b l w (inl same) =
      let one : one_if (n == m) ≡ 1 = ap one_if (eq-eqb n m same) in
      let was : get_or left n 0 ≡ count_outside (take at order) (depends_at graph n) + (1 + times rest n) =
      w.counts n l ∙ ap (λ t. count_outside (take at order) (depends_at graph n) + t) (times-cons rest m n ∙ ap (λ t. t + times rest n) one) in
      let here : m < length left = (let size : length left ≡ length graph = w.size in omega arith) in
      ap (λ x. get_or (set left m (get_or left m 0 - 1)) x 0) same ∙ get_or-set_same left m (get_or left m 0 - 1) 0 here ∙ ap (λ x. get_or left x 0 - 1) (sym same)
      ∙ (omega arith)
  count_case at m n rest left order b l w (inr apart) =
      let none : one_if (n == m) ≡ 0 = ap one_if (ne_eqb n m apart) in
      get_or-set_other left m n (get_or left m 0 - 1) 0 apart ∙ w.counts n l
      ∙ ap (λ t. count_outside (take at order) (depends_at graph n) + t) (times-cons rest m n ∙ ap (λ t. t + times rest n) none ∙ zero_more (times rest n))

  waits : (at m : ℕ) (rest left order : List ℕ) → m < length graph → IsWaiting graph at (m ∷ rest) left order → 0 < get_or left m 0
  waits at m rest left order b w =
      let one : one_if (m == m) ≡ 1 = ap one_if (eq-eqb m m refl) in
      let e : get_or left m 0 ≡ count_outside (take at order) (depends_at graph m) + (1 + times rest m) =
      w.counts m b ∙ ap (λ t. count_outside (take at order) (depends_at graph m) + t) (times-cons rest m m ∙ ap (λ t. t + times rest m) one) in
      omega arith

  new_node : (at m : ℕ) (rest left order : List ℕ) → m < length graph → IsWaiting graph at (m ∷ rest) left order → has order m ≡ false
  new_node at m rest left order b w =
      w.ordered m b ∙ ne_eqb (get_or left m 0) 0 (λ e. let some : 0 < get_or left m 0 = waits at m rest left order b w in omega arith)

  still_case : (at m n : ℕ) (rest left order : List ℕ) → m < length graph → n < length graph → (get_or left m 0 ≡ 1 → ⊥) → IsWaiting graph at (m ∷ rest) left order → (n ≡ m) ⊎ (n ≡ m → ⊥)
      → has order n ≡ (get_or (set left m (get_or left m 0 - 1)) n 0 == 0)
  still_case at m n rest left order b l more w (inl same) =
      let here : m < length left = (let size : length left ≡ length graph = w.size in omega arith) in
      let now : get_or (set left m (get_or left m 0 - 1)) n 0 ≡ get_or left m 0 - 1 = ap (λ x. get_or (set left m (get_or left m 0 - 1)) x 0) same ∙ get_or-set_same left m (get_or left m 0 - 1) 0 here in
      let some : 0 < get_or left m 0 = waits at m rest left order b w in
      ap (has order) same ∙ new_node at m rest left order b w ∙ sym (ne_eqb (get_or (set left m (get_or left m 0 - 1)) n 0) 0 (λ e. more (omega arith)))
  still_case at m n rest left order b l more w (inr apart) =
      w.ordered n l ∙ ap (λ t. t == 0) (sym (get_or-set_other left m n (get_or left m 0 - 1) 0 apart))

  over_case : (at m n : ℕ) (rest left order : List ℕ) → m < length graph → n < length graph → get_or left m 0 ≡ 1 → IsWaiting graph at (m ∷ rest) left order → (n ≡ m) ⊎ (n ≡ m → ⊥)
      → has (order ++ m ∷ []) n ≡ (get_or (set left m (get_or left m 0 - 1)) n 0 == 0)
  over_case at m n rest left order b l last w (inl same) =
      let here : m < length left = (let size : length left ≡ length graph = w.size in omega arith) in
      let now : get_or (set left m (get_or left m 0 - 1)) n 0 ≡ get_or left m 0 - 1 = ap (λ x. get_or (set left m (get_or left m 0 - 1)) x 0) same ∙ get_or-set_same left m (get_or left m 0 - 1) 0 here in
      has_pushed order n m true (eq-eqb n m same) ∙ or_one (has order n) ∙ sym (eq-eqb (get_or (set left m (get_or left m 0 - 1)) n 0) 0 (omega arith))
  over_case at m n rest left order b l last w (inr apart) =
      has_pushed order n m false (ne_eqb n m apart) ∙ or_none (has order n) ∙ w.ordered n l ∙ ap (λ t. t == 0) (sym (get_or-set_other left m n (get_or left m 0 - 1) 0 apart))

  behind_case : (at m place : ℕ) (rest left order : List ℕ) → m < length graph → get_or left m 0 ≡ 1 → IsWaiting graph at (m ∷ rest) left order → place < length (order ++ m ∷ [])
      → (place < length order) ⊎ (length order ≤ place) → All (λ d. has (take place (order ++ m ∷ [])) d ≡ true) (depends_at graph (get_or (order ++ m ∷ []) place 0))
  behind_case at m place rest left order b last w l (inl before) =
      subst (λ list. All (λ d. has list d ≡ true) (depends_at graph (get_or (order ++ m ∷ []) place 0))) (sym (take-append-le place order (m ∷ []) (omega arith)))
      (subst (λ n. All (λ d. has (take place order) d ≡ true) (depends_at graph n)) (sym (get_or_append_left order (m ∷ []) 0 place before)) (w.in_order.behind place before))
  behind_case at m place rest left order b last w l (inr past) =
      let here : length order ≡ place = omega (arith, length_push order m) in
      let one : one_if (m == m) ≡ 1 = ap one_if (eq-eqb m m refl) in
      let e : get_or left m 0 ≡ count_outside (take at order) (depends_at graph m) + (1 + times rest m) =
      w.counts m b ∙ ap (λ t. count_outside (take at order) (depends_at graph m) + t) (times-cons rest m m ∙ ap (λ t. t + times rest m) one) in
      let none : count_outside (take at order) (depends_at graph m) ≡ 0 = omega arith in
      subst (λ list. All (λ d. has list d ≡ true) (depends_at graph (get_or (order ++ m ∷ []) place 0))) (sym (take_at order (m ∷ []) place here))
      (subst (λ n. All (λ d. has order d ≡ true) (depends_at graph n)) (sym (get_or_push order m 0 place here))
      (all_from_has (λ d. has order d ≡ true) (depends_at graph m) (λ d h. has_first at order d (none_outside (take at order) (depends_at graph m) none d h))))

  -- the node waits for more
  pub wait_on : (at m : ℕ) (rest left order : List ℕ) → m < length graph → (get_or left m 0 ≡ 1 → ⊥) → IsWaiting graph at (m ∷ rest) left order
      → IsWaiting graph at rest (set left m (get_or left m 0 - 1)) order
  wait_on at m rest left order b more w = record {
    size = length-set left m (get_or left m 0 - 1) ∙ w.size;
    within = w.within;
    counts = λ n l. count_case at m n rest left order b l w (cases_eq n m);
    ordered = λ n l. still_case at m n rest left order b l more w (cases_eq n m);
    in_order = w.in_order;
  }

  -- the node waited for nothing else, and ends the order
  pub wait_over : (at m : ℕ) (rest left order : List ℕ) → m < length graph → get_or left m 0 ≡ 1 → IsWaiting graph at (m ∷ rest) left order
      → IsWaiting graph at rest (set left m (get_or left m 0 - 1)) (order ++ m ∷ [])
  wait_over at m rest left order b last w = record {
    size = length-set left m (get_or left m 0 - 1) ∙ w.size;
    within = (let inside : at ≤ length order = w.within in omega (arith, length_push order m));
    counts = λ n l. count_case at m n rest left order b l w (cases_eq n m) ∙ ap (λ list. count_outside list (depends_at graph n) + times rest n) (sym (take-append-le at order (m ∷ []) w.within));
    ordered = λ n l. over_case at m n rest left order b l last w (cases_eq n m);
    in_order = record {
      nodes = All-push (λ n. n < length graph) order m w.in_order.nodes b;
      once = IsDistinct-push nat_eq_equiv order m w.in_order.once (new_node at m rest left order b w);
      behind = λ place l. behind_case at m place rest left order b last w l (cases_lt place (length order));
    };
  }

  close_case : (at m : ℕ) (rest left order : List ℕ) → m < length graph → IsWaiting graph at (m ∷ rest) left order → (b : Bool) → (get_or left m 0 == 1) ≡ b
      → IsWaiting graph at rest (set left m (get_or left m 0 - 1)) (cond b (order ++ m ∷ []) order)
  close_case at m rest left order l w true e = wait_over at m rest left order l (eqb-true (get_or left m 0) 1 e) w
  close_case at m rest left order l w false e = wait_on at m rest left order l (eqb-false (get_or left m 0) 1 e) w

  pub waits_less : (at m : ℕ) (rest left order less longer : List ℕ) → m < length left → less ≡ set left m (get_or left m 0 - 1) → longer ≡ cond (get_or left m 0 == 1) (order ++ m ∷ []) order
      → IsWaiting graph at (m ∷ rest) left order → IsWaiting graph at rest less longer
  waits_less at m rest left order less longer l e o w =
      subst (λ x. IsWaiting graph at rest x longer) (sym e) (subst (λ x. IsWaiting graph at rest (set left m (get_or left m 0 - 1)) x) (sym o)
      (close_case at m rest left order (let size : length left ≡ length graph = w.size in omega arith) w (get_or left m 0 == 1) refl))

fits_case : (rest left : List ℕ) (m n : ℕ) → m < length left → times (m ∷ rest) n ≤ get_or left n 0 → (n ≡ m) ⊎ (n ≡ m → ⊥) → times rest n ≤ get_or (set left m (get_or left m 0 - 1)) n 0
fits_case rest left m n l h (inl same) =
    let one : times (m ∷ rest) n ≡ 1 + times rest n = times-cons rest m n ∙ ap (λ b. one_if b + times rest n) (eq-eqb n m same) in
    let now : get_or (set left m (get_or left m 0 - 1)) n 0 ≡ get_or left n 0 - 1 =
    ap (λ x. get_or (set left m (get_or left m 0 - 1)) x 0) same ∙ get_or-set_same left m (get_or left m 0 - 1) 0 l ∙ ap (λ x. get_or left x 0 - 1) (sym same) in
    omega arith
fits_case rest left m n l h (inr apart) =
    let none : times (m ∷ rest) n ≡ 0 + times rest n = times-cons rest m n ∙ ap (λ b. one_if b + times rest n) (ne_eqb n m apart) in
    let now : get_or (set left m (get_or left m 0 - 1)) n 0 ≡ get_or left n 0 = get_or-set_other left m n (get_or left m 0 - 1) 0 apart in
    omega arith

pub fits_less : (rest left less : List ℕ) (m n : ℕ) → m < length left → less ≡ set left m (get_or left m 0 - 1) → times (m ∷ rest) n ≤ get_or left n 0 → times rest n ≤ get_or less n 0
fits_less rest left less m n l e h = subst (λ x. times rest n ≤ get_or x n 0) (sym e) (fits_case rest left m n l h (cases_eq n m))

pub waits_some : (rest left : List ℕ) (m : ℕ) → times (m ∷ rest) m ≤ get_or left m 0 → 0 < get_or left m 0
waits_some rest left m h =
    let one : times (m ∷ rest) m ≡ 1 + times rest m = times-cons rest m m ∙ ap (λ b. one_if b + times rest m) (eq-eqb m m refl) in
    omega arith
