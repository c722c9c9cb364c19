-- Turned edges are counted as the edges are.
use Rattle.std.proofs.Common.{◌≡◌, ◌≢◌, ℕ, zero, suc, ◌+◌, ◌<◌, ◌≤◌, Bool, true, false, List, [], ◌∷◌, length, refl, ap, sym, subst, ◌∙◌, arith, cond, inl, inr, ◌⊎◌}
use Rattle.std.specs.Prelude.{◌==◌, ◌&&◌, filter, map, nat_lt}
use Rattle.std.specs.List.{flat_map, range_with_len, count_by, sum_by}
use Rattle.std.proofs.lemmas.Bool.{eq-eqb, ne_eqb, lt-ltb, le-ltb, cases_lt, cases_eq}
use Rattle.std.proofs.lemmas.List.{map-append}
use Rattle.std.proofs.lemmas.List.FromFn.{get_or-map-range_with_len}
use Rattle.std.proofs.lemmas.List.Sums.{sum_by-append, sum_by-cons, sum_by_push}
use Rattle.bulk_model.specs.declared.depend.DepKind.{DepKind}
use Rattle.bulk_model.specs.declared.depend.DepKind.TheVariants.{Pkg, Fetch, Extract, Patch, Build, Lib, Run}
use Rattle.bulk_model.specs.declared.plan.Edge.{Edge}
use Rattle.bulk_model.specs.Facts.{kind_number}
use Rattle.dep_graph.specs.Graphs.{times, edges_at, targets, depends_at, nodes_of}
use Rattle.dep_graph.specs.Turned.{is_edge_to, turned_of_kind, turned_from, dependents_at, dependents, IsTurned}
use Rattle.dep_graph.proofs.Members.{range_more}
use Rattle.dep_graph.proofs.Waiting.{one_if, times-cons}
use Rattle.dep_graph.proofs.Installing.{eq_turned}

zero_more : (n : ℕ) → 0 + n ≡ n
zero_more n = omega arith

-- over joined lists
times-flat_map : (f : ℕ → List Edge) (xs : List ℕ) (n : ℕ) → times (targets (flat_map f xs)) n ≡ sum_by (λ x. times (targets (f x)) n) xs
times-flat_map f [] n = refl
times-flat_map f (x ∷ xs) n =
    ap (λ l. times l n) (map-append (λ (e : Edge). e.to) (f x) (flat_map f xs))
    ∙ sum_by-append (λ y. cond (n == y) 1 0) (targets (f x)) (targets (flat_map f xs))
    ∙ ap (λ t. times (targets (f x)) n + t) (times-flat_map f xs n)
    ∙ sym (sum_by-cons (λ x. times (targets (f x)) n) x xs)

abbrev pub if_same : Bool → ℕ → ℕ
if_same b n = cond b n 0

same_sum : (b : Bool) (m n : ℕ) → if_same b m + if_same b n ≡ if_same b (m + n)
same_sum true m n = refl
same_sum false m n = refl

sum_agree : (f g : ℕ → ℕ) (xs : List ℕ) → ((x : ℕ) → f x ≡ g x) → sum_by f xs ≡ sum_by g xs
sum_agree f g [] e = refl
sum_agree f g (x ∷ xs) e = sum_by-cons f x xs ∙ ap (λ t. t + sum_by f xs) (e x) ∙ ap (λ t. g x + t) (sum_agree f g xs e) ∙ sym (sum_by-cons g x xs)

if_sum : (b : Bool) (f : ℕ → ℕ) (xs : List ℕ) → sum_by (λ x. if_same b (f x)) xs ≡ if_same b (sum_by f xs)
if_sum true f xs = refl
if_sum false f [] = refl
if_sum false f (x ∷ xs) = sum_by-cons (λ x. 0) x xs ∙ zero_more (sum_by (λ x. 0) xs) ∙ if_sum false f xs

none_same : (b : Bool) → 0 ≡ if_same b 0
none_same true = refl
none_same false = refl

-- the edges of one kind from n to d
times_kept : (n kind d m : ℕ) (edge : Edge) (edges : List Edge) (b : Bool) → times (targets (turned_of_kind n kind d edges)) m ≡ if_same (m == n) (count_by (is_edge_to kind d) edges)
    → times (targets (map (λ (e : Edge). let t : Edge = record { kind = e.kind; to = n } in t) (cond b (edge ∷ filter (is_edge_to kind d) edges) (filter (is_edge_to kind d) edges)))) m
    ≡ if_same (m == n) (one_if b + count_by (is_edge_to kind d) edges)
times_kept n kind d m edge edges true h =
    times-cons (targets (turned_of_kind n kind d edges)) n m ∙ ap (λ t. one_if (m == n) + t) h ∙ same_sum (m == n) 1 (count_by (is_edge_to kind d) edges)
times_kept n kind d m edge edges false h = h ∙ ap (if_same (m == n)) (sym (zero_more (count_by (is_edge_to kind d) edges)))

times_of_kind : (n kind d m : ℕ) (edges : List Edge) → times (targets (turned_of_kind n kind d edges)) m ≡ if_same (m == n) (count_by (is_edge_to kind d) edges)
times_of_kind n kind d m [] = none_same (m == n)
times_of_kind n kind d m (edge ∷ edges) =
    times_kept n kind d m edge edges (is_edge_to kind d edge) (times_of_kind n kind d m edges)
    ∙ ap (if_same (m == n)) (sym (sum_by-cons (λ (e : Edge). cond (is_edge_to kind d e) 1 0) edge edges))

-- each edge has one kind
one_kind : (kind : DepKind) (t : Bool) → sum_by (λ k. cond ((kind_number kind == k) && t) 1 0) (range_with_len 0 7) ≡ one_if t
one_kind Pkg true = refl
one_kind Pkg false = refl
one_kind Fetch true = refl
one_kind Fetch false = refl
one_kind Extract true = refl
one_kind Extract false = refl
one_kind Patch true = refl
one_kind Patch false = refl
one_kind Build true = refl
one_kind Build false = refl
one_kind Lib true = refl
one_kind Lib false = refl
one_kind Run true = refl
one_kind Run false = refl

sum_both : (f g : ℕ → ℕ) (xs : List ℕ) → sum_by (λ x. f x + g x) xs ≡ sum_by f xs + sum_by g xs
sum_both f g [] = refl
sum_both f g (x ∷ xs) =
    sum_by-cons (λ x. f x + g x) x xs ∙ ap (λ t. f x + g x + t) (sum_both f g xs)
    ∙ (let e : f x + g x + (sum_by f xs + sum_by g xs) ≡ (f x + sum_by f xs) + (g x + sum_by g xs) = omega arith in e)
    ∙ sym (ap (λ t. t + sum_by g (x ∷ xs)) (sum_by-cons f x xs) ∙ ap (λ t. f x + sum_by f xs + t) (sum_by-cons g x xs))

all_kinds : (d : ℕ) (edges : List Edge) → sum_by (λ kind. count_by (is_edge_to kind d) edges) (range_with_len 0 7) ≡ times (targets edges) d
all_kinds d [] = refl
all_kinds d (edge ∷ edges) =
    sum_agree (λ kind. count_by (is_edge_to kind d) (edge ∷ edges)) (λ kind. one_if (is_edge_to kind d edge) + count_by (is_edge_to kind d) edges) (range_with_len 0 7)
    (λ kind. sum_by-cons (λ (e : Edge). cond (is_edge_to kind d e) 1 0) edge edges)
    ∙ sum_both (λ kind. one_if (is_edge_to kind d edge)) (λ kind. count_by (is_edge_to kind d) edges) (range_with_len 0 7)
    ∙ ap (λ t. t + sum_by (λ kind. count_by (is_edge_to kind d) edges) (range_with_len 0 7)) (one_kind edge.kind (edge.to == d) ∙ ap one_if (eq_turned edge.to d))
    ∙ ap (λ t. one_if (d == edge.to) + t) (all_kinds d edges)
    ∙ sym (times-cons (targets edges) edge.to d)

times_from : (n d m : ℕ) (edges : List Edge) → times (targets (turned_from n d edges)) m ≡ if_same (m == n) (times (targets edges) d)
times_from n d m edges =
    times-flat_map (λ kind. turned_of_kind n kind d edges) (range_with_len 0 7) m
    ∙ sum_agree (λ kind. times (targets (turned_of_kind n kind d edges)) m) (λ kind. if_same (m == n) (count_by (is_edge_to kind d) edges)) (range_with_len 0 7) (λ kind. times_of_kind n kind d m edges)
    ∙ if_sum (m == n) (λ kind. count_by (is_edge_to kind d) edges) (range_with_len 0 7)
    ∙ ap (if_same (m == n)) (all_kinds d edges)

-- one of the numbers below a bound
single_case : (g : ℕ → ℕ) (m count : ℕ) → (m ≡ count) ⊎ (m ≡ count → ⊥) → (m < count) ⊎ (count ≤ m)
    → if_same (nat_lt m count) (g m) + if_same (m == count) (g count) ≡ if_same (nat_lt m (count + 1)) (g m)
single_case g m count (inl same) before =
    ap (λ b. if_same b (g m) + if_same (m == count) (g count)) (le-ltb m count (omega arith))
    ∙ ap (λ b. 0 + if_same b (g count)) (eq-eqb m count same) ∙ zero_more (g count) ∙ ap g (sym same)
    ∙ sym (ap (λ b. if_same b (g m)) (lt-ltb m (count + 1) (omega arith)))
single_case g m count (inr apart) (inl before) =
    ap (λ b. if_same b (g m) + if_same (m == count) (g count)) (lt-ltb m count before)
    ∙ ap (λ b. g m + if_same b (g count)) (ne_eqb m count apart) ∙ (let e : g m + 0 ≡ g m = omega arith in e)
    ∙ sym (ap (λ b. if_same b (g m)) (lt-ltb m (count + 1) (omega arith)))
single_case g m count (inr apart) (inr past) =
    let out : count + 1 ≤ m = (let ne : m ≢ count = apart in omega arith) in
    ap (λ b. if_same b (g m) + if_same (m == count) (g count)) (le-ltb m count past)
    ∙ ap (λ b. 0 + if_same b (g count)) (ne_eqb m count apart)
    ∙ sym (ap (λ b. if_same b (g m)) (le-ltb m (count + 1) out))

single_step : (g : ℕ → ℕ) (m count : ℕ) → sum_by (λ n. if_same (m == n) (g n)) (range_with_len 0 count) ≡ if_same (nat_lt m count) (g m)
    → sum_by (λ n. if_same (m == n) (g n)) (range_with_len 0 (count + 1)) ≡ if_same (nat_lt m (count + 1)) (g m)
single_step g m count h =
    ap (sum_by (λ n. if_same (m == n) (g n))) (range_more count) ∙ sum_by_push (λ n. if_same (m == n) (g n)) (range_with_len 0 count) count
    ∙ ap (λ t. t + if_same (m == count) (g count)) h ∙ single_case g m count (cases_eq m count) (cases_lt m count)

single : (g : ℕ → ℕ) (m count : ℕ) → sum_by (λ n. if_same (m == n) (g n)) (range_with_len 0 count) ≡ if_same (nat_lt m count) (g m)
single g m zero = sym (ap (λ b. if_same b (g m)) (le-ltb m 0 (omega arith)))
single g m (suc count) =
    let e : suc count ≡ count + 1 = omega arith in
    subst (λ c. sum_by (λ n. if_same (m == n) (g n)) (range_with_len 0 c) ≡ if_same (nat_lt m c) (g m)) (sym e) (single_step g m count (single g m count))

times_dependents : (graph : List (List Edge)) (d m : ℕ) → m < length graph → times (targets (dependents_at graph d)) m ≡ times (depends_at graph m) d
times_dependents graph d m l =
    times-flat_map (λ n. turned_from n d (edges_at graph n)) (nodes_of graph) m
    ∙ sum_agree (λ n. times (targets (turned_from n d (edges_at graph n))) m) (λ n. if_same (m == n) (times (depends_at graph n) d)) (nodes_of graph) (λ n. times_from n d m (edges_at graph n))
    ∙ single (λ n. times (depends_at graph n) d) m (length graph)
    ∙ ap (λ b. if_same b (times (depends_at graph m) d)) (lt-ltb m (length graph) l)

-- the law of dependents
pub is_turned : (graph : List (List Edge)) → IsTurned graph (dependents graph)
is_turned graph n d a b =
    ap (λ edges. times (targets edges) n) (get_or-map-range_with_len (dependents_at graph) 0 (length graph) d d [] b (zero_more d)) ∙ times_dependents graph d n a
