-- What holds of every order, of the longest chains and of what is installed.
use Rattle.std.proofs.Common.{◌≡◌, ℕ, zero, suc, ◌<◌, ◌≤◌, Bool, true, false, List, [], ◌∷◌, length, get_or, take, refl, ap, sym, subst, ◌∙◌, arith, cond, inl, inr, ◌⊎◌}
use Rattle.std.specs.Prelude.{◌==◌, ◌||◌, ◌&&◌, filter}
use Rattle.std.specs.List.{list_all, range_with_len, All}
use Rattle.std.proofs.lemmas.Bool.{and_parts, and_from, or_right, cases_lt}
use Rattle.std.proofs.lemmas.List.{get_or-take, take_all, length-take-le, take-take}
use Rattle.bulk_model.specs.declared.plan.Edge.{Edge}
use Rattle.bulk_model.specs.PlanView.{PlanView, nodes, edges_from, depends, away, is_loopless as has_no_loop}
use Rattle.bulk_model.specs.Installs.{is_needed_later, later_depends, is_installed, installs}
use Rattle.dep_graph.specs.Graphs.{has, targets, depends_at}
use Rattle.dep_graph.specs.Order.{IsInOrder, is_away, is_loopless}
use Rattle.dep_graph.specs.Chains.{is_chain_above, IsLongest}
use Rattle.dep_graph.proofs.Members.{Place, place_of, has-filter, all_has, all_from_has}
use Rattle.dep_graph.proofs.Rounds.{stays_within}
use Rattle.dep_graph.proofs.Waiting.{has_first}
use Rattle.dep_graph.proofs.Installing.{installed_is}

-- the first part of an order has with a node all that the node depends on
prefix_case : (graph : List (List Edge)) (list : List ℕ) (k n d : ℕ) → IsInOrder graph list → has (depends_at graph n) d ≡ true → (at : ℕ) → at < k → at < length list → get_or list at 0 ≡ n
    → has (take k list) d ≡ true
prefix_case graph list k n d o h at before within is =
    let behind : has (take at list) d ≡ true = all_has (λ x. has (take at list) x ≡ true) (depends_at graph n) d (subst (λ x. All (λ y. has (take at list) y ≡ true) (depends_at graph x)) is (o.behind at within)) h in
    has_first at (take k list) d (ap (λ xs. has xs d) (take-take at k list (omega arith)) ∙ behind)

at_prefix : (graph : List (List Edge)) (list : List ℕ) (k n d : ℕ) → IsInOrder graph list → has (take k list) n ≡ true → has (depends_at graph n) d ≡ true → (k < length list) ⊎ (length list ≤ k)
    → has (take k list) d ≡ true
at_prefix graph list k n d o m h (inl l) =
    let place : Place (take k list) n = place_of (take k list) n m in
    let size : length (take k list) ≡ k = length-take-le k list (omega arith) in
    let before : place.at < k = (let w : place.at < length (take k list) = place.within in omega arith) in
    prefix_case graph list k n d o h place.at before (omega arith) (sym (get_or-take k list place.at 0 before) ∙ place.is)
at_prefix graph list k n d o m h (inr all) =
    let place : Place list n = place_of list n (ap (λ xs. has xs n) (sym (take_all k list all)) ∙ m) in
    let w : place.at < length list = place.within in
    prefix_case graph list k n d o h place.at (omega arith) w place.is

pub prefix_closed : (graph : List (List Edge)) (list : List ℕ) (k n d : ℕ) → IsInOrder graph list → has (take k list) n ≡ true → has (depends_at graph n) d ≡ true → has (take k list) d ≡ true
prefix_closed graph list k n d o m h = at_prefix graph list k n d o m h (cases_lt k (length list))

-- a dependency has a longer chain above it
pub chains_fall : (graph : List (List Edge)) (n d above_n above_d : ℕ) → IsLongest graph n above_n → IsLongest graph d above_d → has (depends_at graph n) d ≡ true → above_n < above_d
chains_fall graph n d above_n above_d a b h =
    let chain : suc (length a.found.0) ≤ above_d = b.most (n ∷ a.found.0) (and_from (has (depends_at graph n) d) (is_chain_above graph n a.found.0) h a.found.1) in
    let size : length a.found.0 ≡ above_n = a.found.2 in
    omega arith

-- what is needed later is needed
first_or : (a b c : Bool) → (b ≡ true → c ≡ true) → (a || b) ≡ true → (a || c) ≡ true
first_or true b c f h = refl
first_or false b c f h = f h

kept_has : (p : Edge → Bool) (edge : Edge) (edges : List Edge) (d : ℕ) → (has (targets (filter p edges)) d ≡ true → has (targets edges) d ≡ true) → (b : Bool)
    → has (targets (let l : List Edge = cond b (edge ∷ filter p edges) (filter p edges) in l)) d ≡ true → has (targets (edge ∷ edges)) d ≡ true
kept_has p edge edges d rest true h = first_or (d == edge.to) (has (targets (filter p edges)) d) (has (targets edges) d) rest h
kept_has p edge edges d rest false h = or_right (d == edge.to) (has (targets edges) d) (rest h)

filtered_has : (p : Edge → Bool) (edges : List Edge) (d : ℕ) → has (targets (filter p edges)) d ≡ true → has (targets edges) d ≡ true
filtered_has p [] d h = h
filtered_has p (edge ∷ edges) d h = kept_has p edge edges d (filtered_has p edges d) (p edge) h

-- what is installed lies in each set that has the dependencies and is closed
pub installs_within : (plan : PlanView) (n d : ℕ) (keeps : ℕ → Bool) → All (λ x. keeps x ≡ true) (depends plan n) → ((m x : ℕ) → keeps m ≡ true → has (depends plan m) x ≡ true → keeps x ≡ true)
    → has (installs plan n) d ≡ true → keeps d ≡ true
installs_within plan n d keeps begun closed h =
    let in' : is_installed plan (length plan.jobs) n d ≡ true =
    (and_parts (is_installed plan (length plan.jobs) n d) (has (nodes plan) d) (sym (has-filter (is_installed plan (length plan.jobs) n) (nodes plan) d) ∙ h)).0 in
    stays_within (later_depends plan) (length plan.jobs) (depends plan n) keeps (λ x t. all_has (λ y. keeps y ≡ true) (depends plan n) x begun t)
    (λ m b t. all_from_has (λ x. keeps x ≡ true) (later_depends plan m) (λ x l. closed m x t (filtered_has (λ (e : Edge). is_needed_later e.kind) (edges_from plan m) x l)))
    (length plan.jobs) d (sym (installed_is plan n (length plan.jobs) d) ∙ in')

-- what is installed stands before the node in every order
pub installs_before : (plan : PlanView) (list : List ℕ) (at d : ℕ) → IsInOrder plan.edges list → at < length list → has (installs plan (get_or list at 0)) d ≡ true → has (take at list) d ≡ true
installs_before plan list at d o l h =
    installs_within plan (get_or list at 0) d (has (take at list)) (o.behind at l) (λ m x t e. prefix_closed plan.edges list at m x o t e) h

-- the rounds of a plan are those of the graph of its edges
all_agree : (p q : ℕ → Bool) (xs : List ℕ) → ((x : ℕ) → p x ≡ q x) → list_all p xs ≡ list_all q xs
all_agree p q [] same = refl
all_agree p q (x ∷ xs) same = ap (λ b. b && list_all p xs) (same x) ∙ ap (λ b. q x && b) (all_agree p q xs same)

away_agree : (plan : PlanView) (rounds n : ℕ) → away plan rounds n ≡ is_away plan.edges rounds n
away_agree plan zero n = refl
away_agree plan (suc rounds) n = all_agree (away plan rounds) (is_away plan.edges rounds) (depends plan n) (away_agree plan rounds)

-- a plan has no loop where the graph of its edges has none
pub loopless_plan : (plan : PlanView) → length plan.edges ≡ length plan.jobs → has_no_loop plan ≡ is_loopless plan.edges
loopless_plan plan size =
    all_agree (away plan (length plan.jobs)) (is_away plan.edges (length plan.jobs)) (nodes plan) (away_agree plan (length plan.jobs))
    ∙ ap (λ count. list_all (is_away plan.edges count) (range_with_len 0 count)) (sym size)
