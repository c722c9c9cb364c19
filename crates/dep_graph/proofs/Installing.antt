-- What is installed, by the rounds that the loop makes.
use Rattle.std.proofs.Common.{◌≡◌, ℕ, zero, suc, ◌<◌, Bool, List, [], ◌∷◌, length, refl, ap, sym, subst, ◌∙◌}
use Rattle.std.specs.Prelude.{◌==◌, ◌||◌, ◌&&◌, filter}
use Rattle.std.specs.List.{list_any, range_with_len, All}
use Rattle.std.proofs.lemmas.Bool.{eq-eqb, eqb-true}
use Rattle.std.proofs.lemmas.List.{get_or_default}
use Rattle.std.proofs.lemmas.List.Elements.{All-filter}
use Rattle.bulk_model.specs.declared.plan.Edge.{Edge}
use Rattle.bulk_model.specs.PlanView.{PlanView, nodes, edges_from, depends}
use Rattle.bulk_model.specs.PlanFacts.{IsPlan}
use Rattle.bulk_model.specs.Installs.{later_depends, is_installed, installs}
use Rattle.bulk_model.proofs.PlanEdges.{edges_within}
use Rattle.dep_graph.specs.Graphs.{has, IsWithin}
use Rattle.dep_graph.specs.Reached.{is_reached}
use Rattle.dep_graph.specs.Found.{FoundView, Spreads, with_nodes}
use Rattle.dep_graph.proofs.Members.{same_bool, all_from_has, below-range, filter_agree_below}
use Rattle.dep_graph.proofs.Extending.{extended}

pub eq_turned : (a b : ℕ) → (a == b) ≡ (b == a)
eq_turned a b = same_bool (a == b) (b == a) (λ h. eq-eqb b a (sym (eqb-true a b h))) (λ h. eq-eqb a b (sym (eqb-true b a h)))

pub any_is_has : (xs : List ℕ) (d : ℕ) → list_any (λ to. to == d) xs ≡ has xs d
any_is_has [] d = refl
any_is_has (x ∷ xs) d = ap (λ b. b || list_any (λ to. to == d) xs) (eq_turned x d) ∙ ap (λ b. (d == x) || b) (any_is_has xs d)

pub any_agree : (p q : ℕ → Bool) (xs : List ℕ) → ((x : ℕ) → p x ≡ q x) → list_any p xs ≡ list_any q xs
any_agree p q [] same = refl
any_agree p q (x ∷ xs) same = ap (λ b. b || list_any p xs) (same x) ∙ ap (λ b. q x || b) (any_agree p q xs same)

pub installed_is : (plan : PlanView) (n rounds d : ℕ) → is_installed plan rounds n d ≡ is_reached (later_depends plan) (length plan.jobs) (depends plan n) rounds d
installed_is plan n zero d = any_is_has (depends plan n) d
installed_is plan n (suc rounds) d =
    ap (λ b. b || list_any (λ member. is_installed plan rounds n member && list_any (λ to. to == d) (later_depends plan member)) (nodes plan)) (installed_is plan n rounds d)
    ∙ ap (λ b. is_reached (later_depends plan) (length plan.jobs) (depends plan n) rounds d || b)
    (any_agree (λ member. is_installed plan rounds n member && list_any (λ to. to == d) (later_depends plan member))
    (λ member. is_reached (later_depends plan) (length plan.jobs) (depends plan n) rounds member && has (later_depends plan member) d) (nodes plan)
    (λ member. ap (λ b. b && list_any (λ to. to == d) (later_depends plan member)) (installed_is plan n rounds member)
    ∙ ap (λ b. is_reached (later_depends plan) (length plan.jobs) (depends plan n) rounds member && b) (any_is_has (later_depends plan member) d)))

module _ (plan : PlanView) (n count : ℕ) (start after : FoundView) (size : count ≡ length plan.jobs)
    (is : start ≡ (let v : FoundView = record { count = count; nodes = with_nodes [] (depends plan n) } in v)) (spreads : Spreads (later_depends plan) start after) where
  start_same : (d : ℕ) → has start.nodes d ≡ has (depends plan n) d
  start_same d = ap (λ v. has v.nodes d) is ∙ (extended [] (depends plan n)).holds d

  pub installed_are : (numbers : List ℕ) → numbers ≡ filter (has after.nodes) (range_with_len 0 after.count) → numbers ≡ installs plan n
  installed_are numbers e =
      let same : start.count ≡ length plan.jobs = ap (λ v. v.count) is ∙ size in
      e ∙ ap (λ c. filter (has after.nodes) (range_with_len 0 c)) (spreads.count ∙ same)
      ∙ filter_agree_below (has after.nodes) (is_installed plan (length plan.jobs) n) (length plan.jobs)
      (λ d l. subst (λ c. has after.nodes d ≡ is_reached (later_depends plan) c (depends plan n) c d) same (spreads.rounds (depends plan n) start_same d (subst (λ c. d < c) (sym same) l))
      ∙ sym (installed_is plan n (length plan.jobs) d))

-- the edges of a plan go to its nodes
pub plan_within : (plan : PlanView) → IsPlan plan → IsWithin (length plan.edges) plan.edges
plan_within plan p n d l =
    subst (λ edges. All (λ (e : Edge). e.to < length plan.edges) edges) (sym (get_or_default plan.edges n d [] l))
    (subst (λ count. All (λ (e : Edge). e.to < count) (edges_from plan n)) (sym p.edges) (edges_within plan p n (subst (λ count. n < count) p.edges l)))

-- what is installed are nodes
pub installed_below : (plan : PlanView) (n : ℕ) → All (λ d. d < length plan.jobs) (installs plan n)
installed_below plan n =
    All-filter (is_installed plan (length plan.jobs) n) (λ d. d < length plan.jobs) (nodes plan)
    (all_from_has (λ d. d < length plan.jobs) (nodes plan) (λ d h. below-range (length plan.jobs) d h))
