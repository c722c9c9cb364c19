-- The bucket of a node, by the longest chain that the graph tells.
use Rattle.std.proofs.Common.{◌≡◌, ℕ, min, Bool, true, false, List, [], ◌∷◌, ◌++◌, ◌+◌, ◌<◌, ◌^◌, length, refl, ap, sym, ◌∙◌, arith, cond}
use Rattle.std.specs.Prelude.{map, ◌&&◌}
use Rattle.std.specs.List.{range_with_len, count_by}
use Rattle.std.proofs.lemmas.List.{map_push}
use Rattle.bulk_model.specs.Order.{is_chain_above as is_plan_chain, IsLongest as IsPlanLongest, chain_above, bucket}
use Rattle.bulk_model.specs.PlanFacts.{IsPlan}
use Rattle.bulk_model.specs.PlanView.{PlanView, count, nodes, depends, is_boosted, is_ignored}
use Rattle.bulk_model.specs.declared.plan.Kept.{Kept as KeptPackages}
use Rattle.bulk_model.specs.Results.{is_kept}
use Rattle.model_laws.proofs.Longest.{nine_edges_are_enough}
use Rattle.dep_graph.specs.Graphs.{has, IsGraph}
use Rattle.dep_graph.specs.Chains.{is_chain_above, IsLongest}
use Rattle.dep_graph.proofs.Installing.{any_is_has, plan_within}
use Rattle.dep_graph.proofs.Members.{range_more}
use Rattle.bucket_queue.specs.declared.mark.Mark.{Mark}
use Rattle.bucket_queue.specs.declared.mark.Mark.TheVariants.{Kept as KeptMark, Ignored as IgnoredMark, Free}
use Rattle.bucket_queue.specs.QueueView.{is_taken, first_mark}
use Rattle.bucket_queue.proofs.Counting.{one_if, count_by-cons}

-- a list that grows by what a function gives of the next number
pub mapped_more : {X : Type 0} (f : ℕ → X) (n : ℕ) (so_far now : List X) (x : X)
    → so_far ≡ map f (range_with_len 0 n) → now ≡ so_far ++ x ∷ [] → x ≡ f n
    → now ≡ map f (range_with_len 0 (n + 1))
mapped_more f n so_far now x before e same =
    e ∙ ap (λ y. so_far ++ y ∷ []) same ∙ ap (λ xs. xs ++ f n ∷ []) before
    ∙ sym (map_push f (range_with_len 0 n) n) ∙ ap (map f) (sym (range_more n))

module _ (plan : PlanView) (is : IsPlan plan) where
  chains_same : (n : ℕ) (above : List ℕ)
      → is_plan_chain plan n above ≡ is_chain_above plan.edges n above
  chains_same n [] = refl
  chains_same n (m ∷ more) =
      ap (λ b. b && is_plan_chain plan m more) (any_is_has (depends plan m) n)
      ∙ ap (λ b. has (depends plan m) n && b) (chains_same m more)

  longest_same : (n edges : ℕ) → IsLongest plan.edges n edges → IsPlanLongest plan n edges
  longest_same n edges l = record {
    found = (l.found.0, chains_same n l.found.0 ∙ l.found.1, l.found.2);
    most = λ above h. l.most above (sym (chains_same n above) ∙ h);
  }

  pub boosted_bucket : (n : ℕ) → is_boosted plan n ≡ true → bucket plan n ≡ 10
  boosted_bucket n b = ap (λ b. cond b 10 (chain_above plan 9 n)) b

  pub plain_bucket : (n edges : ℕ) → is_boosted plan n ≡ false → IsLongest plan.edges n edges
      → bucket plan n ≡ min 9 edges
  plain_bucket n edges b l =
      ap (λ b. cond b 10 (chain_above plan 9 n)) b
      ∙ nine_edges_are_enough plan is n edges (longest_same n edges l)

-- the graph of a plan
pub plan_graph : (plan : PlanView) → IsPlan plan → IsGraph plan.edges
plan_graph plan is = record {
  few = (let few : count plan < 2 ^ 32 = is.few in let same : length plan.edges ≡ count plan = is.edges in omega arith);
  within = plan_within plan is;
}

first_case : (kept ignored : Bool) → is_taken (cond kept KeptMark (cond ignored IgnoredMark Free)) ≡ false
first_case true ignored = refl
first_case false true = refl
first_case false false = refl

none_of : (f : ℕ → Mark) → ((n : ℕ) → is_taken (f n) ≡ false) → (xs : List ℕ) → count_by is_taken (map f xs) ≡ 0
none_of f none [] = refl
none_of f none (x ∷ xs) =
    count_by-cons is_taken (f x) (map f xs) ∙ ap (λ b. one_if b + count_by is_taken (map f xs)) (none x)
    ∙ (let z : 0 + count_by is_taken (map f xs) ≡ count_by is_taken (map f xs) = omega arith in z) ∙ none_of f none xs

-- no node is taken at first
pub none_running : (plan : PlanView) (kept : KeptPackages)
    → count_by is_taken (map (first_mark plan kept) (nodes plan)) ≡ 0
none_running plan kept =
    none_of (first_mark plan kept) (λ n. first_case (is_kept kept n) (is_ignored plan n)) (nodes plan)
