use Rattle.std.proofs.Common.{◌≡◌, ◌<◌, ℕ, List, length, get_or, sym, subst, ◌∙◌}
use Rattle.bulk_model.specs.declared.plan.Edge.{Edge}
use Rattle.dep_graph.specs.Chains.{IsLongest}
use Rattle.dep_graph.proofs.graph.Graph.chains.Goals as goal

moved : (graph now : List (List Edge)) (lengths chains : List ℕ) → graph ≡ now → chains ≡ lengths → ((n : ℕ) → n < length graph → IsLongest graph n (get_or lengths n 0))
    → (n : ℕ) → n < length now → IsLongest now n (get_or chains n 0)
moved graph now lengths chains g e all n l =
    subst (λ x. IsLongest x n (get_or chains n 0)) g (subst (λ x. IsLongest graph n (get_or x n 0)) (sym e) (all n (subst (λ x. n < length x) (sym g) l)))

pub returns-clause-longest : goal.returns-clause-longest
returns-clause-longest c =
    moved c.as_slice.result.now c.args.self.now c.in_ok-chains.chains.items c.from_vec.result (c.as_slice.ensures ∙ c.self.view_is) c.from_vec.ensures c.in_ok-chains.ensures.longest
