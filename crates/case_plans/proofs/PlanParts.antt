-- The parts of a plan are one.
use Rattle.std.proofs.Common.{◌≡◌, ℕ, ◌<◌, Bool, List, [], length, get_or, refl, ap, sym, subst, ◌∙◌, arith, Option}
use Rattle.std.specs.Prelude.{map, IsTrue}
use Rattle.std.specs.List.{All}
use Rattle.std.specs.List.Sorted.{IsStrictlySortedBy}
use Rattle.std.specs.Cmp.Lexicographic.{slice_cmp}
use Rattle.std.specs.Ordering.{nat_cmp}
use Rattle.std.proofs.lemmas.List.{get_or-map, length-map}
use Rattle.bulk_model.specs.declared.depend.DepKind.TheVariants.{Pkg}
use Rattle.bulk_model.specs.declared.plan.Edge.{Edge}
use Rattle.bulk_model.specs.PlanFacts.{IsPlan, IsBase}
use Rattle.bulk_model.specs.PlanView.{PlanView}
use Rattle.bulk_model.specs.Views.{JobView}
use Rattle.bulk_model.proofs.PlanTests.{none_wanted}
use Rattle.dep_graph.proofs.OrderLaws.{loopless_plan}
use Rattle.case_plans.specs.Testing.{AreParts}

none_ascend : IsStrictlySortedBy (slice_cmp nat_cmp) []
unfolding IsStrictlySortedBy
none_ascend = tt

pub no_base : IsBase []
no_base = record { form = record { order = none_ascend; apart = refl; short = refl }; free = refl }

no_edge : Edge
no_edge = record { kind = Pkg; to = 0 }

-- what holds of the edges' targets
targets_of : (count : ℕ) (edges : List Edge) → All (λ edge. edge.to < count) edges → All (λ to. to < count) (map (λ edge. edge.to) edges)
targets_of count edges all k d l =
    let inside : k < length edges = (let s : length (map (λ (edge : Edge). edge.to) edges) ≡ length edges = length-map edges (λ edge. edge.to) in omega arith) in
    subst (λ x. x < count) (sym (get_or-map (λ (edge : Edge). edge.to) edges k no_edge d inside)) (all k no_edge inside)

module _ (jobs : List JobView) (edges : List (List Edge)) (ignored : List (Option (List ℕ))) (boosted : List Bool) (are : AreParts jobs edges ignored boosted) where
  abbrev plan : PlanView
  plan = record { jobs = jobs; edges = edges; ignored = ignored; wanted = []; base = []; boosted = boosted }

  pub is_plan : IsPlan plan
  is_plan = record {
    few = (let s : length jobs ≡ length edges = are.jobs_size in omega (arith, are.graph.few));
    edges = sym are.jobs_size;
    ignored = are.ignored_size ∙ sym are.jobs_size;
    boosted = are.boosted_size ∙ sym are.jobs_size;
    targets = λ n l.
        subst (λ count. All (λ to. to < count) (map (λ edge. edge.to) (get_or edges n []))) (sym are.jobs_size)
        (targets_of (length edges) (get_or edges n []) (are.graph.within n [] (subst (λ count. n < count) are.jobs_size l)));
    without = λ n l t. ap (map (λ edge. edge.to)) (are.without n (subst (λ count. n < count) are.jobs_size l) t);
    loopless = subst IsTrue (sym (loopless_plan plan (sym are.jobs_size))) are.loopless;
    wanted = none_wanted (length jobs);
    names = are.names;
    base = no_base;
  }
