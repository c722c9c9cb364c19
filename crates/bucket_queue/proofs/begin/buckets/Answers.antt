use Rattle.std.proofs.Common.{◌≡◌, ◌<◌, ℕ, List, length, get_or, ap, sym, subst, arith}
use Rattle.std.specs.Prelude.{IsTrue}
use Rattle.bulk_model.specs.declared.plan.Edge.{Edge}
use Rattle.bulk_model.specs.Order.{bucket}
use Rattle.bulk_model.specs.PlanFacts.{IsPlan}
use Rattle.dep_graph.specs.Chains.{IsLongest}
use Rattle.dep_graph.specs.Order.{is_loopless}
use Rattle.dep_graph.proofs.OrderLaws.{loopless_plan}
use Rattle.bucket_queue.proofs.Buckets.{mapped_more}
use Rattle.bucket_queue.proofs.begin.buckets.Goals as goal

at_place : (graph now : List (List Edge)) (chains longest : List ℕ) (n : ℕ) → graph ≡ now → longest ≡ chains → n < length now
    → ((n : ℕ) → n < length graph → IsLongest graph n (get_or chains n 0)) → IsLongest now n (get_or longest n 0)
at_place graph now chains longest n g e l all =
    subst (λ x. IsLongest x n (get_or longest n 0)) g
    (subst (λ x. IsLongest graph n (get_or x n 0)) (sym e) (all n (subst (λ x. n < length x) (sym g) l)))

pub chains-requires : goal.chains-requires
chains-requires c =
    let is : IsPlan c.args.plan.now = subst IsPlan c.plan.view_is c.plan.invariant in
    subst (λ g. IsTrue (is_loopless g)) (sym c.requires)
    (subst IsTrue (loopless_plan c.args.plan.now is.edges) is.loopless)

pub bucket-requires : goal.bucket-requires
bucket-requires c =
    let size : length c.args.plan.now.edges ≡ length c.args.plan.now.jobs = (subst IsPlan c.plan.view_is c.plan.invariant).edges in
    let same : length c.plan.inside.jobs ≡ length c.args.plan.now.jobs = ap (λ p. length p.jobs) c.plan.view_is in
    let below : c.loop-n.n < length c.args.plan.now.edges = omega (arith, c.loop-n-test.true, c.len-count.ensures) in
    at_place c.args.graph.now c.args.plan.now.edges c.in_ok-chains.chains c.as_slice-longest.result.now c.loop-n.n
    c.requires c.as_slice-longest.ensures below c.in_ok-chains.ensures.longest

pub loop-n-preserved : goal.loop-n-preserved
loop-n-preserved c =
    mapped_more (bucket c.args.plan.now) c.loop-n.n c.loop-n.buckets.items _ c.bucket.result
    c.loop-n.invariant c.in_ok-push.ensures.items c.bucket.ensures
