use Rattle.std.proofs.Common.{◌≡◌, min, ap, sym, subst, ◌∙◌, arith}
use Rattle.bulk_model.specs.PlanFacts.{IsPlan}
use Rattle.bulk_model.specs.PlanView.{is_boosted}
use Rattle.bucket_queue.proofs.Buckets.{boosted_bucket, plain_bucket}
use Rattle.bucket_queue.proofs.begin.bucket.Goals as goal

pub returns-then-get : goal.returns-then-get
returns-then-get c =
    let is : IsPlan c.args.plan.now = subst IsPlan c.plan.view_is c.plan.invariant in
    sym (boosted_bucket c.args.plan.now is c.args.n
    (ap (λ p. is_boosted p c.args.n) (sym c.plan.view_is) ∙ sym c.get.ensures ∙ c.if-get.true))

pub returns-else-get : goal.returns-else-get
returns-else-get c =
    let is : IsPlan c.args.plan.now = subst IsPlan c.plan.view_is c.plan.invariant in
    c.min.ensures ∙ (let e : min c.args.longest 9 ≡ min 9 c.args.longest = omega arith in e)
    ∙ sym (plain_bucket c.args.plan.now is c.args.n c.args.longest
    (ap (λ p. is_boosted p c.args.n) (sym c.plan.view_is) ∙ sym c.get.ensures ∙ c.if-get.false) c.requires)
