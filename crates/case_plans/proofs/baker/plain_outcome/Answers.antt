use Rattle.std.proofs.Common.{◌≡◌, ◌≤◌, [], ap, sym, subst, ◌∙◌, arith}
use Rattle.bulk_model.specs.Bake.{package_of}
use Rattle.bulk_model.specs.Weight.{weight_of}
use Rattle.case_plans.proofs.baker.plain_outcome.Goals as goal

pub returns : goal.returns
returns c packages =
    let made : c.in_ok-new.field-0 ≡ package_of c.args.base.now c.args.job.now packages [] = c.in_ok-new.ensures ∙ c.in_ok-built.ensures packages in
    let none : c.in_ok-new.field-0.files ≡ [] = ap (λ p. p.files) made in
    record {
      made = made ∙ ap (package_of c.args.base.now c.args.job.now packages) (sym none);
      light = subst (λ files. weight_of files ≤ 524288) (sym none) (omega arith);
    }
