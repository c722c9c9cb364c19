use Rattle.std.proofs.Common.{codes, refl}
use Rattle.bulk_base.proofs.TextTests.{is_text-plain}
use Rattle.case_plans.proofs.JobParts.{is_job}
use Rattle.case_plans.proofs.ports.bare.Goals as goal

pub of-requires : goal.of-requires
of-requires c = is_text-plain (codes "a/x") refl

pub invariant_of-result : goal.invariant_of-result
invariant_of-result c = is_job c.args.name c.in_ok-origin.origin c.args.flavor c.new.result c.new-2.result _ c.new-8.result c.requires.name c.requires.flavor c.in_ok-origin.ensures c.new.ensures c.new-2.ensures c.new-8.ensures
