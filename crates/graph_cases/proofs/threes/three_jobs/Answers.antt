use Rattle.std.proofs.Common.{codes, refl, sym, subst}
use Rattle.bulk_base.specs.Names.{IsPackageName}
use Rattle.bulk_base.proofs.TextTests.{is_text-plain}
use Rattle.graph_cases.proofs.ThreePorts.{name_a, name_b, name_c}
use Rattle.graph_cases.proofs.threes.three_jobs.Goals as goal

pub of-requires : goal.of-requires
of-requires c = is_text-plain (codes "a-1") refl

pub job-requires : goal.job-requires
job-requires c = subst IsPackageName (sym c.in_ok-of.ensures) name_a

pub of-requires-2 : goal.of-requires-2
of-requires-2 c = is_text-plain (codes "b-1") refl

pub job-requires-2 : goal.job-requires-2
job-requires-2 c = subst IsPackageName (sym c.in_ok-of-2.ensures) name_b

pub of-requires-3 : goal.of-requires-3
of-requires-3 c = is_text-plain (codes "c-1") refl

pub job-requires-3 : goal.job-requires-3
job-requires-3 c = subst IsPackageName (sym c.in_ok-of-3.ensures) name_c
