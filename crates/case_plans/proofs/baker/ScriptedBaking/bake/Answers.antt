use Rattle.std.proofs.Common.{sym}
use Rattle.std.proofs.lemmas.Bool.{true≢false}
use Rattle.case_plans.proofs.baker.ScriptedBaking.bake.Goals as goal

pub returns-clause-built : goal.returns-clause-built
returns-clause-built c = record {
  fields = c.in_ok-plain_outcome.ensures c.args.packages.now;
  told = λ t. absurd (true≢false (sym t));
}
