use Rattle.std.proofs.Common.{rules, ap, sym, subst, ◌∙◌}
use Rattle.std.specs.Prelude.{map}
use Rattle.bulk_model.specs.Facts.{IsDependList}
use Rattle.bulk_model.specs.Views.{need_of}
use Rattle.bulk_model.proofs.JobFields.{needs_recorded}
use Rattle.phase_runner.proofs.packing.package_of.Goals as goal

pub invariant_of-result : goal.invariant_of-result
invariant_of-result c = record {
  name = search rules;
  origin = search rules;
  flavor = search rules;
  options = search rules;
  depends = subst IsDependList (sym (ap (map need_of) c.in_ok-depends.ensures ∙ needs_recorded c.args.packages.now c.job.inside.depends)) c.job.invariant.depends;
  files = c.requires;
}
