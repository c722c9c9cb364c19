use Rattle.std.proofs.Common.{ap, sym, subst, ◌∙◌}
use Rattle.std.specs.Prelude.{map}
use Rattle.bulk_model.specs.Facts.{IsDependList}
use Rattle.bulk_model.specs.Views.{need_of}
use Rattle.record_cases.proofs.Jobs.{job_files}
use Rattle.record_cases.proofs.recipes.job_of.Goals as goal

pub invariant_of-result : goal.invariant_of-result
invariant_of-result c = record {
  name = c.package.invariant.name;
  origin = c.package.invariant.origin;
  flavor = c.package.invariant.flavor;
  options = c.package.invariant.options;
  depends = subst IsDependList (sym (c.in_ok-depends.ensures ∙ ap (map need_of) c.as_slice.ensures)) c.package.invariant.depends;
  files = job_files c.package.inside.files c.package.invariant.files;
}
