use Rattle.std.proofs.Common.{rules, ap, sym, subst}
use Rattle.std.specs.Prelude.{map}
use Rattle.bulk_model.specs.Facts.{IsDependList, IsFileList}
use Rattle.bulk_model.specs.Views.{need_of}
use Rattle.case_plans.proofs.JobParts.{no_depends, no_files}
use Rattle.case_plans.proofs.baker.package_of.Goals as goal

pub invariant_of-result : goal.invariant_of-result
invariant_of-result c = record {
  name = search rules;
  origin = search rules;
  flavor = search rules;
  options = search rules;
  depends = subst IsDependList (sym (ap (map need_of) c.new.ensures)) no_depends;
  files = subst (IsFileList 1018) (sym c.new-2.ensures) (no_files 1018);
}
