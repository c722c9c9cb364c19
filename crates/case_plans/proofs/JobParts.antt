-- A port without files and commands is a job.
use Rattle.std.proofs.Common.{◌≡◌, ℕ, List, [], codes, refl, sym, subst, Some}
use Rattle.std.specs.Prelude.{IsTrue}
use Rattle.std.specs.List.Sorted.{IsStrictlySortedBy}
use Rattle.std.specs.Cmp.Lexicographic.{slice_cmp}
use Rattle.std.specs.Ordering.{nat_cmp}
use Rattle.bulk_base.specs.Names.{IsPackageName, IsOrigin, is_flavor}
use Rattle.bulk_base.specs.declared.file.FileItem.{FileItem}
use Rattle.bulk_base.specs.declared.file.Switch.{Switch}
use Rattle.bulk_model.specs.declared.depend.Depend.{Depend}
use Rattle.bulk_model.specs.declared.steps.Steps.{Steps}
use Rattle.bulk_model.specs.Facts.{IsJob, IsOptionList, IsDependList, IsFileList}

none_ascend : IsStrictlySortedBy (slice_cmp nat_cmp) []
unfolding IsStrictlySortedBy
none_ascend = tt

no_options : IsOptionList []
no_options = record { order = none_ascend; forms = refl }

pub no_depends : IsDependList []
no_depends = record { order = refl; nodes = tt; names = tt }

pub no_files : (most : ℕ) → IsFileList most []
no_files most = record { order = none_ascend; apart = refl; short = refl }

an_origin : IsOrigin (codes "a/x")
an_origin = record { category = codes "a"; port = codes "x"; category_form = refl; port_form = refl; spelled = refl }

pub is_job : (name origin flavor : List ℕ) (options : List Switch) (depends : List Depend) (steps : Steps) (files : List FileItem) → IsPackageName name → IsTrue (is_flavor flavor) → origin ≡ codes "a/x" → options ≡ [] → depends ≡ [] → files ≡ []
    → IsJob (record { name = name; origin = origin; flavor = Some flavor; options = options; depends = depends; steps = steps; files = files })
is_job name origin flavor options depends steps files form its o p d f = record {
  name = form;
  origin = subst IsOrigin (sym o) an_origin;
  flavor = its;
  options = subst IsOptionList (sym p) no_options;
  depends = subst IsDependList (sym d) no_depends;
  files = subst (IsFileList 1019) (sym f) (no_files 1019);
}
