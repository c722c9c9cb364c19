use Rattle.std.proofs.Common.{◌∙◌, ap, sym, subst}
use Rattle.std.specs.Prelude.{filter}
use Rattle.std.specs.List.{list_all}
use Rattle.std.specs.Cmp.Lexicographic.{slice_cmp}
use Rattle.std.specs.Ordering.{nat_cmp}
use Rattle.std.proofs.lemmas.List.Kept.{IsStrictlySortedBy-filter}
use Rattle.outside.specs.Contents.{IsAscending}
use Rattle.bulk_model.specs.FileNames.{is_package_file}
use Rattle.pkg_store.proofs.Ascending.{all_filter}
use Rattle.pkg_store.proofs.loading.package_names.Goals as goal

pub returns-clause-ascending : goal.returns-clause-ascending
returns-clause-ascending g c =
    subst IsAscending (sym (c.in_ok-files.ensures ∙ ap (filter is_package_file) c.as_slice.ensures))
    (IsStrictlySortedBy-filter (slice_cmp nat_cmp) is_package_file c.in_ok-names.names c.in_ok-names.ensures.ascending)

pub returns-clause-files : goal.returns-clause-files
returns-clause-files g c =
    ap (list_all is_package_file) (c.in_ok-files.ensures ∙ ap (filter is_package_file) c.as_slice.ensures)
    ∙ all_filter is_package_file c.in_ok-names.names
