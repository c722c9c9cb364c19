use Rattle.std.proofs.Common.{◌≡◌, take}
use Rattle.std.specs.Prelude.{filter}
use Rattle.bulk_model.specs.FileNames.{is_package_file}
use Rattle.pkg_store.proofs.loading.package_files.Given as goal

abbrev pub invariant-loop-name : goal.invariant-loop-name
invariant-loop-name l = l.files ≡ filter is_package_file (take l.name-index l.names)
