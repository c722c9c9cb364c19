use Rattle.std.proofs.Common.{ap, sym, ◌∙◌}
use Rattle.std.specs.Option.{option_copied}
use Rattle.std.specs.FinMap.{keys}
use Rattle.outside.specs.Given.{first_folder}
use Rattle.outside.proofs.Listings.{has_no_folder-from_first}
use Rattle.outside.proofs.folder.Folder.from_files.Goals as goal

pub invariant_of-result : goal.invariant_of-result
invariant_of-result c = has_no_folder-from_first (keys c.in_ok-files.files) (ap first_folder (sym c.in_ok-paths.ensures.all) ∙ sym c.in_ok-nested.ensures ∙ ap option_copied c.in-None.is)
