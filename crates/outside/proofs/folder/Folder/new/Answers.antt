use Rattle.std.proofs.Common.{◌≡◌, true, subst, sym}
use Rattle.std.specs.FinMap.{keys}
use Rattle.outside.specs.Contents.{has_no_folder}
use Rattle.outside.proofs.Listings.{has_no_folder-empty}
use Rattle.outside.proofs.folder.Folder.new.Goals as goal

pub invariant_of-result : goal.invariant_of-result
invariant_of-result c = subst (λ m. has_no_folder (keys m) ≡ true) (sym c.new.ensures) has_no_folder-empty
