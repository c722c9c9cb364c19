use Rattle.std.proofs.Common.{◌≡◌, true, subst, sym}
use Rattle.std.specs.FinMap.{keys}
use Rattle.outside.specs.Contents.{has_no_folder}
use Rattle.outside.proofs.Listings.{has_no_folder-remove}
use Rattle.outside.proofs.folder.Folder.remove.Goals as goal

pub invariant_of-self : goal.invariant_of-self
invariant_of-self c = subst (λ m. has_no_folder (keys m) ≡ true) (sym c.remove.ensures.removed) (has_no_folder-remove c.self.inside.files c.args.file.now c.self.invariant)
