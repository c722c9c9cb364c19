use Rattle.std.proofs.Common.{◌≡◌, true, subst, sym}
use Rattle.std.specs.FinMap.{keys}
use Rattle.outside.specs.Contents.{can_hold, has_no_folder}
use Rattle.outside.proofs.Listings.{has_no_folder-insert}
use Rattle.outside.proofs.folder.Folder.put.Goals as goal

pub invariant_of-self-2 : goal.invariant_of-self-2
invariant_of-self-2 c =
    subst (λ m. has_no_folder (keys m) ≡ true) (sym c.in_ok-insert.ensures.ok)
    (has_no_folder-insert c.self.inside.files c.args.path c.args.bytes (subst (λ m. can_hold c.args.path m ≡ true) (sym c.self.view_is) c.requires) c.self.invariant)
