use Rattle.std.proofs.Common.{sym, subst}
use Rattle.outside.specs.Contents.{IsListing}
use Rattle.outside.proofs.Listings.{files_below_are_listed}
use Rattle.outside.proofs.folder.Folder.names.Goals as goal

pub returns-clause-listing : goal.returns-clause-listing
returns-clause-listing c =
    subst (IsListing c.args.below.now) (sym c.in_ok-paths.ensures.below) (files_below_are_listed c.args.below.now c.self.inside.files c.self.invariant)
