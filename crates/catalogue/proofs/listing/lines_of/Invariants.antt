use Rattle.std.proofs.Common.{◌≡◌, take}
use Rattle.catalogue.specs.Catalogue.{lines_of}
use Rattle.catalogue.proofs.listing.lines_of.Given as goal

abbrev pub invariant-loop-shared : goal.invariant-loop-shared
invariant-loop-shared l = l.lines ≡ lines_of (take l.shared-index l.packages)
