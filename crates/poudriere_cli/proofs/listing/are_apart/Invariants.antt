use Rattle.std.proofs.Common.{◌≡◌, drop}
use Rattle.std.specs.List.{list_all}
use Rattle.outside.specs.Contents.{has_no_folder}
use Rattle.poudriere_cli.proofs.Listings.{has_none_below}
use Rattle.poudriere_cli.proofs.listing.are_apart.Given as goal

abbrev pub invariant-loop-path : goal.invariant-loop-path
invariant-loop-path l = list_all (has_none_below l.paths) (drop l.path-index l.paths) ≡ has_no_folder l.paths
