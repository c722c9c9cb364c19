use Rattle.std.proofs.Common.{◌≡◌, [], take, unwrap_or}
use Rattle.std.specs.FinMap.{get}
use Rattle.std.specs.List.{flat_map}
use Rattle.catalogue.proofs.listing.listed.Given as goal

abbrev pub invariant-loop-name : goal.invariant-loop-name
invariant-loop-name l =
    l.text.items ≡ flat_map (λ name. unwrap_or (get l.lines name) []) (take l.name-index l.names)
