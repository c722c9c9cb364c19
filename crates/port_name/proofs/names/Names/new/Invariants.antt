use Rattle.std.proofs.Common.{◌≡◌, ℕ, List}
use Rattle.std.specs.List.Sorted.{IsStrictlySortedBy}
use Rattle.port_name.specs.Sets.{is_among}
use Rattle.port_name.proofs.SetView.{order}
use Rattle.port_name.proofs.names.Names.new.Given as goal

abbrev pub invariant-loop-name : goal.invariant-loop-name
invariant-loop-name l = record { same : (name : List ℕ) → is_among l.set.keys name ≡ is_among l.yielded name; order : IsStrictlySortedBy order l.set.keys }
