use Rattle.std.proofs.Common.{◌≡◌, ◌++◌, map}
use Rattle.port_desc.proofs.dependencies.push_entries.Given as goal

abbrev pub invariant-loop-target : goal.invariant-loop-target
invariant-loop-target l = l.found.items ≡ l.initial.found.items ++ map (λ target. record { kind = l.kind; target = target }) l.yielded
