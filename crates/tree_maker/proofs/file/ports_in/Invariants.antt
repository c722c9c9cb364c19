use Rattle.std.proofs.Common.{◌≡◌}
use Rattle.std.specs.Prelude.{◌==◌, filter}
use Rattle.std.specs.List.{range_with_len}
use Rattle.tree_maker.specs.Made.{category_of}
use Rattle.tree_maker.proofs.file.ports_in.Given as goal

abbrev pub invariant-loop-i : goal.invariant-loop-i
invariant-loop-i l =
    l.numbers.items ≡ filter (λ i. category_of i == l.c) (range_with_len 0 l.i)
