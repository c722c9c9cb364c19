use Rattle.std.proofs.Common.{◌≡◌, ◌++◌, map}
use Rattle.std.specs.List.{range_with_len}
use Rattle.tree_maker.specs.Made.{category_file}
use Rattle.tree_maker.proofs.making.push_categories.Given as goal

abbrev pub invariant-loop-c : goal.invariant-loop-c
invariant-loop-c l = l.files ≡ l.initial.files ++ map (category_file l.ports) (range_with_len 0 l.c)
