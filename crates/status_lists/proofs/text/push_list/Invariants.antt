use Rattle.std.proofs.Common.{◌≡◌, ◌++◌, codes, length, map, take}
use Rattle.std.specs.Fmt.{decimal}
use Rattle.std.specs.List.{flat_map}
use Rattle.std.specs.String.{string_bytes}
use Rattle.bulk_model.specs.Lines.{line}
use Rattle.bulk_model.specs.Lists.{two_words}
use Rattle.status_lists.proofs.text.push_list.Given as goal

abbrev pub invariant-loop-entry : goal.invariant-loop-entry
invariant-loop-entry l =
    string_bytes l.text
    ≡ string_bytes l.fn.text ++ (line (two_words l.heading (decimal (length l.entries)))
    ++ flat_map (λ entry. line (codes "  " ++ entry)) (map string_bytes (take l.entry-index l.entries)))
