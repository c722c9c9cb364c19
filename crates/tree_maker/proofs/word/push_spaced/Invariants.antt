use Rattle.std.proofs.Common.{◌≡◌, ◌++◌, codes, take}
use Rattle.std.specs.List.{flat_map}
use Rattle.std.specs.String.{string_bytes}
use Rattle.tree_maker.specs.Words.{word}
use Rattle.tree_maker.proofs.word.push_spaced.Given as goal

abbrev pub invariant-loop-n : goal.invariant-loop-n
invariant-loop-n l =
    string_bytes l.text
    ≡ string_bytes l.initial.text ++ flat_map (λ m. codes " " ++ word l.kind m) (take l.n-index l.rest)
