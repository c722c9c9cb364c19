use Rattle.std.proofs.Common.{◌≡◌, ◌++◌, take}
use Rattle.std.specs.FinMap as map
use Rattle.port_desc.specs.Values.{words_by_options}
use Rattle.port_desc.proofs.values.push_words_by_options.Given as goal

abbrev pub invariant-loop-option : goal.invariant-loop-option
invariant-loop-option l = l.found.items ≡ l.initial.found.items ++ words_by_options (map.get l.vars) (take l.option-index l.on) l.name
