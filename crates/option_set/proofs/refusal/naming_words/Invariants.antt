use Rattle.std.proofs.Common.{◌≡◌, ◌++◌, take}
use Rattle.std.specs.Prelude.{codes}
use Rattle.std.specs.List.{flat_map}
use Rattle.port_vars.specs.ValueWords.{words_in}
use Rattle.option_set.specs.Implied.{implied_by}
use Rattle.option_set.specs.Refused.{prevented_by}
use Rattle.option_set.proofs.refusal.naming_words.Given as goal

abbrev pub invariant-loop-option : goal.invariant-loop-option
invariant-loop-option l =
    l.found ≡ words_in l.vars (codes "OPTIONS_DEFAULT") ++ flat_map (λ option. implied_by l.vars option ++ prevented_by l.vars option) (take l.option-index l.options)
