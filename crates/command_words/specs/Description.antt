-- The one description by which clap reads flags: that of `bulk`, and the same cut down for `pkgclean` (poudriere-bulk(8),
-- poudriere-pkgclean(8); docs/FORMATS.md, "The words of a command").
use Rattle.std.specs.Prelude.{ℕ, Some, List, [], ◌∷◌, ◌++◌, true, fold, codes}
use Rattle.clap.specs.Lexer.{usize_max}
use Rattle.clap.specs.Walk.{Rule, Text}
use Rattle.clap.specs.Simple.{App, new_app, new_rule, on_top, with_rule}
use Rattle.clap.specs.declared.builder.action.ArgAction.TheVariants.{Append, Set, SetTrue}
use Rattle.command_words.specs.declared.description.Flags.{Flags}
use Rattle.command_words.specs.declared.description.Flags.TheVariants.{OfBulk, OfPkgclean}

-- a flag, by its letter
abbrev pub flag_rule : Text → ℕ → Rule
flag_rule id letter = record (new_rule id) { short = Some letter; action = Some SetTrue }

-- an option with one value, by its letter
abbrev pub option_rule : Text → ℕ → Rule
option_rule id letter = record (new_rule id) { short = Some letter; action = Some Set }

-- the words that are neither, any number of them
abbrev pub origins_rule : Rule
origins_rule = record (new_rule (codes "origins")) {
  action = Some Append;
  range = Some (record { start_inclusive = 0; end_inclusive = usize_max });
}

-- `-a`, `-n` and `-f PATH`, by the letters 97, 110 and 102
abbrev pub shared_rules : List Rule
shared_rules =
    flag_rule (codes "all") 97 ∷ flag_rule (codes "dry_run") 110 ∷ option_rule (codes "list") 102
    ∷ []

-- `-c`, `-C`, `-T` and `-J N`, by the letters 99, 67, 84 and 74
abbrev pub build_rules : List Rule
build_rules =
    flag_rule (codes "clean_all") 99 ∷ flag_rule (codes "clean_wanted") 67
    ∷ flag_rule (codes "try_broken") 84 ∷ option_rule (codes "builders") 74 ∷ []

abbrev pub flag_rules : Flags → List Rule
flag_rules OfBulk = shared_rules ++ build_rules
flag_rules OfPkgclean = shared_rules

-- no flag for help
abbrev pub bare_app : App
bare_app = on_top (λ s. record s { disable_help_flag = true }) (new_app (codes "poudriere"))

-- the flags, and behind and between them origins
abbrev pub description : Flags → App
description flags = with_rule (fold with_rule bare_app (flag_rules flags)) origins_rule
