-- What a command line asks for (poudriere-bulk(8), poudriere-pkgclean(8); docs/FORMATS.md, "The words of a command").
use Rattle.std.specs.Prelude.{ℕ, Bool, true, false, not, ◌||◌, ◌==◌, nat_eq, List, [], ◌∷◌, length, codes}
use Rattle.std.specs.Prelude.{Option, Some, None, is_some, if◌then◌else◌, option_map}
use Rattle.std.specs.List.{ends_with}
use Rattle.std.specs.Option.{option_map_or}
use Rattle.std.specs.Str.{bytes_eq}
use Rattle.clap.specs.Walk.{Row, Text, first_of}
use Rattle.bulk_base.specs.Number.{number_of}
use Rattle.command_words.specs.Description.{description}
use Rattle.command_words.specs.Reading.{has_flag, origins_of, read_by}
use Rattle.command_words.specs.declared.description.Flags.{Flags}
use Rattle.command_words.specs.declared.description.Flags.TheVariants.{OfBulk, OfPkgclean}
use Rattle.command_words.specs.declared.asked.Asked.{Asked}
use Rattle.command_words.specs.declared.asked.Asked.TheVariants as asked
use Rattle.command_words.specs.declared.asked.Clean.{Clean}
use Rattle.command_words.specs.declared.asked.Clean.TheVariants as clean
use Rattle.command_words.specs.declared.asked.CommandName.{CommandName}
use Rattle.command_words.specs.declared.asked.CommandName.TheVariants as name
use Rattle.command_words.specs.declared.asked.PortWords.{PortWords}

-- ---- `bulk` and `pkgclean`, by clap's matches

-- the ports that are named
abbrev pub ports_of : List Row → PortWords
ports_of rows = record {
  all = has_flag (codes "all") rows;
  list = first_of (codes "list") rows;
  origins = origins_of rows;
}

-- `-a` stands alone; without it `-f` or an origin is there
abbrev pub are_fit : PortWords → Bool
are_fit ports =
    let named = is_some ports.list || not (length ports.origins == 0) in
    if ports.all then not named else named

-- `-c` rules over `-C`
abbrev pub clean_of : List Row → Clean
clean_of rows =
    if has_flag (codes "clean_all") rows then clean.All
    else (if has_flag (codes "clean_wanted") rows then clean.Wanted else clean.Nothing)

-- the number behind `-J`, where it stands; nothing where its value is no number
abbrev pub builders_of : Option Text → Option (Option ℕ)
builders_of None = Some None
builders_of (Some value) = option_map (λ number. Some number) (number_of value)

abbrev pub bulk_words : List Row → Option ℕ → Asked
bulk_words rows builders = asked.Bulk (record {
  ports = ports_of rows;
  clean = clean_of rows;
  dry_run = has_flag (codes "dry_run") rows;
  try_broken = has_flag (codes "try_broken") rows;
  builders = builders;
})

abbrev pub bulk_asked : List Row → Asked
bulk_asked rows =
    if are_fit (ports_of rows)
    then option_map_or (bulk_words rows) (builders_of (first_of (codes "builders") rows))
    (asked.Usage name.Bulk)
    else asked.Usage name.Bulk

abbrev pub pkgclean_words : List Row → Asked
pkgclean_words rows =
    asked.PkgClean (record { ports = ports_of rows; dry_run = has_flag (codes "dry_run") rows })

abbrev pub pkgclean_asked : List Row → Asked
pkgclean_asked rows =
    if are_fit (ports_of rows) then pkgclean_words rows else asked.Usage name.PkgClean

abbrev pub matches_asked : Flags → List Row → Asked
matches_asked OfBulk rows = bulk_asked rows
matches_asked OfPkgclean rows = pkgclean_asked rows

abbrev pub name_of : Flags → CommandName
name_of OfBulk = name.Bulk
name_of OfPkgclean = name.PkgClean

-- what is read by flags, from the command's name on; usage where clap refuses it
abbrev pub flags_asked : Flags → List Text → Asked
flags_asked flags words =
    option_map_or (matches_asked flags) (read_by (description flags) words)
    (asked.Usage (name_of flags))

-- ---- the other commands, by the words behind their names

-- just one number
abbrev pub sample_asked : List Text → Asked
sample_asked (word ∷ []) =
    option_map_or (λ number. asked.Sample number) (number_of word) (asked.Usage name.Bulk)
sample_asked _ = asked.Usage name.Bulk

-- just one word, which does not end in `@all`
abbrev pub testport_asked : List Text → Asked
testport_asked (word ∷ []) =
    if ends_with nat_eq word (codes "@all") then asked.Usage name.TestPort else asked.TestPort word
testport_asked _ = asked.Usage name.TestPort

-- nothing, or one `-n`
abbrev pub distclean_asked : List Text → Asked
distclean_asked [] = asked.DistClean false
distclean_asked (word ∷ []) =
    if bytes_eq word (codes "-n") then asked.DistClean true else asked.Usage name.DistClean
distclean_asked _ = asked.Usage name.DistClean

-- nothing
abbrev pub publish_asked : List Text → Asked
publish_asked [] = asked.Publish
publish_asked _ = asked.Usage name.Publish

-- ---- every command line

-- the commands whose words are read by flags
abbrev pub flags_of : Text → Option Flags
flags_of command =
    if bytes_eq command (codes "bulk") then Some OfBulk
    else (if bytes_eq command (codes "pkgclean") then Some OfPkgclean else None)

-- the other commands; usage of `bulk` where the first word is none
abbrev pub words_asked : Text → List Text → Asked
words_asked command rest =
    if bytes_eq command (codes "sample") then sample_asked rest
    else (if bytes_eq command (codes "testport") then testport_asked rest
    else (if bytes_eq command (codes "distclean") then distclean_asked rest
    else (if bytes_eq command (codes "publish") then publish_asked rest
    else asked.Usage name.Bulk)))

-- the first word chooses the command
abbrev pub asked_of : List Text → Asked
asked_of [] = asked.Usage name.Bulk
asked_of (command ∷ rest) =
    option_map_or (λ flags. flags_asked flags (command ∷ rest)) (flags_of command)
    (words_asked command rest)
