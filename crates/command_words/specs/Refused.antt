-- When the words of `bulk` and of `pkgclean` are answered by usage, rule by rule: a law above the definition of what they
-- ask for (poudriere-bulk(8); docs/FORMATS.md, "The words of a command").
use Rattle.std.specs.Prelude.{◌≡◌, ◌≢◌, ◌↔◌, ◌⊎◌, false, IsTrue, IsSome, List, [], ◌∷◌, Option, Some, None, codes}
use Rattle.clap.specs.Walk.{Row, Text, first_of}
use Rattle.clap.specs.Simple.{matches_of}
use Rattle.clap.specs.Faults.{fault_of}
use Rattle.bulk_base.specs.Number.{number_of}
use Rattle.command_words.specs.Description.{description}
use Rattle.command_words.specs.Asked.{flags_of, name_of, ports_of}
use Rattle.command_words.specs.declared.description.Flags.{Flags}
use Rattle.command_words.specs.declared.description.Flags.TheVariants.{OfBulk, OfPkgclean}
use Rattle.command_words.specs.declared.asked.Asked.{Asked}
use Rattle.command_words.specs.declared.asked.Asked.TheVariants.{Usage}
use Rattle.command_words.specs.declared.asked.PortWords.{PortWords}

-- clap's own reading of the words has a fault
abbrev pub IsFaulty : Flags → List Text → Type 0
IsFaulty flags words = fault_of (description flags) words ≢ []

-- the value of an option is there and no number
abbrev pub IsNoNumber : Option Text → Type 0
IsNoNumber None = ⊥
IsNoNumber (Some value) = number_of value ≡ None

-- `-a` stands beside `-f` or an origin
abbrev pub IsAllBeside : PortWords → Type 0
IsAllBeside ports = IsTrue ports.all × (IsSome ports.list ⊎ (ports.origins ≢ []))

-- none of `-a`, `-f` and an origin is there
abbrev pub NamesNone : PortWords → Type 0
NamesNone ports = (ports.all ≡ false) × (ports.list ≡ None) × (ports.origins ≡ [])

-- clap's matches break a rule that clap does not have
abbrev pub BreaksARule : Flags → List Row → Type 0
BreaksARule OfBulk rows =
    IsNoNumber (first_of (codes "builders") rows)
    ⊎ (IsAllBeside (ports_of rows) ⊎ NamesNone (ports_of rows))
BreaksARule OfPkgclean rows = IsAllBeside (ports_of rows) ⊎ NamesNone (ports_of rows)

abbrev pub IsRefused : Flags → List Text → Type 0
IsRefused flags words =
    IsFaulty flags words ⊎ BreaksARule flags (matches_of (description flags) words)

-- words that are read by flags are answered by that command's usage exactly where they are refused
abbrev pub HasUsageWhereRefused : List Text → Asked → Type 0
HasUsageWhereRefused words found =
    (command : Text) (rest : List Text) (flags : Flags) → words ≡ command ∷ rest
    → flags_of command ≡ Some flags
    → (found ≡ Usage (name_of flags)) ↔ IsRefused flags words
