-- Which command is a dry run (poudriere-bulk(8), "-n").
use Rattle.std.specs.Prelude.{Bool, false}
use Rattle.command_words.specs.declared.asked.Asked.{Asked}
use Rattle.command_words.specs.declared.asked.Asked.TheVariants.{Bulk}

-- `bulk` with `-n`
abbrev pub is_dry_run : Asked → Bool
is_dry_run (Bulk words) = words.dry_run
is_dry_run _ = false
