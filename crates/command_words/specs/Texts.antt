-- Matches whose values are texts: what the code asks of them before it copies a value. The values of every match are pieces
-- of the words, or clap's own for flags, so this holds of each that is read here.
use Rattle.std.specs.Prelude.{List, IsTrue}
use Rattle.std.specs.List.{AllByRecursion}
use Rattle.clap.specs.Walk.{Row, Text}
use Rattle.bulk_base.specs.Text.{has_text_bytes}

-- neither NUL nor a line feed is in any of these
abbrev pub HaveTextBytes : List Text → Type 0
HaveTextBytes texts = AllByRecursion (λ text. IsTrue (has_text_bytes text)) texts

-- nor in any value
abbrev pub RowsHaveTextBytes : List Row → Type 0
RowsHaveTextBytes rows = AllByRecursion (λ row. HaveTextBytes row.values) rows
