-- Comments (docs/FORMATS.md, "Variable files").
use Rattle.std.specs.Prelude.{ℕ, ◌==◌, List, [], ◌∷◌, ◌++◌, if◌then◌else◌}
use Rattle.std.specs.List.{slice_split}
use Rattle.port_vars.specs.Joined.{ends_in_backslash, without_last}

-- what is kept of the pieces between `#`: the first, and behind a piece that ends in `\` a `#` and the next
abbrev pub kept : List (List ℕ) → List ℕ
kept [] = []
kept (piece ∷ []) = piece
kept (piece ∷ next ∷ more) = if ends_in_backslash piece then without_last piece ++ 35 ∷ kept (next ∷ more) else piece

-- a joined line without its comment, `#` for each `\#`
unfoldable pub uncommented : List ℕ → List ℕ
uncommented line = kept (slice_split (λ b. b == 35) line)
