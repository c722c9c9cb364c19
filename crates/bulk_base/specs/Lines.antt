-- The lines of a file, as places in it (docs/FORMATS.md; std's `lines` says which).
use Rattle.std.specs.Prelude.{ℕ, ◌≤◌, ◌+◌, ◌-◌, ◌==◌, Bool, List, [], ◌∷◌, length, take, drop, map, if◌then◌else◌}
use Rattle.std.specs.List.{slice_split}
use Rattle.std.specs.Str.Lines.{strip_carriage_return}
use Rattle.bulk_base.specs.declared.line.Span.{Span}

-- the bytes at a span
abbrev pub bytes_at : List ℕ → Span → List ℕ
bytes_at bytes span = take (span.to - span.from) (drop span.from bytes)

-- the bytes at each span
abbrev pub cut_at : List ℕ → List Span → List (List ℕ)
cut_at bytes spans = map (bytes_at bytes) spans

-- the span lies in the bytes
pub record IsSpanWithin (bytes : List ℕ) (span : Span) : Type 0 where
  pub order : span.from ≤ span.to
  pub within : span.to ≤ length bytes

abbrev pub is_line_feed : ℕ → Bool
is_line_feed b = b == 10

abbrev pub span : ℕ → ℕ → Span
span from size = record { from = from; to = from + size }

-- the lines that pieces between line feeds make, the first piece from a place on: a piece before a line feed without a
-- carriage return at its end, and the last piece whole, if it has a byte
abbrev pub spans_from : ℕ → List (List ℕ) → List Span
spans_from start [] = []
spans_from start (piece ∷ []) = if length piece == 0 then [] else span start (length piece) ∷ []
spans_from start (piece ∷ next ∷ more) = span start (length (strip_carriage_return piece)) ∷ spans_from (start + length piece + 1) (next ∷ more)

-- where the lines of a file stand
abbrev pub spans_of : List ℕ → List Span
spans_of bytes = spans_from 0 (slice_split is_line_feed bytes)
