-- What the test of a line means.
use Rattle.std.proofs.Common.{◌≡◌, ℕ, true, List}
use Rattle.std.proofs.lemmas.Bool.{and_parts}
use Rattle.bulk_base.specs.Text.{IsText, is_text}
use Rattle.bulk_base.proofs.TextTests.{IsText-from_is_text}
use Rattle.moved_list.specs.Lines.{is_moved_line}

-- a line in form is a text
pub IsText-moved_line : (line : List ℕ) → is_moved_line line ≡ true → IsText line
IsText-moved_line line h = IsText-from_is_text line (and_parts (is_text line) _ h).0
