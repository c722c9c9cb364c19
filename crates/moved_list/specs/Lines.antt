-- The lines of MOVED (Porter's Handbook, "MOVED"; docs/FORMATS.md).
use Rattle.std.specs.Prelude.{ℕ, Bool, ◌&&◌, ◌||◌, ◌==◌, nat_le, List, length, slice_index, count_by, Option, Some, None, if◌then◌else◌}
use Rattle.std.specs.List.{list_all, before_first, after_first}
use Rattle.bulk_base.specs.Text.{is_text}
use Rattle.bulk_base.specs.Words.{is_blank}
use Rattle.port_name.specs.Forms.{is_node}
use Rattle.moved_list.specs.declared.line.MovedLine.{MovedLine}

abbrev pub is_bar : ℕ → Bool
is_bar b = b == 124

-- a line that says nothing: it has only blanks, or begins with `#`
abbrev pub is_ignored : List ℕ → Bool
is_ignored line = list_all is_blank line || (slice_index line 0 == 35)

-- the new name in a field: none where the field is empty
abbrev pub name_in : List ℕ → Option (List ℕ)
name_in field = if length field == 0 then None else Some field

-- what a line says: the old name, the new name and the date, each before a bar, and the reason behind the third bar
abbrev pub entry : List ℕ → MovedLine
entry line =
    let behind = after_first is_bar line in
    let last = after_first is_bar behind in
    record {
      from = before_first is_bar line;
      to = name_in (before_first is_bar behind);
      date = before_first is_bar last;
      reason = after_first is_bar last;
    }

abbrev pub has_three_bars : List ℕ → Bool
has_three_bars line = nat_le 3 (count_by is_bar line)

-- three bars at least, an old name in form, and a new one in form or none
abbrev pub is_entry : List ℕ → Bool
is_entry line =
    let to = before_first is_bar (after_first is_bar line) in
    has_three_bars line && is_node (before_first is_bar line) && ((length to == 0) || is_node to)

-- a line in form: a text that says nothing or is an entry
abbrev pub is_moved_line : List ℕ → Bool
is_moved_line line = is_text line && (is_ignored line || is_entry line)
