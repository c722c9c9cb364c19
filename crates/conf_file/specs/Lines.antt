-- A line of poudriere.conf (the comments of poudriere.conf; docs/FORMATS.md, "poudriere.conf").
use Rattle.std.specs.Prelude.{ℕ, Bool, true, not, ◌==◌, ◌&&◌, ◌||◌, nat_lt, nat_eq, List, length, slice_index, drop, codes, bytes_eq, Option, Some, None, if◌then◌else◌}
use Rattle.std.specs.declared.result.Result.{Result}
use Rattle.std.specs.declared.result.Result.TheVariants.{Ok, Err}
use Rattle.std.specs.List.{list_all, list_any, starts_with, position_or_len, before_first}
use Rattle.std.specs.Char.{is_ascii_alphanumeric}
use Rattle.bulk_base.specs.Text.{is_text}
use Rattle.bulk_base.specs.Words.{is_blank}
use Rattle.bulk_base.specs.Trim.{trim_start, trim}
use Rattle.bulk_base.specs.Marks.{is_mark, front, back}
use Rattle.bulk_base.specs.Number.{is_number}
use Rattle.port_vars.specs.declared.fault.LineKind.TheVariants.{NotText, TooLong, NoOperator, BadName}
use Rattle.conf_file.specs.declared.fault.ConfKind.{ConfKind}
use Rattle.conf_file.specs.declared.fault.ConfKind.TheVariants.{Line, Quote, Value}

-- a setting: a name and its value
pub record Setting : Type 0 where
  pub name : List ℕ
  pub value : List ℕ

-- blanks alone, or a comment behind them
abbrev pub says_nothing : List ℕ → Bool
says_nothing text = let rest = trim_start text in (length rest == 0) || (slice_index rest 0 == 35)

-- the word `export` and a blank begin the text
abbrev pub is_exported : List ℕ → Bool
is_exported text = starts_with nat_eq text (codes "export") && is_blank (slice_index text 6)

-- a line without the blanks at its ends, and without `export` and the blanks behind it
abbrev pub statement : List ℕ → List ℕ
statement line = let text = trim line in if is_exported text then trim_start (drop 6 text) else text

abbrev pub is_name_byte : ℕ → Bool
is_name_byte b = is_ascii_alphanumeric b || (b == 95)

-- letters, digits and `_`, one at least
abbrev pub is_name : List ℕ → Bool
is_name text = nat_lt 0 (length text) && list_all is_name_byte text

-- a value behind a mark: up to the next such mark, behind which only a comment may stand
abbrev pub quoted : ℕ → List ℕ → Option (List ℕ)
quoted mark text = if list_any (is_mark mark) text && says_nothing (back mark text) then Some (front mark text) else None

-- a value without marks: up to the first blank, behind which only a comment may stand
abbrev pub plain : List ℕ → Option (List ℕ)
plain text = if says_nothing (drop (position_or_len is_blank text) text) then Some (before_first is_blank text) else None

-- the value in what stands behind the operator
abbrev pub value_in : List ℕ → Option (List ℕ)
value_in text = let mark = slice_index text 0 in if (mark == 34) || (mark == 39) then quoted mark (drop 1 text) else plain text

-- a value that a name may have: any, but for four names
abbrev pub is_value : List ℕ → List ℕ → Bool
is_value name value =
    if bytes_eq name (codes "PARALLEL_JOBS") then is_number value
    else (if bytes_eq name (codes "FLAVOR_DEFAULT_ALL") then bytes_eq value (codes "yes") || bytes_eq value (codes "no")
    else (if bytes_eq name (codes "CHECK_CHANGED_OPTIONS") then bytes_eq value (codes "verbose") || bytes_eq value (codes "yes")
    else (if bytes_eq name (codes "CHECK_CHANGED_DEPS") then bytes_eq value (codes "yes")
    else true)))

-- a name's setting, where its value is one that it may have
abbrev pub valued : List ℕ → Option (List ℕ) → Result Setting ConfKind
valued name None = Err Quote
valued name (Some value) = if is_value name value then Ok (record { name = name; value = value }) else Err (Value name)

-- the setting that a statement makes, or its first fault
abbrev pub stated : List ℕ → Result Setting ConfKind
stated text =
    let name = front 61 text in
    if not (list_any (is_mark 61) text) then Err (Line NoOperator)
    else (if not (is_name name) then Err (Line BadName)
    else valued name (value_in (back 61 text)))

-- a good answer, changed
abbrev pub mapped : {A B E : Type 0} → (A → B) → Result A E → Result B E
mapped f (Ok a) = Ok (f a)
mapped f (Err e) = Err e

-- what a line says: nothing, a setting, or its first fault
abbrev pub said : List ℕ → Result (Option Setting) ConfKind
said line =
    if not (is_text line) then Err (Line NotText)
    else (if nat_lt 8192 (length line) then Err (Line TooLong)
    else (if says_nothing line then Ok None
    else mapped Some (stated (statement line))))
