-- What a joined line says: nothing, an assignment or a fault (docs/FORMATS.md, "Variable files").
use Rattle.std.specs.Prelude.{ℕ, ◌+◌, ◌==◌, ◌&&◌, ◌||◌, not, nat_le, List, ◌∷◌, ◌++◌, length, slice_index, ◌-◌, take, drop, if◌then◌else◌}
use Rattle.std.specs.declared.option.Option.{Option}
use Rattle.std.specs.declared.option.Option.TheVariants.{None, Some}
use Rattle.std.specs.declared.result.Result.{Result}
use Rattle.std.specs.declared.result.Result.TheVariants.{Ok, Err}
use Rattle.std.specs.Option.{ok_or}
use Rattle.std.specs.List.{position}
use Rattle.std.specs.Str.{is_utf8}
use Rattle.bulk_base.specs.Text.{has_text_bytes}
use Rattle.port_vars.specs.declared.fault.LineKind.{LineKind}
use Rattle.port_vars.specs.declared.fault.LineKind.TheVariants.{NotText, TooLong, NoOperator, BadName, Reference}
use Rattle.port_vars.specs.declared.operator.Operator.{Operator}
use Rattle.port_vars.specs.declared.operator.Operator.TheVariants.{Set, Append, Default}
use Rattle.port_vars.specs.declared.limits.Limits.{Limits}
use Rattle.bulk_base.specs.Trim.{trim}
use Rattle.port_vars.specs.Joined.{without_last}
use Rattle.port_vars.specs.Comment.{uncommented}
use Rattle.port_vars.specs.Reference.{Values, is_name, expanded}

-- an assignment: a name, an operator, and a text without references
pub record Assignment : Type 0 where
  pub name : List ℕ
  pub operator : Operator
  pub text : List ℕ

-- a step that may fail, then the next
infixl 10 ◌>>=◌
abbrev pub ◌>>=◌ : {A B E : Type 0} → Result A E → (A → Result B E) → Result B E
Ok a >>= f = f a
Err e >>= f = Err e

-- a good answer, changed
abbrev pub mapped : {A B E : Type 0} → (A → B) → Result A E → Result B E
mapped f (Ok a) = Ok (f a)
mapped f (Err e) = Err e

-- the operator, by what stands before the first `=`: its last byte may be `+` or `?`
abbrev pub operator_in : List ℕ → Operator
operator_in before = let last = slice_index before (length before - 1) in if last == 43 then Append else (if last == 63 then Default else Set)

-- the name in what stands before the first `=`
unfoldable pub name_in : List ℕ → List ℕ
name_in before = let last = slice_index before (length before - 1) in trim (if (last == 43) || (last == 63) then without_last before else before)

-- the value of a variable that had a value or none before
abbrev pub changed : Operator → Option (List ℕ) → List ℕ → List ℕ
changed Set before text = text
changed Append None text = text
changed Append (Some value) text = if length value == 0 then text else value ++ 32 ∷ text
changed Default None text = text
changed Default (Some value) text = value

-- the value of the assignment's variable after it
abbrev pub value_by : Values → Assignment → List ℕ
value_by values by = changed by.operator (values by.name) by.text

-- a name in form, else BadName
abbrev pub in_form : List ℕ → Result (List ℕ) LineKind
in_form name = if is_name name then Ok name else Err BadName

-- an assignment after which its variable has at most so many bytes, else TooLong
abbrev pub within : ℕ → Values → Assignment → Result Assignment LineKind
within limit values by = if nat_le (length (value_by values by)) limit then Ok by else Err TooLong

-- the assignment that a statement makes where variables have these values
unfoldable pub assigned : ℕ → Values → List ℕ → Result Assignment LineKind
assigned limit values statement = do
  equals ← ok_or (position (λ b. b == 61) statement) NoOperator
  name ← in_form (name_in (take equals statement))
  text ← ok_or (expanded values (trim (drop (equals + 1) statement))) Reference
  within limit values (record { name = name; operator = operator_in (take equals statement); text = text })

-- a joined line without its comment and the blanks at its ends
abbrev pub statement : List ℕ → List ℕ
statement line = trim (uncommented line)

-- what a statement says: nothing where it is empty
unfoldable pub stated : ℕ → Values → List ℕ → Result (Option Assignment) LineKind
stated limit values text = if length text == 0 then Ok None else mapped Some (assigned limit values text)

-- a joined line that may be read: it holds no line feed, so it is no text where it holds NUL or is not UTF-8
unfoldable pub readable : ℕ → List ℕ → Result (List ℕ) LineKind
readable limit line =
    if not (is_utf8 line && has_text_bytes line) then Err NotText
    else (if nat_le (length line) limit then Ok line else Err TooLong)

-- what a joined line says
unfoldable pub said : Limits → Values → List ℕ → Result (Option Assignment) LineKind
said limits values line = do
  text ← readable limits.line line
  stated limits.value values (statement text)
