-- The steps by which a statement gives an assignment or a fault.
use Rattle.std.proofs.Common.{◌≡◌, ℕ, ◌+◌, true, false, List, take, drop, cond, ap, ◌∙◌, refl, Option, Some, None, Result, Ok, Err}
use Rattle.std.specs.Prelude.{◌==◌}
use Rattle.std.specs.Option.{ok_or}
use Rattle.std.specs.List.{position}
use Rattle.port_vars.specs.declared.fault.LineKind.{LineKind}
use Rattle.port_vars.specs.declared.fault.LineKind.TheVariants.{NoOperator, BadName, Reference}
use Rattle.bulk_base.specs.Trim.{trim}
use Rattle.port_vars.specs.Reference.{Values, is_name, expanded}
use Rattle.port_vars.specs.Assignment.{Assignment, operator_in, name_in, in_form, within, assigned, ◌>>=◌}

abbrev equals_in : List ℕ → Option ℕ
equals_in statement = position (λ b. b == 61) statement

abbrev with_text : ℕ → Values → List ℕ → ℕ → List ℕ → List ℕ → Result Assignment LineKind
with_text limit values statement equals name text = within limit values (record { name = name; operator = operator_in (take equals statement); text = text })

abbrev with_name : ℕ → Values → List ℕ → ℕ → List ℕ → Result Assignment LineKind
with_name limit values statement equals name = ok_or (expanded values (trim (drop (equals + 1) statement))) Reference >>= with_text limit values statement equals name

abbrev with_equals : ℕ → Values → List ℕ → ℕ → Result Assignment LineKind
with_equals limit values statement equals = in_form (name_in (take equals statement)) >>= with_name limit values statement equals

assigned_is : (limit : ℕ) (values : Values) (statement : List ℕ) → assigned limit values statement ≡ (ok_or (equals_in statement) NoOperator >>= with_equals limit values statement)
unfolding assigned
assigned_is limit values statement = refl

pub assigned_no_operator : (limit : ℕ) (values : Values) (statement : List ℕ) → position (λ b. b == 61) statement ≡ None → assigned limit values statement ≡ Err NoOperator
assigned_no_operator limit values statement e = assigned_is limit values statement ∙ ap (λ o. ok_or o NoOperator >>= with_equals limit values statement) e

at_equals : (limit : ℕ) (values : Values) (statement : List ℕ) (equals : ℕ) → equals_in statement ≡ Some equals → assigned limit values statement ≡ with_equals limit values statement equals
at_equals limit values statement equals e = assigned_is limit values statement ∙ ap (λ o. ok_or o NoOperator >>= with_equals limit values statement) e

pub assigned_bad_name : (limit : ℕ) (values : Values) (statement : List ℕ) (equals : ℕ) → position (λ b. b == 61) statement ≡ Some equals → is_name (name_in (take equals statement)) ≡ false
    → assigned limit values statement ≡ Err BadName
assigned_bad_name limit values statement equals e bad =
    at_equals limit values statement equals e ∙ ap (λ b. cond b (Ok (name_in (take equals statement))) (Err BadName) >>= with_name limit values statement equals) bad

at_name : (limit : ℕ) (values : Values) (statement : List ℕ) (equals : ℕ) → equals_in statement ≡ Some equals → is_name (name_in (take equals statement)) ≡ true
    → assigned limit values statement ≡ with_name limit values statement equals (name_in (take equals statement))
at_name limit values statement equals e good =
    at_equals limit values statement equals e ∙ ap (λ b. cond b (Ok (name_in (take equals statement))) (Err BadName) >>= with_name limit values statement equals) good

pub assigned_fault : (limit : ℕ) (values : Values) (statement : List ℕ) (equals : ℕ) → position (λ b. b == 61) statement ≡ Some equals → is_name (name_in (take equals statement)) ≡ true
    → expanded values (trim (drop (equals + 1) statement)) ≡ None → assigned limit values statement ≡ Err Reference
assigned_fault limit values statement equals e good none =
    at_name limit values statement equals e good ∙ ap (λ o. ok_or o Reference >>= with_text limit values statement equals (name_in (take equals statement))) none

pub assigned_text : (limit : ℕ) (values : Values) (statement : List ℕ) (equals : ℕ) (text : List ℕ) → position (λ b. b == 61) statement ≡ Some equals → is_name (name_in (take equals statement)) ≡ true
    → expanded values (trim (drop (equals + 1) statement)) ≡ Some text
    → assigned limit values statement ≡ within limit values (record { name = name_in (take equals statement); operator = operator_in (take equals statement); text = text })
assigned_text limit values statement equals text e good some =
    at_name limit values statement equals e good ∙ ap (λ o. ok_or o Reference >>= with_text limit values statement equals (name_in (take equals statement))) some
