-- What a statement and a joined line leave of the variables.
use Rattle.std.proofs.Common.{◌≡◌, ℕ, ◌+◌, true, false, List, length, take, drop, cond, ap, sym, subst, ◌∙◌, refl, Option, Some, None, Result, Ok, Err}
use Rattle.std.specs.Prelude.{◌==◌}
use Rattle.std.specs.Option.{ok_or, option_map}
use Rattle.std.specs.List.{position}
use Rattle.std.specs.FinMap as map
use Rattle.port_vars.specs.declared.fault.LineKind.{LineKind}
use Rattle.port_vars.specs.declared.fault.LineKind.TheVariants.{Reference}
use Rattle.port_vars.specs.declared.fault.LineError.{LineError}
use Rattle.port_vars.specs.declared.fault.LineError.TheVariants.{Bad, NoMemory}
use Rattle.port_vars.specs.declared.limits.Limits.{Limits}
use Rattle.port_vars.specs.declared.operator.Operator.{Operator}
use Rattle.bulk_base.specs.Trim.{trim}
use Rattle.port_vars.specs.Reference.{Values, is_name, expanded}
use Rattle.port_vars.specs.Assignment.{Assignment, operator_in, name_in, within, assigned, mapped, readable, stated, statement, said, ◌>>=◌}
use Rattle.port_vars.specs.Variables.{Vars, after, after_line}
use Rattle.port_vars.specs.Answers.{Answers, Leaves}
use Rattle.port_vars.proofs.Assigned.{assigned_fault, assigned_text}
use Rattle.port_vars.proofs.Changed.{first_bytes_do}

abbrev equals_at : List ℕ → ℕ → Type 0
equals_at text equals = position (λ b. b == 61) text ≡ Some equals

fault_same : (kind : LineKind) → (let x : Result (List ℕ) LineKind = Err Reference in x) ≡ Err kind → (let x : Result Vars LineKind = Err Reference in x) ≡ Err kind
fault_same kind h = cc

-- the answer of the call that replaces references is a fault
fault_case : (limit : ℕ) (vars new : Vars) (text : List ℕ) (equals : ℕ) (kind : LineKind) → equals_at text equals → is_name (name_in (take equals text)) ≡ true
    → (o : Option (List ℕ)) → expanded (map.get vars) (trim (drop (equals + 1) text)) ≡ o
    → ok_or (option_map (take (limit + 1)) o) Reference ≡ Err kind → mapped (after vars) (assigned limit (map.get vars) text) ≡ Err kind
fault_case limit vars new text equals kind e good None x h = ap (mapped (after vars)) (assigned_fault limit (map.get vars) text equals e good x) ∙ fault_same kind h
fault_case limit vars new text equals kind e good (Some found) x h = cc

pub expanded_err : (limit : ℕ) (vars new : Vars) (text : List ℕ) (equals : ℕ) (e : LineError) → equals_at text equals → is_name (name_in (take equals text)) ≡ true
    → Answers (ok_or (option_map (take (limit + 1)) (expanded (map.get vars) (trim (drop (equals + 1) text)))) Reference) (Err e)
    → Leaves (mapped (after vars) (assigned limit (map.get vars) text)) (Err e) new
expanded_err limit vars new text equals (Bad kind) at good h = fault_case limit vars new text equals kind at good _ refl h
expanded_err limit vars new text equals NoMemory at good h = tt

text_case : (limit : ℕ) (vars : Vars) (text : List ℕ) (equals : ℕ) (first : List ℕ) → equals_at text equals → is_name (name_in (take equals text)) ≡ true
    → (o : Option (List ℕ)) → expanded (map.get vars) (trim (drop (equals + 1) text)) ≡ o
    → ok_or (option_map (take (limit + 1)) o) Reference ≡ Ok first
    → mapped (after vars) (within limit (map.get vars) (record { name = name_in (take equals text); operator = operator_in (take equals text); text = first }))
    ≡ mapped (after vars) (assigned limit (map.get vars) text)
text_case limit vars text equals first e good None x h = absurd (let no : (let x : Result (List ℕ) LineKind = Err Reference in x) ≡ Ok first = h in cc)
text_case limit vars text equals first e good (Some found) x h =
    let cut : first ≡ take (limit + 1) found = cc in
    ap (λ t. mapped (after vars) (within limit (map.get vars) (record { name = name_in (take equals text); operator = operator_in (take equals text); text = t }))) cut
    ∙ first_bytes_do limit vars (name_in (take equals text)) (operator_in (take equals text)) found
    ∙ sym (ap (mapped (after vars)) (assigned_text limit (map.get vars) text equals found e good x))

pub expanded_ok : (limit : ℕ) (vars new : Vars) (text : List ℕ) (equals : ℕ) (name first : List ℕ) (operator : Operator) (result : Result (Unit {0}) LineError)
    → equals_at text equals → name ≡ name_in (take equals text) → operator ≡ operator_in (take equals text) → is_name name ≡ true
    → Answers (ok_or (option_map (take (limit + 1)) (expanded (map.get vars) (trim (drop (equals + 1) text)))) Reference) (Ok first)
    → Leaves (mapped (after vars) (within limit (map.get vars) (record { name = name; operator = operator; text = first }))) result new
    → Leaves (mapped (after vars) (assigned limit (map.get vars) text)) result new
expanded_ok limit vars new text equals name first operator result e n o good h leaves =
    subst (λ says. Leaves says result new)
    (ap (λ x. mapped (after vars) (within limit (map.get vars) (record { name = x; operator = operator; text = first }))) n
    ∙ ap (λ x. mapped (after vars) (within limit (map.get vars) (record { name = name_in (take equals text); operator = x; text = first }))) o
    ∙ text_case limit vars text equals first e (ap is_name (sym n) ∙ good) _ refl h)
    leaves

-- joined lines
said_is : (limits : Limits) (values : Values) (line : List ℕ) → said limits values line ≡ (readable limits.line line >>= λ text. stated limits.value values (statement text))
unfolding said
said_is limits values line = refl

said_readable : (limits : Limits) (values : Values) (line text : List ℕ) → readable limits.line line ≡ Ok text → said limits values line ≡ stated limits.value values (statement text)
said_readable limits values line text e = said_is limits values line ∙ ap (λ r. r >>= λ x. stated limits.value values (statement x)) e

said_fault : (limits : Limits) (values : Values) (line : List ℕ) (kind : LineKind) → readable limits.line line ≡ Err kind → said limits values line ≡ Err kind
said_fault limits values line kind e = said_is limits values line ∙ ap (λ r. r >>= λ x. stated limits.value values (statement x)) e

pub readable_err : (limits : Limits) (vars new : Vars) (line : List ℕ) (e : LineError) → Answers (readable limits.line line) (Err e) → Leaves (mapped (after_line vars) (said limits (map.get vars) line)) (Err e) new
readable_err limits vars new line (Bad kind) h = ap (mapped (after_line vars)) (said_fault limits (map.get vars) line kind h)
readable_err limits vars new line NoMemory h = tt

stated_empty : (limit : ℕ) (values : Values) (text : List ℕ) → (length text == 0) ≡ true → stated limit values text ≡ Ok None
unfolding stated
stated_empty limit values text e = ap (λ b. cond b (Ok None) (mapped Some (assigned limit values text))) e

stated_some : (limit : ℕ) (values : Values) (text : List ℕ) → (length text == 0) ≡ false → stated limit values text ≡ mapped Some (assigned limit values text)
unfolding stated
stated_some limit values text e = ap (λ b. cond b (Ok None) (mapped Some (assigned limit values text))) e

pub empty_line : (limits : Limits) (vars : Vars) (line text : List ℕ) → readable limits.line line ≡ Ok text → (length (statement text) == 0) ≡ true
    → mapped (after_line vars) (said limits (map.get vars) line) ≡ Ok vars
empty_line limits vars line text e empty = ap (mapped (after_line vars)) (said_readable limits (map.get vars) line text e ∙ stated_empty limits.value (map.get vars) (statement text) empty)

after_some : (vars : Vars) (r : Result Assignment LineKind) → mapped (after_line vars) (mapped Some r) ≡ mapped (after vars) r
after_some vars (Ok by) = refl
after_some vars (Err kind) = refl

pub stated_line : (limits : Limits) (vars new : Vars) (line text : List ℕ) (result : Result (Unit {0}) LineError) → readable limits.line line ≡ Ok text → (length (statement text) == 0) ≡ false
    → Leaves (mapped (after vars) (assigned limits.value (map.get vars) (statement text))) result new
    → Leaves (mapped (after_line vars) (said limits (map.get vars) line)) result new
stated_line limits vars new line text result e some leaves =
    subst (λ says. Leaves says result new)
    (sym (ap (mapped (after_line vars)) (said_readable limits (map.get vars) line text e ∙ stated_some limits.value (map.get vars) (statement text) some)
    ∙ after_some vars (assigned limits.value (map.get vars) (statement text))))
    leaves
