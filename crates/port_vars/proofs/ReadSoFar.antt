-- What the loop over a file's joined lines keeps.
use Rattle.std.proofs.Common.{◌≡◌, ℕ, ◌+◌, ◌≤◌, ◌<◌, Bool, not, List, [], ◌∷◌, length, get_or, drop, cond, ap, sym, ◌∙◌, refl, Option, Some, None, Result, Ok, Err}
use Rattle.std.specs.Prelude.{bytes_eq}
use Rattle.std.specs.Ordering.{nat_cmp, eq_by_cmp}
use Rattle.std.specs.Cmp.{eq_by_cmp_equiv}
use Rattle.std.specs.Cmp.Lexicographic.{slice_cmp, nat_list_cmp_total, texts_ties}
use Rattle.std.specs.FinMap as map
use Rattle.std.specs.FinMap.{get-insert, get-empty}
use Rattle.std.proofs.lemmas.List.{drop_more, drop_all}
use mathlib.Core.Path.{fun_ext}
use Rattle.port_vars.specs.declared.fault.LineKind.{LineKind}
use Rattle.port_vars.specs.declared.fault.LineKind.TheVariants.{TooLong}
use Rattle.port_vars.specs.declared.fault.VarsError.{VarsError}
use Rattle.port_vars.specs.declared.fault.VarsError.TheVariants.{BadLine, NoMemory}
use Rattle.port_vars.specs.declared.joined.Line.{Line}
use Rattle.port_vars.specs.declared.limits.Limits.{Limits}
use Rattle.port_vars.specs.Joined.{joined}
use Rattle.port_vars.specs.Assignment.{Assignment, value_by, said, mapped}
use Rattle.port_vars.specs.Variables.{Vars, value_after, variables, after, after_line, at_line, assignments_from, assignments, variables_within, value_where, value_within}
use Rattle.port_vars.specs.Answers.{LeavesAt}
use Rattle.port_vars.proofs.Decided.{le_true, le_false}

-- the finite map has the values
same_name : (last name : List ℕ) → eq_by_cmp (slice_cmp nat_cmp) name last ≡ bytes_eq last name
same_name last name = (eq_by_cmp_equiv nat_list_cmp_total).symm name last ∙ sym (texts_ties last name)

pub get-variables : (all : List Assignment) (name : List ℕ) → map.get (variables all) name ≡ value_after all name
get-variables [] name = get-empty (slice_cmp nat_cmp) name
get-variables (last ∷ above) name =
    get-insert nat_list_cmp_total (variables above) last.name (value_by (value_after above) last) name
    ∙ ap (λ b. cond b (Some (value_by (value_after above) last)) (map.get (variables above) name)) (same_name last.name name)
    ∙ ap (cond (bytes_eq last.name name) (Some (value_by (value_after above) last))) (get-variables above name)

values_are : (above : List Assignment) → map.get (variables above) ≡ value_after above
values_are above = fun_ext (get-variables above)

after_is : (above : List Assignment) (by : Assignment) → after (variables above) by ≡ variables (by ∷ above)
after_is above by = ap (λ values. map.insert (variables above) by.name (value_by values by)) (values_are above)

-- the variables so far are those of some assignments, and the rest reads on from these
pub record ReadSoFar (limits : Limits) (lines : List Line) (at : ℕ) (vars : Vars) : Type 0 where
  pub above : List Assignment
  pub same : vars ≡ variables above
  pub rest : assignments_from limits above (drop at lines) ≡ assignments_from limits [] lines

pub read_begin : (limits : Limits) (lines : List Line) (vars : Vars) → vars ≡ map.empty → ReadSoFar limits lines 0 vars
read_begin limits lines vars e = record { above = []; same = e; rest = refl }

abbrev go_on : Limits → List Assignment → Line → List Line → Result (Option Assignment) LineKind → Result (List Assignment) VarsError
go_on limits above line rest says = elim says [
  | Ok None ↦ assignments_from limits above rest
  | Ok (Some by) ↦ assignments_from limits (by ∷ above) rest
  | Err kind ↦ Err (at_line line.number kind)
]

abbrev says : Limits → List Assignment → Line → Result (Option Assignment) LineKind
says limits above line = said limits (value_after above) line.text

said_same : (limits : Limits) (vars : Vars) (above : List Assignment) (line : Line) → vars ≡ variables above → said limits (map.get vars) line.text ≡ says limits above line
said_same limits vars above line e = ap (λ m. said limits (map.get m) line.text) e ∙ ap (λ values. said limits values line.text) (values_are above)

at_front : (limits : Limits) (lines : List Line) (at : ℕ) (line : Line) (vars : Vars) → at < length lines → line ≡ get_or lines at line → (so_far : ReadSoFar limits lines at vars)
    → go_on limits so_far.above line (drop (at + 1) lines) (says limits so_far.above line) ≡ assignments_from limits [] lines
at_front limits lines at line vars l e so_far = ap (assignments_from limits so_far.above) (sym (drop_more lines at line l ∙ ap (λ x. x ∷ drop (at + 1) lines) (sym e))) ∙ so_far.rest

took : (limits : Limits) (lines : List Line) (at : ℕ) (line : Line) (vars new : Vars) (above : List Assignment) → vars ≡ variables above
    → (s : Result (Option Assignment) LineKind) → go_on limits above line (drop (at + 1) lines) s ≡ assignments_from limits [] lines
    → mapped (after_line vars) s ≡ Ok new → ReadSoFar limits lines (at + 1) new
took limits lines at line vars new above same (Ok None) rest h = let now : vars ≡ new = cc in record { above = above; same = sym now ∙ same; rest = rest }
took limits lines at line vars new above same (Ok (Some by)) rest h =
    let now : after vars by ≡ new = cc in
    record { above = by ∷ above; same = sym now ∙ ap (λ m. after m by) same ∙ after_is above by; rest = rest }
took limits lines at line vars new above same (Err kind) rest h = cc

pub read_line : (limits : Limits) (lines : List Line) (at : ℕ) (line : Line) (vars new : Vars) → at < length lines → line ≡ get_or lines at line
    → mapped (after_line vars) (said limits (map.get vars) line.text) ≡ Ok new
    → ReadSoFar limits lines at vars → ReadSoFar limits lines (at + 1) new
read_line limits lines at line vars new l e h so_far =
    took limits lines at line vars new so_far.above so_far.same (says limits so_far.above line) (at_front limits lines at line vars l e so_far)
    (ap (mapped (after_line vars)) (sym (said_same limits vars so_far.above line so_far.same)) ∙ h)

failed : (limits : Limits) (line : Line) (rest : List Line) (vars : Vars) (above : List Assignment) (kind : LineKind) (s : Result (Option Assignment) LineKind)
    → mapped (after_line vars) s ≡ Err kind → go_on limits above line rest s ≡ Err (at_line line.number kind)
failed limits line rest vars above kind (Ok None) h = cc
failed limits line rest vars above kind (Ok (Some by)) h = cc
failed limits line rest vars above kind (Err found) h = let same : found ≡ kind = cc in ap (λ k. Err (at_line line.number k)) same

abbrev by_size : Limits → List ℕ → Bool → Result (List Assignment) VarsError
by_size limits bytes fits = cond (not fits) (Err (at_line 0 TooLong)) (assignments_from limits [] (joined bytes))

assignments_are : (limits : Limits) (bytes : List ℕ) (lines : List Line) → length bytes ≤ limits.file → lines ≡ joined bytes → assignments limits bytes ≡ assignments_from limits [] lines
unfolding assignments
assignments_are limits bytes lines l e = ap (by_size limits bytes) (le_true _ _ l) ∙ ap (assignments_from limits []) (sym e)

pub too_long : (limits : Limits) (bytes : List ℕ) → limits.file < length bytes → variables_within limits bytes ≡ Err (BadLine 0 TooLong)
unfolding assignments
too_long limits bytes l = ap (λ b. mapped variables (by_size limits bytes b)) (le_false _ _ l)

pub read_all : (limits : Limits) (bytes : List ℕ) (lines : List Line) (at : ℕ) (vars : Vars) → length bytes ≤ limits.file → lines ≡ joined bytes → length lines ≤ at
    → ReadSoFar limits lines at vars → variables_within limits bytes ≡ Ok vars
read_all limits bytes lines at vars fits e l so_far =
    ap (mapped variables) (assignments_are limits bytes lines fits e ∙ sym so_far.rest ∙ ap (assignments_from limits so_far.above) (drop_all at lines l)) ∙ ap Ok (sym so_far.same)

pub read_fault : (limits : Limits) (bytes : List ℕ) (lines : List Line) (at : ℕ) (line : Line) (vars new : Vars) (fault : VarsError) → length bytes ≤ limits.file → lines ≡ joined bytes
    → at < length lines → line ≡ get_or lines at line → ReadSoFar limits lines at vars
    → LeavesAt line.number (mapped (after_line vars) (said limits (map.get vars) line.text)) (Err fault) new
    → (fault ≡ NoMemory → ⊥) → variables_within limits bytes ≡ Err fault
read_fault limits bytes lines at line vars new (BadLine number kind) fits e l is so_far h some =
    ap (mapped variables) (assignments_are limits bytes lines fits e ∙ sym (at_front limits lines at line vars l is so_far)
    ∙ failed limits line (drop (at + 1) lines) vars so_far.above kind (says limits so_far.above line) (ap (mapped (after_line vars)) (sym (said_same limits vars so_far.above line so_far.same)) ∙ h.1))
    ∙ ap (λ n. Err (BadLine n kind)) (sym h.0)
read_fault limits bytes lines at line vars new NoMemory fits e l is so_far h some = absurd (some refl)

-- each name's value
value_case : (r : Result (List Assignment) VarsError) (vars : Vars) (name : List ℕ) → mapped variables r ≡ Ok vars → map.get vars name ≡ value_where r name
value_case (Ok all) vars name h = let same : variables all ≡ vars = cc in ap (λ m. map.get m name) (sym same) ∙ get-variables all name
value_case (Err fault) vars name h = cc

pub each_value : (limits : Limits) (bytes : List ℕ) (vars : Vars) → variables_within limits bytes ≡ Ok vars → (name : List ℕ) → map.get vars name ≡ value_within limits bytes name
each_value limits bytes vars h name = value_case (assignments limits bytes) vars name h
