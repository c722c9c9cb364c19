-- One byte more than a variable file may have is enough to know its variables and its size.
use Rattle.std.proofs.Common.{◌≡◌, ℕ, ◌<◌, ◌≤◌, List, [], length, take, arith, ◌∙◌, sym, ap, refl, inl, inr, Result}
use Rattle.std.specs.Prelude.{Option, Some, None}
use Rattle.std.specs.Option.{option_map, option_map_or}
use Rattle.std.specs.declared.result.Result.TheVariants.{Ok, Err}
use Rattle.std.specs.FinMap.{empty}
use Rattle.std.proofs.lemmas.Bool.{cases_lt}
use Rattle.std.proofs.lemmas.List.{take_all, length-take}
use Rattle.port_vars.specs.declared.fault.LineKind.TheVariants.{TooLong}
use Rattle.port_vars.specs.declared.fault.VarsError.TheVariants.{BadLine}
use Rattle.port_vars.specs.Variables.{Vars, variables_of, list_variables_of, assignments, small, large}
use Rattle.port_vars.proofs.ReadSoFar.{too_long}
use Rattle.port_desc.proofs.Refused.{no_err}
use Rattle.tree_index.specs.declared.fault.IndexError.{IndexError}
use Rattle.tree_index.specs.Faults.{vars_fault, refused_as}
use Rattle.tree_index.specs.VarFiles.{vars_in, list_in}

length_first : (most : ℕ) (bytes : List ℕ) → most ≤ length bytes → length (take most bytes) ≡ most
length_first most bytes l = omega (arith, length-take most bytes)

-- where a file is refused for its length, its first bytes say what it sets
by_first_bytes : {A : Type 0} (read : List ℕ → A) (refused : A) (limit most : ℕ) → ((bytes : List ℕ) → limit < length bytes → read bytes ≡ refused) → limit < most
    → (bytes : List ℕ) → read (take most bytes) ≡ read bytes
by_first_bytes read refused limit most long m bytes = elim (cases_lt (length bytes) most) [
  | inl l ↦ ap read (take_all most bytes (omega arith))
  | inr g ↦ long (take most bytes) (omega (arith, m, length_first most bytes (omega arith))) ∙ sym (long bytes (omega arith))
]

long_file : (bytes : List ℕ) → small.file < length bytes → variables_of bytes ≡ Err (BadLine 0 TooLong)
unfolding variables_of
long_file bytes l = too_long small bytes l

long_list : (bytes : List ℕ) → large.file < length bytes → list_variables_of bytes ≡ Err (BadLine 0 TooLong)
unfolding list_variables_of
long_list bytes l = too_long large bytes l

no_variables : variables_of [] ≡ Ok empty
unfolding variables_of assignments
no_variables = refl

-- what is read of a file's first bytes is what is read of the file
found_by : (read : List ℕ → Result Vars IndexError) (most : ℕ) → ((bytes : List ℕ) → read (take most bytes) ≡ read bytes) → (bytes : List ℕ) (held : Option (List ℕ)) (absent : Result Vars IndexError)
    → Some bytes ≡ option_map (take most) held → option_map_or read held absent ≡ read bytes
found_by read most same bytes None absent h = cc
found_by read most same bytes (Some all) absent h =
    let first : bytes ≡ take most all = cc in
    sym (ap read first ∙ same all)

pub found_file : (most : ℕ) (path bytes : List ℕ) (held : Option (List ℕ)) (absent : Result Vars IndexError) → small.file < most → Some bytes ≡ option_map (take most) held
    → option_map_or (vars_in path) held absent ≡ vars_in path bytes
found_file most path bytes held absent m h = found_by (vars_in path) most (λ bytes. ap (refused_as (vars_fault path)) (by_first_bytes variables_of _ small.file most long_file m bytes)) bytes held absent h

pub found_list : (most : ℕ) (path bytes : List ℕ) (held : Option (List ℕ)) (absent : Result Vars IndexError) → large.file < most → Some bytes ≡ option_map (take most) held
    → option_map_or (list_in path) held absent ≡ list_in path bytes
found_list most path bytes held absent m h = found_by (list_in path) most (λ bytes. ap (refused_as (vars_fault path)) (by_first_bytes list_variables_of _ large.file most long_list m bytes)) bytes held absent h

-- where no bytes are found there is no file
pub no_file : {A : Type 0} (most : ℕ) (read : List ℕ → A) (held : Option (List ℕ)) (absent : A) → None ≡ option_map (take most) held → option_map_or read held absent ≡ absent
no_file most read None absent h = refl
no_file most read (Some all) absent h = cc

-- no bytes set no variables
pub no_bytes : (path : List ℕ) → vars_in path [] ≡ Ok empty
no_bytes path = ap (refused_as (vars_fault path)) no_variables

-- a file whose first bytes set variables has no others
pub found_size : (most : ℕ) (path bytes : List ℕ) (held : Option (List ℕ)) (vars : Vars) → small.file < most → Some bytes ≡ option_map (take most) held
    → vars_in path bytes ≡ Ok vars → option_map_or length held 0 ≡ length bytes
found_size most path bytes None vars m h read = cc
found_size most path bytes (Some all) vars m h read =
    let first : bytes ≡ take most all = cc in
    elim (cases_lt (length all) most) [
      | inl l ↦ sym (ap length (first ∙ take_all most all (omega arith)))
      | inr g ↦ absurd (no_err _ vars (sym (ap (refused_as (vars_fault path)) (long_file bytes (omega (arith, m, ap length first, length_first most all (omega arith))))) ∙ read))
    ]
