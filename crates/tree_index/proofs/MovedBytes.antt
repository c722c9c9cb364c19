-- One byte more than MOVED may have is enough to know what it says.
use Rattle.std.proofs.Common.{◌≡◌, ℕ, ◌+◌, ◌<◌, true, false, List, [], length, take, arith, ◌∙◌, sym, ap, refl, inl, inr}
use Rattle.std.specs.Prelude.{nat_le, Option, Some, None, if◌then◌else◌}
use Rattle.std.specs.Option.{option_map, option_map_or}
use Rattle.std.specs.declared.result.Result.TheVariants.{Ok, Err}
use Rattle.std.proofs.lemmas.Bool.{cases_lt}
use Rattle.std.proofs.lemmas.Bool.Decides.{nat_tests}
use Rattle.std.proofs.lemmas.List.{take_all, length-take}
use Rattle.bulk_model.specs.declared.which.Which.TheVariants.{FileBytes}
use Rattle.moved_list.specs.Moved.{moved_of}
use Rattle.tree_index.specs.declared.fault.IndexError.TheVariants.{Limit}
use Rattle.tree_index.specs.Faults.{moved_fault, refused_as}
use Rattle.tree_index.specs.Places.{moved_file}
use Rattle.tree_index.specs.Tree.{moved_within, moved_in, most_file_bytes}

over : (n limit : ℕ) → limit < n → nat_le n limit ≡ false
over n limit l = grind (arith, nat_tests)

too_large : (most : ℕ) (bytes : List ℕ) → most < length bytes → moved_within most bytes ≡ Err (Limit FileBytes (most + 1))
too_large most bytes l = ap (λ b. if b then refused_as (moved_fault moved_file) (moved_of bytes) else Err (Limit FileBytes (most + 1))) (over (length bytes) most l)

first_bytes_tell : (most : ℕ) (bytes : List ℕ) → moved_within most (take (most + 1) bytes) ≡ moved_within most bytes
first_bytes_tell most bytes = elim (cases_lt most (length bytes)) [
  | inl l ↦ too_large most (take (most + 1) bytes) (omega (arith, length-take (most + 1) bytes)) ∙ sym (too_large most bytes l)
  | inr g ↦ ap (moved_within most) (take_all (most + 1) bytes (omega arith))
]

found_within : (most : ℕ) (bytes : List ℕ) (held : Option (List ℕ)) → Some bytes ≡ option_map (take (most + 1)) held → option_map_or (moved_within most) held (Ok []) ≡ moved_within most bytes
found_within most bytes None h = cc
found_within most bytes (Some all) h =
    let first : bytes ≡ take (most + 1) all = cc in
    sym (ap (moved_within most) first ∙ first_bytes_tell most all)

-- a file's first bytes say what it holds
pub found_moved : (bytes : List ℕ) (held : Option (List ℕ)) → Some bytes ≡ option_map (take (most_file_bytes + 1)) held → option_map_or moved_in held (Ok []) ≡ moved_in bytes
unfolding moved_in
found_moved bytes held h = found_within most_file_bytes bytes held h

-- where no bytes are found there is no file
pub no_moved : (most : ℕ) (held : Option (List ℕ)) → None ≡ option_map (take most) held → option_map_or moved_in held (Ok []) ≡ Ok []
no_moved most None h = refl
no_moved most (Some all) h = cc

no_lines : moved_of [] ≡ Ok []
no_lines = refl

none_within : (most : ℕ) → moved_within most [] ≡ Ok []
none_within most =
    let low : nat_le 0 most ≡ true = grind (arith, nat_tests) in
    ap (λ b. if b then refused_as (moved_fault moved_file) (moved_of []) else Err (Limit FileBytes (most + 1))) low ∙ ap (refused_as (moved_fault moved_file)) no_lines

-- no bytes say nothing
pub no_bytes : moved_in [] ≡ Ok []
unfolding moved_in
no_bytes = none_within most_file_bytes
