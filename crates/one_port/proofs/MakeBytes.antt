-- What the first bytes of a make.conf say of it.
use Rattle.std.proofs.Common.{◌≡◌, ℕ, ◌<◌, ◌≤◌, List, [], length, take, ◌∙◌, ap, sym, refl, arith, inl, inr, Err}
use Rattle.std.specs.Prelude.{Option, Some, None, unwrap_or}
use Rattle.std.specs.Option.{option_map}
use Rattle.std.proofs.lemmas.Bool.{cases_lt}
use Rattle.std.proofs.lemmas.List.{take_all, length-take}
use Rattle.port_vars.specs.declared.fault.LineKind.TheVariants.{TooLong}
use Rattle.port_vars.specs.declared.fault.VarsError.TheVariants.{BadLine}
use Rattle.port_vars.specs.Variables.{variables_of, small}
use Rattle.port_vars.proofs.ReadSoFar.{too_long}
use Rattle.conf_file.specs.Make.{make_of, make_where}

same_bytes : (a b : List ℕ) → Some a ≡ Some b → a ≡ b
same_bytes a b e = ap (λ o. unwrap_or o []) e

long_file : (bytes : List ℕ) → small.file < length bytes → variables_of bytes ≡ Err (BadLine 0 TooLong)
unfolding variables_of
long_file bytes l = too_long small bytes l

length_first : (bytes : List ℕ) → 65537 ≤ length bytes → length (take 65537 bytes) ≡ 65537
length_first bytes l = omega (arith, length-take 65537 bytes)

by_first_bytes : (bytes : List ℕ) → variables_of (take 65537 bytes) ≡ variables_of bytes
by_first_bytes bytes = elim (cases_lt (length bytes) 65537) [
  | inl l ↦ ap variables_of (take_all 65537 bytes (omega arith))
  | inr g ↦ long_file (take 65537 bytes) (omega (arith, length_first bytes (omega arith))) ∙ sym (long_file bytes (omega arith))
]

-- one byte more than a variable file may have is enough
pub first_bytes : (bytes : List ℕ) (held : Option (List ℕ)) → Some bytes ≡ option_map (take 65537) held → make_of (unwrap_or held []) ≡ make_of bytes
first_bytes bytes None e = absurd (cc)
first_bytes bytes (Some all) e = ap make_where (sym (by_first_bytes all)) ∙ ap make_of (sym (same_bytes bytes (take 65537 all) e))

-- a file that is not there says what an empty one does
pub no_bytes : (held : Option (List ℕ)) → None ≡ option_map (take 65537) held → make_of (unwrap_or held []) ≡ make_of []
no_bytes None e = refl
no_bytes (Some all) e = absurd (cc)
