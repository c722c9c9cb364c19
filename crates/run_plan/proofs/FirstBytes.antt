-- What the first bytes of a file of settings say of it.
use Rattle.std.proofs.Common.{◌≡◌, ℕ, ◌<◌, ◌≤◌, List, [], length, take, Result, Err, ◌∙◌, ap, sym, refl, arith, inl, inr, cond}
use Rattle.std.specs.Prelude.{Option, Some, None, unwrap_or, nat_lt}
use Rattle.std.specs.Option.{option_map}
use Rattle.std.specs.Str.Lines.{lines}
use Rattle.std.proofs.lemmas.Bool.{cases_lt, lt-ltb}
use Rattle.std.proofs.lemmas.List.{take_all, length-take}
use Rattle.port_vars.specs.declared.fault.LineKind.TheVariants.{TooLong}
use Rattle.port_vars.specs.declared.fault.VarsError.TheVariants.{BadLine as BadVars}
use Rattle.port_vars.specs.Variables.{variables_of, small}
use Rattle.port_vars.proofs.ReadSoFar.{too_long}
use Rattle.conf_file.specs.declared.conf_reader.Conf.{Conf}
use Rattle.conf_file.specs.declared.make.MakeConf.{MakeConf}
use Rattle.conf_file.specs.declared.fault.ConfError.{ConfError}
use Rattle.conf_file.specs.declared.fault.ConfError.TheVariants.{BadLine}
use Rattle.conf_file.specs.declared.fault.ConfKind.TheVariants.{Line}
use Rattle.conf_file.specs.Conf.{conf_of, conf_by, settings_from}
use Rattle.conf_file.specs.Make.{make_of, make_where}
use Rattle.conf_file.specs.Lines.{mapped}

same_bytes : (a b : List ℕ) → Some a ≡ Some b → a ≡ b
same_bytes a b e = ap (λ o. unwrap_or o []) e

length_first : (bytes : List ℕ) → 65537 ≤ length bytes → length (take 65537 bytes) ≡ 65537
length_first bytes l = omega (arith, length-take 65537 bytes)

-- a reader that says the same of all files of more than 65,536 bytes
abbrev IsBounded : {X : Type 0} → (List ℕ → X) → X → Type 0
IsBounded read long = (bytes : List ℕ) → 65536 < length bytes → read bytes ≡ long

by_first_bytes : {X : Type 0} (read : List ℕ → X) (long : X) (bytes : List ℕ) → IsBounded read long → read (take 65537 bytes) ≡ read bytes
by_first_bytes read long bytes h = elim (cases_lt (length bytes) 65537) [
  | inl l ↦ ap read (take_all 65537 bytes (omega arith))
  | inr g ↦ h (take 65537 bytes) (omega (arith, length_first bytes (omega arith))) ∙ sym (h bytes (omega arith))
]

-- one byte more than such a file may have is enough
first_bytes : {X : Type 0} (read : List ℕ → X) (long : X) (bytes : List ℕ) (held : Option (List ℕ)) → IsBounded read long
    → Some bytes ≡ option_map (take 65537) held → read (unwrap_or held []) ≡ read bytes
first_bytes read long bytes None h e = absurd (cc)
first_bytes read long bytes (Some all) h e = sym (by_first_bytes read long all h) ∙ ap read (sym (same_bytes bytes (take 65537 all) e))

-- a file that is not there says what an empty one does
pub no_bytes : {X : Type 0} (read : List ℕ → X) (held : Option (List ℕ)) → None ≡ option_map (take 65537) held → read (unwrap_or held []) ≡ read []
no_bytes read None e = refl
no_bytes read (Some all) e = absurd (cc)

long_make : IsBounded make_of (make_where (Err (BadVars 0 TooLong)))
unfolding variables_of
long_make bytes l = ap make_where (too_long small bytes l)

long_conf : IsBounded conf_of (Err (BadLine 0 (Line TooLong)))
long_conf bytes l = ap (λ b. cond b (Err (BadLine 0 (Line TooLong))) (mapped conf_by (settings_from 1 (lines bytes)))) (lt-ltb 65536 (length bytes) l)

pub first_of_make : (bytes : List ℕ) (held : Option (List ℕ)) → Some bytes ≡ option_map (take 65537) held → make_of (unwrap_or held []) ≡ make_of bytes
first_of_make bytes held e = first_bytes make_of _ bytes held long_make e

pub first_of_conf : (bytes : List ℕ) (held : Option (List ℕ)) → Some bytes ≡ option_map (take 65537) held → conf_of (unwrap_or held []) ≡ conf_of bytes
first_of_conf bytes held e = first_bytes conf_of _ bytes held long_conf e
