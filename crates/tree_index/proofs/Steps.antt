-- Steps that all succeed.
use Rattle.std.proofs.Common.{◌≡◌, refl, Result, Ok, Err}
use Rattle.port_vars.specs.Assignment.{◌>>=◌}
use Rattle.port_desc.proofs.Refused.{no_err}

pub ok_parts : {A B E : Type 0} (r : Result A E) (f : A → Result B E) (b : B) → (r >>= f) ≡ Ok b → (a : A) × (r ≡ Ok a) × (f a ≡ Ok b)
ok_parts (Ok a) f b h = (a, refl, h)
ok_parts (Err e) f b h = absurd (no_err e b h)
