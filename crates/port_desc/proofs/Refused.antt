-- Steps that may fail, one after another.
use Rattle.std.proofs.Common.{◌≡◌, List, [], ◌++◌, ap, refl, Result, Ok, Err}
use Rattle.port_vars.specs.Assignment.{mapped, ◌>>=◌}

pub ok_then : {A B E : Type 0} (r : Result A E) (f : A → Result B E) (a : A) → r ≡ Ok a → (r >>= f) ≡ f a
ok_then r f a h = ap (λ x. x >>= f) h

pub err_then : {A B E : Type 0} (r : Result A E) (f : A → Result B E) (e : E) → r ≡ Err e → (r >>= f) ≡ Err e
err_then r f e h = ap (λ x. x >>= f) h

-- behind nothing an answer is the same
pub mapped-none : {A E : Type 0} (r : Result (List A) E) → mapped (λ rest. [] ++ rest) r ≡ r
mapped-none (Ok rest) = refl
mapped-none (Err e) = refl

pub mapped-mapped : {A B C E : Type 0} (f : B → C) (g : A → B) (r : Result A E) → mapped f (mapped g r) ≡ mapped (λ a. f (g a)) r
mapped-mapped f g (Ok a) = refl
mapped-mapped f g (Err e) = refl

-- a good answer that is changed at the end
pub then_ok : {A B E : Type 0} (r : Result A E) (f : A → B) → (r >>= λ a. Ok (f a)) ≡ mapped f r
then_ok (Ok a) f = refl
then_ok (Err e) f = refl

pub mapped_alike : {A B E : Type 0} (f g : A → B) (r : Result A E) → ((a : A) → f a ≡ g a) → mapped f r ≡ mapped g r
mapped_alike f g (Ok a) same = ap Ok (same a)
mapped_alike f g (Err e) same = refl

pub same_ok : {A E : Type 0} (a b : A) → (let r : Result A E = Ok a in r) ≡ Ok b → a ≡ b
same_ok a b h = cc

pub no_err : {A E : Type 0} (e : E) (a : A) → (let r : Result A E = Err e in r) ≡ Ok a → ⊥
no_err e a h = cc
