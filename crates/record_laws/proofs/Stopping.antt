-- What is Short, and what has a bad field.
use Rattle.std.proofs.Common.{◌≡◌, ℕ, ◌+◌, ◌-◌, ◌≤◌, arith, Bool, true, false, List, [], length, refl, ap, ap₂, subst, ◌∙◌}
use Rattle.std.specs.Prelude.{Result, Ok, Err, cond, bytes_eq}
use Rattle.pkg_record.specs.declared.answer.Record.{Record}
use Rattle.pkg_record.specs.declared.fault.RecordError.{RecordError}
use Rattle.pkg_record.specs.declared.fault.RecordError.TheVariants.{Short, BadField, BadDigest, NoMemory}
use Rattle.pkg_record.specs.Reading.{Signed, signed_at, error_of, digest_before, answer, judged}
use Rattle.record_laws.specs.Units.{State, the_end, version_line, shape, EndsIn, IsReached, IsUnfinished, IsUnfitAt, ShortIsUnfinished, BadFieldIsUnfit}
use Rattle.record_laws.proofs.Shapes.{Halts, fits_ends, one_halt, reaches_within}
use Rattle.record_laws.proofs.Stages.{StopsBehind, Comes, signed_comes}

abbrev refused : RecordError → Result Record RecordError
refused error = Err error

same_error : (a b : RecordError) → refused a ≡ refused b → a ≡ b
same_error a b e = cc

abbrev by_digest : Bool → Record → List ℕ → List ℕ → Result Record RecordError
by_digest b x stated found = cond b (Ok x) (Err (BadDigest stated found))

never_short : (b : Bool) (x : Record) (stated found : List ℕ) → by_digest b x stated found ≡ refused Short → ⊥
never_short true x stated found e = cc
never_short false x stated found e = cc

never_field : (b : Bool) (x : Record) (stated found : List ℕ) (place : ℕ) → by_digest b x stated found ≡ refused (BadField place) → ⊥
never_field true x stated found place e = cc
never_field false x stated found place e = cc

still : (state : State) (rest : List ℕ) → (EndsIn (shape state) rest → ⊥) → Halts state rest
still state rest h next after f = h (fits_ends state rest next after f)

end_halts : Halts the_end []
end_halts next after f = f.1

module _ (bytes : List ℕ) where
  abbrev size : ℕ
  size = length bytes

  -- two ends are one
  one_end : (state last : State) (rest left : List ℕ) → IsReached bytes state rest → IsReached bytes last left → Halts state rest → Halts last left → (state ≡ last) × (rest ≡ left)
  one_end state last rest left f g h k = one_halt f.0 g.0 version_line bytes state last rest left f.1 g.1 h k

  -- ---- Short

  unfinished : StopsBehind size version_line bytes Short → IsUnfinished bytes
  unfinished s = record { state = s.0; rest = s.1; reached = (s.2, s.3); expects = s.4.0; unended = s.4.1 }

  short_on : (r : Result Signed _) → Comes size (error_of size) version_line bytes r → judged bytes r ≡ Err Short → IsUnfinished bytes
  unfolding judged
  short_on (Ok s) o e = absurd (never_short (bytes_eq s.stated (digest_before s.size bytes)) (answer s.version s.read) s.stated (digest_before s.size bytes) e)
  short_on (Err fault) o e = unfinished (subst (StopsBehind size version_line bytes) (same_error (error_of size fault) Short e) o)

  module _ (u : IsUnfinished bytes) where
    is_short : (error : RecordError) → StopsBehind size version_line bytes error → error ≡ Short
    is_short Short s = refl
    is_short (BadField place) s =
        let one = one_end s.0 u.state s.1 u.rest (s.2, s.3) u.reached s.4.2 (still u.state u.rest u.unended) in
        absurd (u.unended (subst (λ (x : State × List ℕ). EndsIn (shape x.0) x.1) (ap₂ (λ t r. (t, r)) one.0 one.1) s.4.1))
    is_short (BadDigest stated found) s = absurd s.4
    is_short NoMemory s = absurd s.4

    short_back : (r : Result Signed _) → Comes size (error_of size) version_line bytes r → judged bytes r ≡ Err Short
    unfolding judged
    short_back (Ok s) o =
        absurd (u.expects (one_end u.state the_end u.rest [] u.reached o (still u.state u.rest u.unended) end_halts).0)
    short_back (Err fault) o = ap refused (is_short (error_of size fault) o)

  -- ---- a bad field

  place_before : (place : ℕ) (rest : List ℕ) → length rest ≤ length bytes → place ≡ size - length rest → place + length rest ≡ length bytes
  place_before place rest l e = omega (arith, l, e)

  place_from : (place : ℕ) (rest : List ℕ) → place + length rest ≡ length bytes → size - length rest ≡ place
  place_from place rest e = omega (arith, e)

  unfit_at : (place : ℕ) → StopsBehind size version_line bytes (BadField place) → IsUnfitAt bytes place
  unfit_at place s = record { state = s.0; rest = s.1; reached = (s.2, s.3); before = place_before place s.1 (reaches_within s.2 version_line bytes s.0 s.1 s.3) s.4.0; ends = s.4.1; unfit = s.4.2 }

  field_on : (place : ℕ) (r : Result Signed _) → Comes size (error_of size) version_line bytes r → judged bytes r ≡ Err (BadField place) → IsUnfitAt bytes place
  unfolding judged
  field_on place (Ok s) o e = absurd (never_field (bytes_eq s.stated (digest_before s.size bytes)) (answer s.version s.read) s.stated (digest_before s.size bytes) place e)
  field_on place (Err fault) o e = unfit_at place (subst (StopsBehind size version_line bytes) (same_error (error_of size fault) (BadField place) e) o)

  module _ (place : ℕ) (u : IsUnfitAt bytes place) where
    ends_at : (state : State) (rest : List ℕ) → (u.state ≡ state) × (u.rest ≡ rest) → EndsIn (shape state) rest
    ends_at state rest one = subst (λ (x : State × List ℕ). EndsIn (shape x.0) x.1) (ap₂ (λ t r. (t, r)) one.0 one.1) u.ends

    is_field : (error : RecordError) → StopsBehind size version_line bytes error → error ≡ BadField place
    is_field Short s =
        absurd (s.4.1 (ends_at s.0 s.1 (one_end u.state s.0 u.rest s.1 u.reached (s.2, s.3) u.unfit (still s.0 s.1 s.4.1))))
    is_field (BadField other) s =
        let one = one_end s.0 u.state s.1 u.rest (s.2, s.3) u.reached s.4.2 u.unfit in
        ap (λ n. BadField n) (s.4.0 ∙ ap (λ r. size - length r) one.1 ∙ place_from place u.rest u.before)
    is_field (BadDigest stated found) s = absurd s.4
    is_field NoMemory s = absurd s.4

    field_back : (r : Result Signed _) → Comes size (error_of size) version_line bytes r → judged bytes r ≡ Err (BadField place)
    unfolding judged
    field_back (Ok s) o = absurd (ends_at the_end [] (one_end u.state the_end u.rest [] u.reached o u.unfit end_halts) refl)
    field_back (Err fault) o = ap refused (is_field (error_of size fault) o)

pub short_is_unfinished : ShortIsUnfinished
short_is_unfinished bytes = (
  short_on bytes (signed_at bytes) (signed_comes (length bytes) bytes),
  λ u. short_back bytes u (signed_at bytes) (signed_comes (length bytes) bytes),
)

pub bad_field_is_unfit : BadFieldIsUnfit
bad_field_is_unfit bytes place = (
  field_on bytes place (signed_at bytes) (signed_comes (length bytes) bytes),
  λ u. field_back bytes place u (signed_at bytes) (signed_comes (length bytes) bytes),
)
