-- What a record gives, from its package's lines and from the line behind them.
use Rattle.std.proofs.Common.{◌≡◌, ◌≢◌, ℕ, ◌-◌, Bool, true, false, List, length, codes, refl, ap, sym, subst, ◌∙◌}
use Rattle.std.specs.Prelude.{◌==◌, Result, Ok, Err, cond, bytes_eq}
use Rattle.bulk_model.specs.declared.version.Version.{Version}
use Rattle.bulk_model.specs.Digests.{is_digest}
use Rattle.bulk_model.specs.Views.{PackageView}
use Rattle.pkg_record.specs.declared.answer.Record.{Record}
use Rattle.pkg_record.specs.declared.fault.Fault.{Fault}
use Rattle.pkg_record.specs.declared.fault.Fault.TheVariants.{Short, Misfit}
use Rattle.pkg_record.specs.declared.fault.ReadError.{ReadError}
use Rattle.pkg_record.specs.declared.fault.ReadError.TheVariants as errors
use Rattle.pkg_record.specs.declared.fault.RecordError.{RecordError}
use Rattle.pkg_record.specs.declared.fault.RecordError.TheVariants as records
use Rattle.pkg_record.specs.Said.{word_behind}
use Rattle.pkg_record.specs.Laws.{IsForDigest}
use Rattle.pkg_record.specs.Reading.{◌>>=◌, Fails, said_at, unsigned_at, last_at, Signed, signed, signed_at, digest_before, answer, judged, refusal, record_of}

abbrev Told : Type 0
Told = Version × PackageView

abbrev with_digest : Told → ℕ → List ℕ → Result Signed Fault
with_digest p size stated = Ok (signed p stated size)

abbrev ended : List ℕ × List ℕ → Result (List ℕ) Fault
ended digest = cond (length digest.1 == 0) (Ok digest.0) (Err (Misfit (length digest.1)))

abbrev signed_end : Told → ℕ → List ℕ × List ℕ → Result Signed Fault
signed_end p size digest = cond (length digest.1 == 0) (Ok (signed p digest.0 size)) (Err (Misfit (length digest.1)))

end_case : (p : Told) (size : ℕ) (stated : List ℕ) (fault : Fault) (b : Bool)
    → (let r : Result Signed Fault = cond b (Ok (signed p stated size)) (Err fault) in r) ≡ ((let r : Result (List ℕ) Fault = cond b (Ok stated) (Err fault) in r) >>= with_digest p size)
end_case p size stated fault true = refl
end_case p size stated fault false = refl

end_is : (p : Told) (size : ℕ) (r : Result (List ℕ × List ℕ) Fault) → (r >>= signed_end p size) ≡ ((r >>= ended) >>= with_digest p size)
end_is p size (Ok digest) = end_case p size digest.0 (Misfit (length digest.1)) (length digest.1 == 0)
end_is p size (Err fault) = refl

signed_from : (bytes last : List ℕ) (p : Told) → unsigned_at bytes ≡ Ok (p, last) → signed_at bytes ≡ (last_at last >>= with_digest p (length bytes - length last))
unfolding signed_at
signed_from bytes last p e =
    ap (λ r. r >>= λ x. said_at (word_behind (codes "sha256 ") is_digest) x.1 >>= signed_end x.0 (length bytes - length x.1)) e
    ∙ end_is p (length bytes - length last) (said_at (word_behind (codes "sha256 ") is_digest) last)

fails_then : {A B : Type 0} (error : ReadError) (r : Result A Fault) (f : A → Result B Fault) → Fails error r → Fails error (r >>= f)
fails_then errors.Memory r f h = tt
fails_then (errors.Found fault) r f h = ap (λ x. x >>= f) h

refused : (bytes : List ℕ) (error : ReadError) (r : Result Signed Fault) → Fails error r → refusal (length bytes) error ≢ records.NoMemory → judged bytes r ≡ Err (refusal (length bytes) error)
unfolding judged
refused bytes errors.Memory r h some = absurd (some refl)
refused bytes (errors.Found fault) r h some = ap (judged bytes) h

pub unsigned_refused : (bytes : List ℕ) (error : ReadError) → Fails error (unsigned_at bytes) → refusal (length bytes) error ≢ records.NoMemory → record_of bytes ≡ Err (refusal (length bytes) error)
unfolding signed_at
unsigned_refused bytes error h some =
    refused bytes error (signed_at bytes) (fails_then error (unsigned_at bytes) (λ x. said_at (word_behind (codes "sha256 ") is_digest) x.1 >>= signed_end x.0 (length bytes - length x.1)) h) some

pub last_refused : (bytes last : List ℕ) (error : ReadError) → Fails error (last_at last) → refusal (length bytes) error ≢ records.NoMemory → (p : Told) → unsigned_at bytes ≡ Ok (p, last)
    → record_of bytes ≡ Err (refusal (length bytes) error)
last_refused bytes last error h some p e =
    refused bytes error (signed_at bytes)
    (subst (Fails error) (sym (signed_from bytes last p e)) (fails_then error (last_at last) (with_digest p (length bytes - length last)) h)) some

pub no_digest : (bytes : List ℕ) (error : ReadError) → IsForDigest bytes (refusal (length bytes) error)
no_digest bytes errors.Memory = tt
no_digest bytes (errors.Found Short) = tt
no_digest bytes (errors.Found (Misfit left)) = tt

module _ (bytes last stated found : List ℕ) (states : last_at last ≡ Ok stated) (is : found ≡ digest_before (length bytes - length last) bytes) (p : Told) (e : unsigned_at bytes ≡ Ok (p, last)) where
  pub all_signed : signed_at bytes ≡ Ok (signed p stated (length bytes - length last))
  all_signed = signed_from bytes last p e ∙ ap (λ r. r >>= with_digest p (length bytes - length last)) states

  abbrev answered : Bool → List ℕ → Result Record RecordError
  answered b other = cond b (Ok (answer p.0 p.1)) (Err (records.BadDigest stated other))

  judged_by : (b : Bool) → bytes_eq stated found ≡ b → record_of bytes ≡ answered b found
  unfolding judged
  judged_by b h = ap (judged bytes) all_signed ∙ ap (λ other. answered (bytes_eq stated other) other) (sym is) ∙ ap (λ same. answered same found) h

  pub stated_right : bytes_eq stated found ≡ true → record_of bytes ≡ Ok (answer p.0 p.1)
  stated_right h = judged_by true h

  pub stated_wrong : bytes_eq stated found ≡ false → record_of bytes ≡ Err (records.BadDigest stated found)
  stated_wrong h = judged_by false h
