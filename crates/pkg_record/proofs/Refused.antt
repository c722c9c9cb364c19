-- What comes of the front of a record, and of a record with another digest.
use Rattle.std.proofs.Common.{◌≡◌, ℕ, ◌-◌, true, false, List, [], ◌++◌, length, codes, arith, ap, sym, ◌∙◌, inl, inr, ◌⊎◌}
use Rattle.std.specs.Prelude.{◌==◌, ◌≢◌, Result, Ok, Err, IfOk, IfErr, cond, bytes_eq}
use Rattle.std.proofs.lemmas.Bool.{false_from_ne_true}
use Rattle.std.proofs.lemmas.List.{length-append, nil_from_length}
use Rattle.std.proofs.lemmas.Slice.Eq.{bytes_eq-Decides}
use Rattle.std.proofs.Math.Seq.{take-append_seam}
use Rattle.bulk_model.specs.declared.version.Version.{Version}
use Rattle.bulk_model.specs.Digests.{digest_of, hex, is_digest}
use Rattle.bulk_model.specs.Lines.{line}
use Rattle.bulk_model.specs.Spelling.{unsigned, signed_with}
use Rattle.bulk_model.specs.Views.{PackageView}
use Rattle.pkg_record.specs.declared.answer.Record.{Record}
use Rattle.pkg_record.specs.declared.fault.Fault.{Fault}
use Rattle.pkg_record.specs.declared.fault.Fault.TheVariants.{Short, Misfit}
use Rattle.pkg_record.specs.declared.fault.RecordError.{RecordError}
use Rattle.pkg_record.specs.declared.fault.RecordError.TheVariants as records
use Rattle.pkg_record.specs.Said.{word_behind}
use Rattle.pkg_record.specs.Reading.{◌>>=◌, said_at, unsigned_at, Signed, signed, signed_at, digest_before, answer, judged, record_of}
use Rattle.pkg_record.specs.Laws.{HasRecord, IsRefusedAs}
use Rattle.pkg_record.proofs.Fronts.{Same, said_fronts, unsigned_fronts}
use Rattle.pkg_record.proofs.Without.{told_as}
use Rattle.pkg_record.proofs.SpelledAgain.{unsigned_again, signed_again, last_line_again}

nothing_behind : (left more : List ℕ) → left ++ more ≡ [] → more ≡ []
nothing_behind left more e = nil_from_length more (omega (arith, ap length e, length-append left more))

abbrev Told : Type 0
Told = Version × PackageView

abbrev after_lines : List ℕ → Told × List ℕ → Result Signed Fault
after_lines bytes t =
    said_at (word_behind (codes "sha256 ") is_digest) t.1 >>= λ digest. cond (length digest.1 == 0) (Ok (signed t.0 digest.0 (length bytes - length t.1))) (Err (Misfit (length digest.1)))

abbrev after_digest : List ℕ → Told × List ℕ → List ℕ × List ℕ → Result Signed Fault
after_digest bytes t digest = cond (length digest.1 == 0) (Ok (signed t.0 digest.0 (length bytes - length t.1))) (Err (Misfit (length digest.1)))

module _ (version : Version) (p : PackageView) (stated bytes more : List ℕ) (some : more ≢ []) where
  abbrev told : Told
  told = (version, told_as version p)

  last_case : (s : Same unsigned_at bytes more told (line (codes "sha256 " ++ stated)))
      → (said_at (word_behind (codes "sha256 ") is_digest) s.left ≡ Err Short) ⊎ Same (said_at (word_behind (codes "sha256 ") is_digest)) s.left more stated [] → signed_at bytes ≡ Err Short
  unfolding signed_at
  last_case s (inl short) = ap (λ r. r >>= after_lines bytes) s.reads ∙ ap (λ r. r >>= after_digest bytes (told, s.left)) short
  last_case s (inr t) = absurd (some (nothing_behind t.left more t.front))

  lines_case : is_digest stated ≡ true → (unsigned_at bytes ≡ Err Short) ⊎ Same unsigned_at bytes more told (line (codes "sha256 " ++ stated)) → signed_at bytes ≡ Err Short
  unfolding signed_at
  lines_case d (inl short) = ap (λ r. r >>= after_lines bytes) short
  lines_case d (inr s) =
      last_case s (said_fronts (word_behind (codes "sha256 ") is_digest) s.left more stated [] (ap (said_at (word_behind (codes "sha256 ") is_digest)) s.front ∙ last_line_again stated d))

  signed_short : HasRecord version p → is_digest stated ≡ true → signed_with version stated p ≡ bytes ++ more → signed_at bytes ≡ Err Short
  signed_short h d e =
      lines_case d (unsigned_fronts bytes more told (line (codes "sha256 " ++ stated)) (ap unsigned_at (sym e) ∙ unsigned_again version p (line (codes "sha256 " ++ stated)) h))

  -- the front of a record is Short
  pub short_front : HasRecord version p → is_digest stated ≡ true → signed_with version stated p ≡ bytes ++ more → record_of bytes ≡ Err records.Short
  unfolding judged
  short_front h d e = ap (judged bytes) (signed_short h d e)

-- a record with another digest
differ : (a b : List ℕ) → a ≢ b → bytes_eq a b ≡ false
differ a b n = false_from_ne_true (bytes_eq a b) (λ h. n ((bytes_eq-Decides a b).0 h))

pub other_digest : (version : Version) (p : PackageView) (stated : List ℕ) → HasRecord version p → is_digest stated ≡ true → stated ≢ hex (digest_of (unsigned version p))
    → record_of (signed_with version stated p) ≡ Err (records.BadDigest stated (hex (digest_of (unsigned version p))))
unfolding judged
other_digest version p stated h d n =
    let lines = unsigned version p in
    let found : List ℕ = hex (digest_of lines) in
    let read : Record = answer version (told_as version p) in
    let is : digest_before (length lines) (signed_with version stated p) ≡ found =
    ap (λ b. hex (digest_of b)) (take-append_seam lines (line (codes "sha256 " ++ stated))) in
    ap (judged (signed_with version stated p)) (signed_again version p stated h d)
    ∙ ap (λ x. cond (bytes_eq stated x) (Ok read) (Err (records.BadDigest stated x))) is
    ∙ ap (λ b. cond b (Ok read) (Err (records.BadDigest stated found))) (differ stated found n)

-- the answer is what the reading from left to right gives
abbrev answered : Record → Result Record RecordError
answered x = Ok x

abbrev refused : RecordError → Result Record RecordError
refused e = Err e

never_ok : (x : Record) (e : RecordError) → answered x ≡ refused e → ⊥
never_ok x e h = cc

same_error : (a b : RecordError) → refused a ≡ refused b → a ≡ b
same_error a b h = cc

pub is_refused : (bytes : List ℕ) (r : Result Record RecordError) (error : RecordError) → IfOk r (λ x. record_of bytes ≡ Ok x) → IfErr r (λ e. e ≢ records.NoMemory → record_of bytes ≡ Err e)
    → record_of bytes ≡ Err error → IsRefusedAs r error
is_refused bytes (Ok x) error ok err h = absurd (never_ok x error (sym ok ∙ h))
is_refused bytes (Err e) error ok err h = λ n. same_error e error (sym (err n) ∙ h)
