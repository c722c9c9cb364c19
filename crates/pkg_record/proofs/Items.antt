-- Items read one behind another, as a loop reads them.
use Rattle.std.proofs.Common.{◌≡◌, ℕ, ◌+◌, ◌-◌, ◌<◌, ◌≤◌, suc, List, [], ◌∷◌, ◌++◌, Result, Ok, Err, arith, refl, ap, sym, ◌∙◌}
use Rattle.pkg_record.specs.declared.fault.Fault.{Fault}
use Rattle.pkg_record.specs.declared.fault.ReadError.{ReadError}
use Rattle.pkg_record.specs.declared.fault.ReadError.TheVariants as errors
use Rattle.pkg_record.specs.Reading.{Fails, items_at}

module _ {X : Type 0} (item : List X → List ℕ → Result (X × List ℕ) Fault) (count i : ℕ) (before : List X) (bytes : List ℕ) (total : Result (List X × List ℕ) Fault) where
  pub goes_on : (x : X) (after : List ℕ) → i < count → item before bytes ≡ Ok (x, after)
      → items_at item (count - i) before bytes ≡ total → items_at item (count - (i + 1)) (before ++ x ∷ []) after ≡ total
  unfolding items_at
  goes_on x after lt h so_far =
      let k : count - i ≡ suc (count - (i + 1)) = omega arith in
      let one : items_at item (count - i) before bytes ≡ items_at item (count - (i + 1)) (before ++ x ∷ []) after = rw (k, h) refl in
      sym one ∙ so_far

  pub ends : (e : ReadError) → i < count → Fails e (item before bytes) → items_at item (count - i) before bytes ≡ total → Fails e total
  unfolding items_at
  ends errors.Memory lt h so_far = tt
  ends (errors.Found f) lt h so_far =
      let k : count - i ≡ suc (count - (i + 1)) = omega arith in
      let one : items_at item (count - i) before bytes ≡ Err f = rw (k, h) refl in
      sym so_far ∙ one

  pub is_done : count ≤ i → items_at item (count - i) before bytes ≡ total → total ≡ Ok (before, bytes)
  unfolding items_at
  is_done le so_far =
      let k : count - i ≡ 0 = omega arith in
      let one : items_at item (count - i) before bytes ≡ Ok (before, bytes) = rw k refl in
      sym so_far ∙ one

pub begins : {X : Type 0} (item : List X → List ℕ → Result (X × List ℕ) Fault) (count : ℕ) (bytes : List ℕ) → items_at item (count - 0) [] bytes ≡ items_at item count [] bytes
begins item count bytes = ap (λ n. items_at item n [] bytes) (omega arith)
