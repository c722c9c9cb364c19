-- The last line of an old name, by a map from names to places.
use Rattle.std.proofs.Common.{◌≡◌, ℕ, ◌+◌, ◌<◌, Bool, true, false, List, [], ◌∷◌, ◌++◌, length, arith, ◌∙◌, ap, refl, sym, zero, suc, cond, subst}
use Rattle.std.specs.Prelude.{Option, Some, None, find, bytes_eq, slice_get}
use Rattle.std.specs.Ordering.{nat_cmp, eq_by_cmp}
use Rattle.std.specs.Cmp.{eq_by_cmp_equiv}
use Rattle.std.specs.Cmp.Lexicographic.{slice_cmp, nat_list_cmp_total, texts_ties}
use Rattle.std.specs.FinMap as map
use Rattle.std.specs.FinMap.{FinMap, get-insert}
use Rattle.std.proofs.lemmas.List.{reverse-append, length-append}
use Rattle.moved_list.specs.declared.line.MovedLine.{MovedLine}
use Rattle.moved_list.specs.Moved.{last_line, IsPlaceOf}

slice_get_seam : {X : Type 0} (xs : List X) (y : X) → slice_get (xs ++ y ∷ []) (length xs) ≡ Some y
slice_get_seam [] y = refl
slice_get_seam (x ∷ xs) y = slice_get_seam xs y

slice_get_front : {X : Type 0} (xs : List X) (y : X) (at : ℕ) → at < length xs → slice_get (xs ++ y ∷ []) at ≡ slice_get xs at
slice_get_front [] y at l = absurd (omega arith)
slice_get_front (x ∷ xs) y zero l = refl
slice_get_front (x ∷ xs) y (suc at) l = slice_get_front xs y at (omega arith)

last_push : (done : List MovedLine) (line : MovedLine) (name : List ℕ) → last_line (done ++ line ∷ []) name ≡ cond (bytes_eq line.from name) (Some line) (last_line done name)
last_push done line name = ap (find (λ l. bytes_eq l.from name)) (reverse-append done (line ∷ []))

longer : (done : List MovedLine) (line : MovedLine) → length (done ++ line ∷ []) ≡ length done + 1
longer done line = length-append done (line ∷ [])

place_case : (done : List MovedLine) (line : MovedLine) (name : List ℕ) (place : Option ℕ) (t : Bool) → bytes_eq line.from name ≡ t → IsPlaceOf done name place
    → IsPlaceOf (done ++ line ∷ []) name (cond t (Some (length done)) place)
place_case done line name place true e h = record {
  line = last_push done line name ∙ ap (λ b. cond b (Some line) (last_line done name)) e ∙ sym (slice_get_seam done line);
  within = omega (arith, longer done line);
}
place_case done line name None false e h = record {
  line = last_push done line name ∙ ap (λ b. cond b (Some line) (last_line done name)) e ∙ h.line;
  within = tt;
}
place_case done line name (Some at) false e h =
    let low : at < length done = h.within in
    record {
      line = last_push done line name ∙ ap (λ b. cond b (Some line) (last_line done name)) e ∙ h.line ∙ sym (slice_get_front done line at low);
      within = omega (arith, longer done line, low);
    }

abbrev Places : Type 0
Places = FinMap (slice_cmp nat_cmp) ℕ

same_name : (key name : List ℕ) → eq_by_cmp (slice_cmp nat_cmp) name key ≡ bytes_eq key name
same_name key name = (eq_by_cmp_equiv nat_list_cmp_total).symm name key ∙ sym (texts_ties key name)

get_put : (places : Places) (key : List ℕ) (at : ℕ) (name : List ℕ) → map.get (map.insert places key at) name ≡ cond (bytes_eq key name) (Some at) (map.get places name)
get_put places key at name = get-insert nat_list_cmp_total places key at name ∙ ap (λ b. cond b (Some at) (map.get places name)) (same_name key name)

-- a line more, with its place put into the map
pub place_push : (done : List MovedLine) (line : MovedLine) (places : Places) → ((name : List ℕ) → IsPlaceOf done name (map.get places name))
    → (name : List ℕ) → IsPlaceOf (done ++ line ∷ []) name (map.get (map.insert places line.from (length done)) name)
place_push done line places h name =
    subst (IsPlaceOf (done ++ line ∷ []) name) (sym (get_put places line.from (length done) name)) (place_case done line name (map.get places name) (bytes_eq line.from name) refl (h name))

pub no_places : (places : Places) → places ≡ map.empty → (name : List ℕ) → IsPlaceOf [] name (map.get places name)
no_places places e name = subst (IsPlaceOf [] name) (sym (ap (λ m. map.get m name) e ∙ map.get-empty (slice_cmp nat_cmp) name)) (record { line = refl; within = tt })
