-- What stands before a slash of a path, as a loop over the path finds it; it is a path too.
use Rattle.std.proofs.Common.{◌≡◌, ℕ, ◌+◌, ◌-◌, ◌<◌, ◌≤◌, Bool, true, false, List, [], ◌∷◌, ◌++◌, length, get_or, take, drop, zero, suc, arith, ap, sym, ◌∙◌, refl, subst, cond, append-nil}
use Rattle.std.specs.Prelude.{◌&&◌, ◌==◌}
use Rattle.std.specs.List.{list_all}
use Rattle.std.specs.Str.{IsCharBoundary}
use Rattle.std.proofs.lemmas.Bool.{and_from, and_parts}
use Rattle.std.proofs.lemmas.Bool.Decides.{nat_tests}
use Rattle.std.proofs.lemmas.List.{take_all, drop_all, take_more, drop_more, take-append-drop, length-take, append_assoc}
use Rattle.std.proofs.lemmas.List.Folds.{list_all-append}
use Rattle.std.proofs.lemmas.Str.{IsUtf8-between, IsCharBoundary-start, IsCharBoundary-before_ascii}
use Rattle.bulk_base.specs.Path.{IsPath, is_path, is_part, is_slash, parts}
use Rattle.bulk_base.specs.Text.{IsText, is_text, is_text_byte}
use Rattle.bulk_base.proofs.Paths.{slice_split-append}
use Rattle.bulk_base.proofs.TextBytes.{list_all-take}
use Rattle.bulk_base.proofs.TextTests.{is_text-from_IsText}
use Rattle.overlay_tree.specs.Places.{before_slash, port_of}

-- the front is what was passed and the front of what is left
pub record FrontSoFar (path : List ℕ) (left at : ℕ) : Type 0 where
  pub few : left ≤ 2
  pub front : port_of path ≡ take at path ++ before_slash left (drop at path)

pub front_begin : (path : List ℕ) → FrontSoFar path 2 0
front_begin path = record { few = omega arith; front = refl }

at_slash : (left : ℕ) (path : List ℕ) → 0 < left → before_slash left (47 ∷ path) ≡ 47 ∷ before_slash (left - 1) path
at_slash zero path l = absurd (omega arith)
at_slash (suc left) path l = let e : suc left - 1 ≡ left = omega arith in ap (λ n. 47 ∷ before_slash n path) (sym e)

at_other : (left x : ℕ) (path : List ℕ) → (x == 47) ≡ false → before_slash left (x ∷ path) ≡ x ∷ before_slash left path
at_other zero x path e = ap (λ b. cond b [] (x ∷ before_slash zero path)) e
at_other (suc left) x path e = ap (λ b. cond b (x ∷ before_slash left path) (x ∷ before_slash (suc left) path)) e

onward : (path : List ℕ) (at : ℕ) (rest : List ℕ) → at < length path → take at path ++ get_or path at 0 ∷ rest ≡ take (at + 1) path ++ rest
onward path at rest l = sym (append_assoc (take at path) (get_or path at 0 ∷ []) rest) ∙ ap (λ t. t ++ rest) (sym (take_more path at 0 l))

pub front_pass : (path : List ℕ) (left at : ℕ) → at < length path → (get_or path at 0 == 47) ≡ false → FrontSoFar path left at → FrontSoFar path left (at + 1)
front_pass path left at l e so_far = record {
  few = so_far.few;
  front =
      so_far.front ∙ ap (λ r. take at path ++ before_slash left r) (drop_more path at 0 l)
      ∙ ap (λ r. take at path ++ r) (at_other left (get_or path at 0) (drop (at + 1) path) e)
      ∙ onward path at (before_slash left (drop (at + 1) path)) l;
}

pub front_slash : (path : List ℕ) (left at : ℕ) → at < length path → get_or path at 0 ≡ 47 → 0 < left → FrontSoFar path left at → FrontSoFar path (left - 1) (at + 1)
front_slash path left at l e some so_far = record {
  few = (let f : left ≤ 2 = so_far.few in omega arith);
  front =
      so_far.front ∙ ap (λ r. take at path ++ before_slash left r) (drop_more path at 0 l)
      ∙ ap (λ x. take at path ++ before_slash left (x ∷ drop (at + 1) path)) e
      ∙ ap (λ r. take at path ++ r) (at_slash left (drop (at + 1) path) some)
      ∙ ap (λ x. take at path ++ x ∷ before_slash (left - 1) (drop (at + 1) path)) (sym e)
      ∙ onward path at (before_slash (left - 1) (drop (at + 1) path)) l;
}

pub front_found : (path : List ℕ) (left at : ℕ) → at < length path → get_or path at 0 ≡ 47 → left ≡ 0 → FrontSoFar path left at → take at path ≡ port_of path
front_found path left at l e none so_far =
    sym (so_far.front ∙ ap (λ r. take at path ++ before_slash left r) (drop_more path at 0 l)
    ∙ ap (λ x. take at path ++ before_slash left (x ∷ drop (at + 1) path)) e
    ∙ ap (λ n. take at path ++ before_slash n (47 ∷ drop (at + 1) path)) none ∙ append-nil (take at path))

nothing_left : (left : ℕ) → before_slash left [] ≡ []
nothing_left zero = refl
nothing_left (suc left) = refl

pub front_whole : (path : List ℕ) (left at : ℕ) → length path ≤ at → FrontSoFar path left at → path ≡ port_of path
front_whole path left at l so_far =
    sym (so_far.front ∙ ap (λ r. take at path ++ before_slash left r) (drop_all at path l)
    ∙ ap (λ r. take at path ++ r) (nothing_left left) ∙ append-nil (take at path) ∙ take_all at path l)

-- what stands before a slash of a text is a text, and of a path a path
pub front_text : (path : List ℕ) (at : ℕ) → at < length path → get_or path at 0 ≡ 47 → IsText path → is_text (take at path) ≡ true
front_text path at l e h =
    let bound : IsCharBoundary path at = IsCharBoundary-before_ascii path at l (omega (arith, e)) in
    let same : at - 0 ≡ at = omega arith in
    is_text-from_IsText (take at path) (rw same at (IsUtf8-between path 0 at h.0 (omega arith) (IsCharBoundary-start path h.0) bound), list_all-take is_text_byte at path h.1)

pub front_path : (path : List ℕ) (at : ℕ) → at < length path → get_or path at 0 ≡ 47 → is_path path ≡ true → is_path (take at path) ≡ true
front_path path at l e h =
    let rest : List ℕ = drop (at + 1) path in
    let whole : path ≡ take at path ++ 47 ∷ rest =
    sym (take-append-drop at path) ∙ ap (λ r. take at path ++ r) (drop_more path at 0 l ∙ ap (λ x. x ∷ rest) e) in
    let good : list_all is_part (parts path) ≡ (list_all is_part (parts (take at path)) && list_all is_part (parts rest)) =
    ap (λ p. list_all is_part (parts p)) whole ∙ ap (list_all is_part) (slice_split-append is_slash (take at path) 47 rest refl) ∙ list_all-append is_part (parts (take at path)) (parts rest) in
    let shorter : length (take at path) ≤ length path = omega (arith, length-take at path) in
    grind (arith, nat_tests)
