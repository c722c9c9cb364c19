-- What the loop over a text's bytes keeps while it cuts the text at a byte.
use Rattle.std.proofs.Common.{◌≡◌, ◌≢◌, ◌≤◌, ◌<◌, ◌+◌, ◌-◌, ◌==◌, ℕ, Bool, true, false, List, [], ◌∷◌, ◌++◌, length, get_or, take, drop, arith, inl, inr, ap, sym, ◌∙◌, eqb-true}
use Rattle.std.specs.List.{slice_split}
use Rattle.std.specs.Str.{IsCharBoundary}
use Rattle.std.proofs.lemmas.List.{append_assoc}
use Rattle.std.proofs.lemmas.Str.{IsCharBoundary-after_ascii, IsCharBoundary-before_ascii, IsCharBoundary-start}
use Rattle.std.proofs.lemmas.Bool.Decides.{nat_tests}
use Rattle.bulk_base.specs.Text.{IsText}
use Rattle.bulk_base.proofs.Cuts.{NonePasses, slice_split_here, slice_split_last}
use Rattle.bulk_base.proofs.WordsSoFar.{below_or_at}
use Rattle.port_vars.proofs.TextParts.{IsText-between}

abbrev pub is_cut : ℕ → ℕ → Bool
is_cut byte b = b == byte

pub is_cut-yes : (byte b : ℕ) → b ≡ byte → is_cut byte b ≡ true
is_cut-yes byte b e = grind (arith, nat_tests)

pub is_cut-no : (byte b : ℕ) → b ≢ byte → is_cut byte b ≡ false
is_cut-no byte b e = grind (arith, nat_tests)

-- the pieces found so far, with those of what begins at `start`, are all; the byte stands nowhere from there up to `at`
pub record PiecesSoFar (byte : ℕ) (bytes : List ℕ) (found : List (List ℕ)) (start at : ℕ) : Type 0 where
  pub order : start ≤ at
  pub within : start ≤ length bytes
  pub inside : NonePasses (is_cut byte) bytes start at
  pub boundary : IsCharBoundary bytes start
  pub pieces : found ++ slice_split (is_cut byte) (drop start bytes) ≡ slice_split (is_cut byte) bytes

pub pieces_begin : (byte : ℕ) (bytes : List ℕ) (found : List (List ℕ)) → IsText bytes → found ≡ [] → PiecesSoFar byte bytes found 0 0
pieces_begin byte bytes found h e = record {
  order = omega arith;
  within = omega arith;
  inside = λ k from below. absurd (omega arith);
  boundary = IsCharBoundary-start bytes h.0;
  pieces = ap (λ f. f ++ slice_split (is_cut byte) bytes) e;
}

pub pieces_go_on : (byte : ℕ) (bytes : List ℕ) (found : List (List ℕ)) (start at : ℕ) → is_cut byte (get_or bytes at 0) ≡ false → PiecesSoFar byte bytes found start at → PiecesSoFar byte bytes found start (at + 1)
pieces_go_on byte bytes found start at here so_far = record {
  order = omega arith;
  within = so_far.within;
  inside = λ k from below. elim (below_or_at k at below) [ inl lt ↦ so_far.inside k from lt | inr same ↦ rw same here ];
  boundary = so_far.boundary;
  pieces = so_far.pieces;
}

here_ascii : (byte : ℕ) (bytes : List ℕ) (at : ℕ) → byte < 128 → is_cut byte (get_or bytes at 0) ≡ true → get_or bytes at 0 < 128
here_ascii byte bytes at ascii here = let same : get_or bytes at 0 ≡ byte = eqb-true _ _ here in omega arith

pub piece_is_text : (byte : ℕ) (bytes : List ℕ) (found : List (List ℕ)) (start at : ℕ) → byte < 128 → IsText bytes → at < length bytes → is_cut byte (get_or bytes at 0) ≡ true
    → PiecesSoFar byte bytes found start at → IsText (take (at - start) (drop start bytes))
piece_is_text byte bytes found start at ascii h l here so_far = IsText-between bytes start at h so_far.order so_far.boundary (IsCharBoundary-before_ascii bytes at l (here_ascii byte bytes at ascii here))

pub pieces_cut : (byte : ℕ) (bytes : List ℕ) (found more : List (List ℕ)) (start at : ℕ) → byte < 128 → IsText bytes → at < length bytes → is_cut byte (get_or bytes at 0) ≡ true
    → more ≡ found ++ take (at - start) (drop start bytes) ∷ []
    → PiecesSoFar byte bytes found start at → PiecesSoFar byte bytes more (at + 1) (at + 1)
pieces_cut byte bytes found more start at ascii h l here e so_far = record {
  order = omega arith;
  within = omega arith;
  inside = λ k from below. absurd (omega arith);
  boundary = IsCharBoundary-after_ascii bytes at h.0 l (here_ascii byte bytes at ascii here);
  pieces =
      let cut = slice_split_here (is_cut byte) bytes start at so_far.order l so_far.inside here in
      let rest : List (List ℕ) = slice_split (is_cut byte) (drop (at + 1) bytes) in
      ap (λ m. m ++ rest) e
      ∙ append_assoc found (take (at - start) (drop start bytes) ∷ []) rest
      ∙ ap (λ x. found ++ x) (sym cut)
      ∙ so_far.pieces;
}

pub pieces_end : (byte : ℕ) (bytes : List ℕ) (found more : List (List ℕ)) (start at : ℕ) → at ≡ length bytes
    → more ≡ found ++ drop start bytes ∷ []
    → PiecesSoFar byte bytes found start at → more ≡ slice_split (is_cut byte) bytes
pieces_end byte bytes found more start at at_end e so_far =
    let inside : NonePasses (is_cut byte) bytes start (length bytes) = λ k from below. so_far.inside k from (omega arith) in
    e ∙ ap (λ x. found ++ x) (sym (slice_split_last (is_cut byte) bytes start inside)) ∙ so_far.pieces
