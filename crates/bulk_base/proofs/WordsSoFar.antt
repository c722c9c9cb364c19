-- What the loop over a text's bytes keeps while it cuts the text into words.
use Rattle.std.proofs.Common.{◌≡◌, ◌≤◌, ◌<◌, ◌+◌, ◌-◌, ℕ, true, false, List, [], ◌∷◌, ◌++◌, length, get_or, take, drop, arith, inl, inr, ap, sym, ◌∙◌}
use Rattle.std.specs.Prelude.{filter, ◌⊎◌}
use Rattle.std.specs.List.{slice_split}
use Rattle.std.specs.Str.{IsCharBoundary, IsUtf8}
use Rattle.std.proofs.lemmas.List.{append_assoc, take_all, length-drop}
use Rattle.std.proofs.lemmas.List.Elements.{filter-append}
use Rattle.std.proofs.lemmas.Str.{IsCharBoundary-after_ascii, IsCharBoundary-start}
use Rattle.std.proofs.lemmas.Bool.{cases_lt}
use Rattle.std.proofs.lemmas.Bool.Decides.{nat_tests}
use Rattle.bulk_base.specs.Words.{words_of, is_blank, is_filled}
use Rattle.bulk_base.proofs.Cuts.{NonePasses, slice_split_here, slice_split_last}

-- the words found so far, with those of what begins at `start`, are all; nothing from there up to `at` is a blank
pub record WordsSoFar (bytes : List ℕ) (found : List (List ℕ)) (start at : ℕ) : Type 0 where
  pub order : start ≤ at
  pub inside : NonePasses is_blank bytes start at
  pub boundary : IsCharBoundary bytes start
  pub words : found ++ filter is_filled (slice_split is_blank (drop start bytes)) ≡ words_of bytes

pub below_or_at : (k at : ℕ) → k < at + 1 → (k < at) ⊎ (k ≡ at)
below_or_at k at h = elim (cases_lt k at) [ inl l ↦ inl l | inr g ↦ inr (omega arith) ]

pub blank_is_ascii : (b : ℕ) → is_blank b ≡ true → b < 128
blank_is_ascii b h = grind (arith, nat_tests)

-- no blank at `at`: nothing is found
pub words_go_on : (bytes : List ℕ) (found : List (List ℕ)) (start at : ℕ) → is_blank (get_or bytes at 0) ≡ false → WordsSoFar bytes found start at → WordsSoFar bytes found start (at + 1)
words_go_on bytes found start at here so_far = record {
  order = omega arith;
  inside = λ k from below. elim (below_or_at k at below) [ inl lt ↦ so_far.inside k from lt | inr same ↦ rw same here ];
  boundary = so_far.boundary;
  words = so_far.words;
}

-- a blank at `at` ends a piece
pub words_cut : (bytes : List ℕ) (found more : List (List ℕ)) (start at : ℕ) → IsUtf8 bytes → at < length bytes → is_blank (get_or bytes at 0) ≡ true
    → more ≡ found ++ filter is_filled (take (at - start) (drop start bytes) ∷ [])
    → WordsSoFar bytes found start at → WordsSoFar bytes more (at + 1) (at + 1)
words_cut bytes found more start at utf8 l here e so_far = record {
  order = omega arith;
  inside = λ k from below. absurd (omega arith);
  boundary = IsCharBoundary-after_ascii bytes at utf8 l (blank_is_ascii _ here);
  words =
      let cut = slice_split_here is_blank bytes start at so_far.order l so_far.inside here in
      let rest : List (List ℕ) = slice_split is_blank (drop (at + 1) bytes) in
      let piece : List (List ℕ) = take (at - start) (drop start bytes) ∷ [] in
      ap (λ m. m ++ filter is_filled rest) e
      ∙ append_assoc found (filter is_filled piece) (filter is_filled rest)
      ∙ ap (λ x. found ++ x) (sym (filter-append is_filled piece rest) ∙ ap (filter is_filled) (sym cut))
      ∙ so_far.words;
}

-- at the end what is left is the last piece
pub words_end : (bytes : List ℕ) (found more : List (List ℕ)) (start at stop : ℕ) → at ≡ length bytes → stop ≡ length bytes
    → more ≡ found ++ filter is_filled (take (stop - start) (drop start bytes) ∷ [])
    → WordsSoFar bytes found start at → more ≡ words_of bytes
words_end bytes found more start at stop at_end stop_end e so_far =
    let inside : NonePasses is_blank bytes start (length bytes) = λ k from below. so_far.inside k from (omega arith) in
    let last = slice_split_last is_blank bytes start inside in
    let all : take (stop - start) (drop start bytes) ≡ drop start bytes = take_all _ _ (omega (arith, length-drop start bytes)) in
    e ∙ ap (λ x. found ++ filter is_filled (x ∷ [])) all ∙ ap (λ x. found ++ filter is_filled x) (sym last) ∙ so_far.words

-- nothing is found before the first byte
pub words_begin : (bytes : List ℕ) (found : List (List ℕ)) → IsUtf8 bytes → found ≡ [] → WordsSoFar bytes found 0 0
words_begin bytes found utf8 e = record {
  order = omega arith;
  inside = λ k from below. absurd (omega arith);
  boundary = IsCharBoundary-start bytes utf8;
  words = ap (λ f. f ++ filter is_filled (slice_split is_blank bytes)) e;
}
