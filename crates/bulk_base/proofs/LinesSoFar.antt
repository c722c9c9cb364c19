-- What the loop over a file's bytes keeps while it cuts the file into lines.
use Rattle.std.proofs.Common.{◌≡◌, ◌≤◌, ◌<◌, ◌+◌, ◌-◌, ℕ, Bool, true, false, List, [], ◌∷◌, ◌++◌, length, get_or, take, drop, arith, ap, sym, ◌∙◌, refl, inl, inr, eq-eqb, ne_eqb, append-nil, zero, suc}
use Rattle.std.specs.Prelude.{All, ◌==◌, cond}
use Rattle.std.specs.List.{slice_split}
use Rattle.std.specs.Str.Lines.{lines, lines_of_parts, strip_carriage_return}
use Rattle.std.proofs.lemmas.List.{append_assoc, take_all, length-drop, length-take, map-append}
use Rattle.std.proofs.lemmas.List.Elements.{All-append}
use Rattle.std.proofs.lemmas.List.Splits.{length-slice_split}
use Rattle.bulk_base.specs.declared.line.Span.{Span}
use Rattle.bulk_base.specs.Lines.{bytes_at, cut_at, IsSpanWithin, is_line_feed, span, spans_from, spans_of}
use Rattle.bulk_base.proofs.Cuts.{NonePasses, slice_split_here, slice_split_last}
use Rattle.bulk_base.proofs.WordsSoFar.{below_or_at}

-- the lines found so far, with those of what begins at `start`, are all; nothing from there up to `at` is a line feed
pub record LinesSoFar (bytes : List ℕ) (found : List Span) (start at : ℕ) : Type 0 where
  pub order : start ≤ at
  pub inside : NonePasses is_line_feed bytes start at
  pub within : All (IsSpanWithin bytes) found
  pub lines : cut_at bytes found ++ lines_of_parts (slice_split is_line_feed (drop start bytes)) ≡ lines bytes
  pub places : found ++ spans_from start (slice_split is_line_feed (drop start bytes)) ≡ spans_of bytes

lines_of_parts-cons : (x : List ℕ) (parts : List (List ℕ)) → 0 < length parts → lines_of_parts (x ∷ parts) ≡ strip_carriage_return x ∷ lines_of_parts parts
lines_of_parts-cons x [] l = absurd (omega arith)
lines_of_parts-cons x (y ∷ more) l = refl

spans_from-cons : (start : ℕ) (x : List ℕ) (parts : List (List ℕ)) → 0 < length parts
    → spans_from start (x ∷ parts) ≡ span start (length (strip_carriage_return x)) ∷ spans_from (start + length x + 1) parts
spans_from-cons start x [] l = absurd (omega arith)
spans_from-cons start x (y ∷ more) l = refl

-- a span whose bytes are known, of a list that is long enough, has their size
span_is : (bytes : List ℕ) (found : Span) (text : List ℕ) → found.from ≤ found.to → found.to ≤ length bytes → bytes_at bytes found ≡ text → found ≡ span found.from (length text)
span_is bytes found text order within e =
    let size : length text ≡ found.to - found.from = sym (ap length e) ∙ omega (arith, length-take (found.to - found.from) (drop found.from bytes), length-drop found.from bytes) in
    let end : found.to ≡ found.from + length text = omega arith in
    let at : ℕ → Span = λ t. record { from = found.from; to = t } in ap at end

one_more : (bytes : List ℕ) (found : List Span) (span : Span) (l : List ℕ) (rest : List (List ℕ)) → bytes_at bytes span ≡ l
    → cut_at bytes (found ++ span ∷ []) ++ rest ≡ cut_at bytes found ++ (l ∷ rest)
one_more bytes found span l rest e =
    ap (λ c. c ++ rest) (map-append (bytes_at bytes) found (span ∷ []))
    ∙ append_assoc (cut_at bytes found) (bytes_at bytes span ∷ []) rest
    ∙ ap (λ x. cut_at bytes found ++ (x ∷ rest)) e

one_within : (bytes : List ℕ) (span : Span) → IsSpanWithin bytes span → All (IsSpanWithin bytes) (span ∷ [])
one_within bytes span h zero d l = h
one_within bytes span h (suc k) d l = absurd (omega arith)

pub lines_go_on : (bytes : List ℕ) (found : List Span) (start at : ℕ) → is_line_feed (get_or bytes at 0) ≡ false → LinesSoFar bytes found start at → LinesSoFar bytes found start (at + 1)
lines_go_on bytes found start at here so_far = record {
  order = omega arith;
  inside = λ k from below. elim (below_or_at k at below) [ inl lt ↦ so_far.inside k from lt | inr same ↦ rw same here ];
  within = so_far.within;
  lines = so_far.lines;
  places = so_far.places;
}

pub lines_cut : (bytes : List ℕ) (found more : List Span) (next : Span) (start at : ℕ) → at < length bytes → is_line_feed (get_or bytes at 0) ≡ true
    → more ≡ found ++ next ∷ []
    → next.from ≡ start
    → IsSpanWithin bytes next
    → bytes_at bytes next ≡ strip_carriage_return (take (at - start) (drop start bytes))
    → LinesSoFar bytes found start at → LinesSoFar bytes more (at + 1) (at + 1)
lines_cut bytes found more next start at l here e begins next_within text so_far = record {
  order = omega arith;
  inside = λ k from below. absurd (omega arith);
  within = rw e (All-append (IsSpanWithin bytes) found (next ∷ []) so_far.within (one_within bytes next next_within));
  lines =
      let rest : List (List ℕ) = slice_split is_line_feed (drop (at + 1) bytes) in
      let some : 0 < length rest = omega (arith, length-slice_split is_line_feed (drop (at + 1) bytes)) in
      let cut = slice_split_here is_line_feed bytes start at so_far.order l so_far.inside here in
      ap (λ m. cut_at bytes m ++ lines_of_parts rest) e
      ∙ one_more bytes found next _ (lines_of_parts rest) text
      ∙ ap (λ x. cut_at bytes found ++ x) (sym (lines_of_parts-cons (take (at - start) (drop start bytes)) rest some) ∙ ap lines_of_parts (sym cut))
      ∙ so_far.lines;
  places =
      let piece : List ℕ = take (at - start) (drop start bytes) in
      let rest : List (List ℕ) = slice_split is_line_feed (drop (at + 1) bytes) in
      let some : 0 < length rest = omega (arith, length-slice_split is_line_feed (drop (at + 1) bytes)) in
      let cut = slice_split_here is_line_feed bytes start at so_far.order l so_far.inside here in
      let order : start ≤ at = so_far.order in
      let size : length piece ≡ at - start = omega (arith, length-take (at - start) (drop start bytes), length-drop start bytes) in
      let behind : start + length piece + 1 ≡ at + 1 = omega arith in
      let is : next ≡ span start (length (strip_carriage_return piece)) = span_is bytes next _ next_within.order next_within.within text ∙ ap (λ s. span s (length (strip_carriage_return piece))) begins in
      ap (λ m. m ++ spans_from (at + 1) rest) e
      ∙ append_assoc found (next ∷ []) (spans_from (at + 1) rest)
      ∙ ap (λ n. found ++ (n ∷ spans_from (at + 1) rest)) is
      ∙ ap (λ p. found ++ (span start (length (strip_carriage_return piece)) ∷ spans_from p rest)) (sym behind)
      ∙ ap (λ x. found ++ x) (sym (spans_from-cons start piece rest some) ∙ ap (spans_from start) (sym cut))
      ∙ so_far.places;
}

-- what is left at the end is the last line, or nothing
last_line : (bytes : List ℕ) (found : List Span) (start at : ℕ) → at ≡ length bytes → LinesSoFar bytes found start at
    → cut_at bytes found ++ cond (length (drop start bytes) == 0) [] (drop start bytes ∷ []) ≡ lines bytes
last_line bytes found start at e so_far =
    let inside : NonePasses is_line_feed bytes start (length bytes) = λ k from below. so_far.inside k from (omega arith) in
    ap (λ x. cut_at bytes found ++ lines_of_parts x) (sym (slice_split_last is_line_feed bytes start inside)) ∙ so_far.lines

last_span : (bytes : List ℕ) (found : List Span) (start at : ℕ) → at ≡ length bytes → LinesSoFar bytes found start at
    → found ++ cond (length (drop start bytes) == 0) [] (span start (length (drop start bytes)) ∷ []) ≡ spans_of bytes
last_span bytes found start at e so_far =
    let inside : NonePasses is_line_feed bytes start (length bytes) = λ k from below. so_far.inside k from (omega arith) in
    ap (λ x. found ++ spans_from start x) (sym (slice_split_last is_line_feed bytes start inside)) ∙ so_far.places

-- the spans that a file's lines are
pub record AreLines (bytes : List ℕ) (spans : List Span) : Type 0 where
  pub text : cut_at bytes spans ≡ lines bytes
  pub within : All (IsSpanWithin bytes) spans
  pub places : spans ≡ spans_of bytes

-- a last line without a line feed is kept whole
pub lines_end : (bytes : List ℕ) (found more : List Span) (last : Span) (start at : ℕ) → at ≡ length bytes → start < length bytes
    → last.from ≡ start → last.to ≡ length bytes → more ≡ found ++ last ∷ []
    → LinesSoFar bytes found start at → AreLines bytes more
lines_end bytes found more last start at at_end short from to e so_far =
    let size : length (drop start bytes) ≡ length bytes - start = length-drop start bytes in
    let filled : (length (drop start bytes) == 0) ≡ false = ne_eqb (length (drop start bytes)) 0 (λ z. omega arith) in
    let whole : bytes_at bytes last ≡ drop start bytes = rw (from, to) (take_all _ _ (omega arith)) in
    let text : cut_at bytes (found ++ last ∷ []) ≡ lines bytes =
    map-append (bytes_at bytes) found (last ∷ [])
    ∙ ap (λ x. cut_at bytes found ++ (x ∷ [])) whole
    ∙ sym (ap (λ b. cut_at bytes found ++ cond b [] (drop start bytes ∷ [])) filled)
    ∙ last_line bytes found start at at_end so_far in
    let is : last ≡ span start (length (drop start bytes)) = span_is bytes last _ (omega arith) (omega arith) whole ∙ ap (λ s. span s (length (drop start bytes))) from in
    let places : found ++ last ∷ [] ≡ spans_of bytes =
    ap (λ l. found ++ (l ∷ [])) is
    ∙ sym (ap (λ b. found ++ cond b [] (span start (length (drop start bytes)) ∷ [])) filled)
    ∙ last_span bytes found start at at_end so_far in
    let within : All (IsSpanWithin bytes) (found ++ last ∷ []) =
    All-append (IsSpanWithin bytes) found (last ∷ []) so_far.within (one_within bytes last (record { order = omega arith; within = omega arith })) in
    rw e (record { text = text; within = within; places = places })

-- nothing is left behind the last line feed
pub lines_done : (bytes : List ℕ) (found : List Span) (start at : ℕ) → at ≡ length bytes → length bytes ≤ start
    → LinesSoFar bytes found start at → AreLines bytes found
lines_done bytes found start at at_end long so_far =
    let none : (length (drop start bytes) == 0) ≡ true = eq-eqb _ _ (omega (arith, length-drop start bytes)) in
    record {
      text =
          sym (append-nil (cut_at bytes found))
          ∙ sym (ap (λ b. cut_at bytes found ++ cond b [] (drop start bytes ∷ [])) none)
          ∙ last_line bytes found start at at_end so_far;
      within = so_far.within;
      places =
          sym (append-nil found)
          ∙ sym (ap (λ b. found ++ cond b [] (span start (length (drop start bytes)) ∷ [])) none)
          ∙ last_span bytes found start at at_end so_far;
    }
