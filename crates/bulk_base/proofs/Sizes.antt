-- A file has no more lines than bytes, and its spans are its lines.
use Rattle.std.proofs.Common.{◌≡◌, ℕ, ◌+◌, ◌≤◌, ◌<◌, Bool, true, false, List, [], ◌∷◌, length, get_or, cond, ap, sym, ◌∙◌, arith}
use Rattle.std.specs.Prelude.{◌==◌}
use Rattle.std.specs.List.{slice_split, onto_first}
use Rattle.std.specs.Str.Lines.{lines, lines_of_parts}
use Rattle.std.proofs.lemmas.List.{length-map, get_or-map}
use Rattle.std.proofs.lemmas.List.Splits.{length-slice_split}
use Rattle.bulk_base.specs.declared.line.Span.{Span}
use Rattle.bulk_base.specs.Lines.{cut_at, bytes_at}

size_cons : (x : ℕ) (parts : List (List ℕ)) (n : ℕ) → 0 < length parts → length (lines_of_parts parts) ≤ n → length (lines_of_parts ([] ∷ parts)) ≤ n + 1
size_cons x [] n some h = absurd (omega arith)
size_cons x (part ∷ more) n some h = omega arith

one_at_most : (part : List ℕ) (b : Bool) → length (let l : List (List ℕ) = cond b [] (part ∷ []) in l) ≤ 1
one_at_most part true = omega arith
one_at_most part false = omega arith

size_onto : (x : ℕ) (parts : List (List ℕ)) (n : ℕ) → 0 < length parts → length (lines_of_parts parts) ≤ n → length (lines_of_parts (onto_first x parts)) ≤ n + 1
size_onto x [] n some h = absurd (omega arith)
size_onto x (part ∷ []) n some h = omega (arith, one_at_most (x ∷ part) (length (x ∷ part) == 0))
size_onto x (part ∷ next ∷ more) n some h = omega arith

abbrev is_newline_byte : ℕ → Bool
is_newline_byte b = b == 10

size_case : (x : ℕ) (parts : List (List ℕ)) (n : ℕ) (b : Bool) → 0 < length parts → length (lines_of_parts parts) ≤ n → length (lines_of_parts (cond b ([] ∷ parts) (onto_first x parts))) ≤ n + 1
size_case x parts n true some h = size_cons x parts n some h
size_case x parts n false some h = size_onto x parts n some h

pub length-lines : (bytes : List ℕ) → length (lines bytes) ≤ length bytes
length-lines [] = omega arith
length-lines (x ∷ bytes) =
    let parts : List (List ℕ) = slice_split is_newline_byte bytes in
    let some : 0 < length parts = omega (arith, length-slice_split is_newline_byte bytes) in
    let all : length (lines_of_parts parts) ≤ length bytes = length-lines bytes in
    omega (arith, size_case x parts (length bytes) (is_newline_byte x) some all)

pub spans_are : (bytes : List ℕ) (spans : List Span) → cut_at bytes spans ≡ lines bytes → length spans ≡ length (lines bytes)
spans_are bytes spans e = sym (length-map spans (bytes_at bytes)) ∙ ap length e

abbrev first_span : Span
first_span = record { from = 0; to = 0 }

pub line_is : (bytes : List ℕ) (spans items : List Span) (at : ℕ) (line : List ℕ) → cut_at bytes spans ≡ lines bytes → items ≡ spans → at < length spans
    → line ≡ bytes_at bytes (get_or items at first_span) → line ≡ get_or (lines bytes) at line
line_is bytes spans items at line cut same l e =
    e ∙ ap (λ s. bytes_at bytes (get_or s at first_span)) same ∙ sym (get_or-map (bytes_at bytes) spans at first_span line l) ∙ ap (λ l. get_or l at line) cut
