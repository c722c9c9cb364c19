-- What the loop over the lines keeps.
use Rattle.std.proofs.Common.{◌≡◌, ℕ, ◌+◌, ◌<◌, ◌≤◌, true, false, List, [], ◌∷◌, ◌++◌, length, get_or, take, arith, ◌∙◌, ap, sym, Result, Ok, Err}
use Rattle.std.specs.Prelude.{not, map, filter, Option, Some, None}
use Rattle.std.proofs.lemmas.List.{map-append, take_all, take_more}
use Rattle.std.proofs.lemmas.List.Elements.{filter-append}
use Rattle.std.proofs.lemmas.List.Folds.{list_all-append}
use Rattle.moved_list.specs.declared.line.MovedLine.{MovedLine}
use Rattle.moved_list.specs.declared.fault.MovedError.{MovedError}
use Rattle.moved_list.specs.declared.fault.MovedError.TheVariants.{BadLine}
use Rattle.moved_list.specs.Lines.{is_moved_line, entry}
use Rattle.moved_list.specs.Moved.{says_something, is_bad, entries, moved_in}
use Rattle.bulk_base.proofs.Places.{none, position_here, position_none}

-- the lines so far are in form, and what they say is found
pub record ReadSoFar (lines : List (List ℕ)) (at : ℕ) (found : List MovedLine) : Type 0 where
  pub good : none is_bad (take at lines) ≡ true
  pub said : found ≡ entries (take at lines)

entries-append : (a b : List (List ℕ)) → entries (a ++ b) ≡ entries a ++ entries b
entries-append a b = ap (map entry) (filter-append says_something a b) ∙ map-append entry (filter says_something a) (filter says_something b)

one_more : (lines : List (List ℕ)) (at : ℕ) (line : List ℕ) → at < length lines → line ≡ get_or lines at line → take (at + 1) lines ≡ take at lines ++ line ∷ []
one_more lines at line l e = take_more lines at line l ∙ ap (λ x. take at lines ++ x ∷ []) (sym e)

good_more : (lines : List (List ℕ)) (line : List ℕ) → none is_bad lines ≡ true → is_moved_line line ≡ true → none is_bad (lines ++ line ∷ []) ≡ true
good_more lines line h g = list_all-append (λ x. not (is_bad x)) lines (line ∷ []) ∙ grind arith

pub read_line : (lines : List (List ℕ)) (at : ℕ) (line : List ℕ) (found new : List MovedLine) → at < length lines → line ≡ get_or lines at line → is_moved_line line ≡ true
    → new ≡ found ++ entries (line ∷ []) → ReadSoFar lines at found → ReadSoFar lines (at + 1) new
read_line lines at line found new l e good n so_far =
    let more = one_more lines at line l e in
    record {
      good = ap (none is_bad) more ∙ good_more (take at lines) line so_far.good good;
      said = n ∙ ap (λ f. f ++ entries (line ∷ [])) so_far.said ∙ sym (entries-append (take at lines) (line ∷ [])) ∙ ap entries (sym more);
    }

abbrev answer : List (List ℕ) → Option ℕ → Result (List MovedLine) MovedError
answer lines place = elim place [
  | Some at ↦ Err (BadLine (at + 1))
  | None ↦ Ok (entries lines)
]

pub read_fault : (lines : List (List ℕ)) (at : ℕ) (line : List ℕ) (found : List MovedLine) → at < length lines → line ≡ get_or lines at line → is_moved_line line ≡ false
    → ReadSoFar lines at found → moved_in lines ≡ Err (BadLine (at + 1))
read_fault lines at line found l e bad so_far = ap (answer lines) (position_here is_bad lines at line l e so_far.good (ap not bad))

pub read_all : (lines : List (List ℕ)) (at : ℕ) (found : List MovedLine) → length lines ≤ at → ReadSoFar lines at found → moved_in lines ≡ Ok found
read_all lines at found l so_far =
    let whole : take at lines ≡ lines = take_all at lines l in
    ap (answer lines) (position_none is_bad lines (ap (none is_bad) (sym whole) ∙ so_far.good)) ∙ ap Ok (ap entries (sym whole) ∙ sym so_far.said)
