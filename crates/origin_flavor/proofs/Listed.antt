-- What the loop over the lines of a list file keeps.
use Rattle.std.proofs.Common.{◌≡◌, ℕ, ◌+◌, ◌<◌, ◌≤◌, true, false, List, [], ◌∷◌, ◌++◌, length, get_or, take, arith, ◌∙◌, ap, sym, Result, Ok, Err}
use Rattle.std.specs.Prelude.{not, map, filter, Option, Some, None}
use Rattle.std.proofs.lemmas.List.{map-append, take_all}
use Rattle.std.proofs.lemmas.List.Elements.{filter-append}
use Rattle.std.proofs.lemmas.List.Folds.{list_all-append}
use Rattle.bulk_base.specs.Text.{is_text}
use Rattle.bulk_base.specs.Words.{is_filled}
use Rattle.bulk_base.proofs.Places.{none, position_here, position_none}
use Rattle.port_desc.proofs.Turns.{taken_more}
use Rattle.origin_flavor.specs.declared.fault.WantedError.{WantedError}
use Rattle.origin_flavor.specs.declared.fault.WantedError.TheVariants.{BadList}
use Rattle.origin_flavor.specs.ListFile.{word_of, is_bad, words_on, words_in}

-- the lines so far are texts, and their words are found
pub record ListedSoFar (lines : List (List ℕ)) (at : ℕ) (found : List (List ℕ)) : Type 0 where
  pub good : none is_bad (take at lines) ≡ true
  pub said : found ≡ words_on (take at lines)

words_on-append : (a b : List (List ℕ)) → words_on (a ++ b) ≡ words_on a ++ words_on b
words_on-append a b = ap (filter is_filled) (map-append word_of a b) ∙ filter-append is_filled (map word_of a) (map word_of b)

good_more : (lines : List (List ℕ)) (line : List ℕ) → none is_bad lines ≡ true → is_text line ≡ true → none is_bad (lines ++ line ∷ []) ≡ true
good_more lines line h g = list_all-append (λ x. not (is_bad x)) lines (line ∷ []) ∙ grind arith

pub listed_line : (lines : List (List ℕ)) (at : ℕ) (line : List ℕ) (found new : List (List ℕ)) → at < length lines → line ≡ get_or lines at line → is_text line ≡ true
    → new ≡ found ++ filter is_filled (word_of line ∷ []) → ListedSoFar lines at found → ListedSoFar lines (at + 1) new
listed_line lines at line found new l e good n so_far =
    let more = taken_more lines at line l e in
    record {
      good = ap (none is_bad) more ∙ good_more (take at lines) line so_far.good good;
      said = n ∙ ap (λ f. f ++ words_on (line ∷ [])) so_far.said ∙ sym (words_on-append (take at lines) (line ∷ [])) ∙ ap words_on (sym more);
    }

abbrev answer : List (List ℕ) → Option ℕ → Result (List (List ℕ)) WantedError
answer lines place = elim place [
  | Some at ↦ Err (BadList (at + 1))
  | None ↦ Ok (words_on lines)
]

pub listed_fault : (lines : List (List ℕ)) (at : ℕ) (line : List ℕ) (found : List (List ℕ)) → at < length lines → line ≡ get_or lines at line → is_text line ≡ false
    → ListedSoFar lines at found → words_in lines ≡ Err (BadList (at + 1))
listed_fault lines at line found l e bad so_far = ap (answer lines) (position_here is_bad lines at line l e so_far.good (ap not bad))

pub listed_all : (lines : List (List ℕ)) (at : ℕ) (found : List (List ℕ)) → length lines ≤ at → ListedSoFar lines at found → words_in lines ≡ Ok found
listed_all lines at found l so_far =
    let whole : take at lines ≡ lines = take_all at lines l in
    ap (answer lines) (position_none is_bad lines (ap (none is_bad) (sym whole) ∙ so_far.good)) ∙ ap Ok (ap words_on (sym whole) ∙ sym so_far.said)
