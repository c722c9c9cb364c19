-- What the loop over a file's lines keeps while it joins them.
use Rattle.std.proofs.Common.{◌≡◌, ℕ, ◌+◌, ◌≤◌, ◌<◌, Bool, true, false, List, [], ◌∷◌, ◌++◌, length, get_or, drop, cond, ap, sym, ◌∙◌, refl, Option, Some, None}
use Rattle.std.specs.Str.Lines.{lines}
use Rattle.std.proofs.lemmas.List.{append_assoc, append-nil, drop_more, drop_all}
use Rattle.port_vars.specs.declared.joined.Line.{Line}
use Rattle.bulk_base.specs.Trim.{trim_start}
use Rattle.port_vars.specs.Joined.{ends_in_backslash, body, continued, joined_from, next_line, whole}

abbrev tail : Bool → List (List ℕ) → List ℕ
tail goes_on rest = cond goes_on (continued rest) []

abbrev longer : Line → List ℕ → Line
longer line more = record { number = line.number; text = line.text ++ more }

-- a line is taken into the joined line that it belongs to
taken : (found : List Line) (begun : Option Line) (number : ℕ) (line : List ℕ) (rest : List (List ℕ))
    → whole found begun number (line ∷ rest)
    ≡ found ++ longer (next_line begun number line) (tail (ends_in_backslash line) rest) ∷ joined_from (number + 1) (ends_in_backslash line) rest
taken found None number line rest = refl
taken found (Some before) number line rest =
    ap (λ t. found ++ (let l : Line = record { number = before.number; text = t } in l) ∷ joined_from (number + 1) (ends_in_backslash line) rest)
    (sym (append_assoc before.text (32 ∷ trim_start (body line)) (tail (ends_in_backslash line) rest)))

nothing_more : (line : Line) → longer line [] ≡ line
nothing_more line = ap (λ t. let l : Line = record { number = line.number; text = t } in l) (append-nil line.text)

pub line_goes_on : (found : List Line) (begun : Option Line) (number : ℕ) (line : List ℕ) (next : Line) → next ≡ next_line begun number line → ends_in_backslash line ≡ true
    → (rest : List (List ℕ)) → whole found begun number (line ∷ rest) ≡ whole found (Some next) (number + 1) rest
line_goes_on found begun number line next e ends rest =
    taken found begun number line rest
    ∙ ap (λ b. found ++ longer (next_line begun number line) (tail b rest) ∷ joined_from (number + 1) b rest) ends
    ∙ ap (λ n. whole found (Some n) (number + 1) rest) (sym e)

pub line_ends : (found more : List Line) (begun : Option Line) (number : ℕ) (line : List ℕ) (next : Line) → next ≡ next_line begun number line → ends_in_backslash line ≡ false → more ≡ found ++ next ∷ []
    → (rest : List (List ℕ)) → whole found begun number (line ∷ rest) ≡ whole more None (number + 1) rest
line_ends found more begun number line next e ends pushed rest =
    taken found begun number line rest
    ∙ ap (λ b. found ++ longer (next_line begun number line) (tail b rest) ∷ joined_from (number + 1) b rest) ends
    ∙ ap (λ l. found ++ l ∷ joined_from (number + 1) false rest) (nothing_more (next_line begun number line) ∙ sym e)
    ∙ sym (append_assoc found (next ∷ []) (joined_from (number + 1) false rest))
    ∙ ap (λ m. m ++ joined_from (number + 1) false rest) (sym pushed)

pub at_line : (found more : List Line) (begun next : Option Line) (at : ℕ) (lines : List (List ℕ)) (line : List ℕ) (all : List Line) → at < length lines → line ≡ get_or lines at line
    → ((rest : List (List ℕ)) → whole found begun (at + 1) (line ∷ rest) ≡ whole more next (at + 1 + 1) rest)
    → whole found begun (at + 1) (drop at lines) ≡ all
    → whole more next (at + 1 + 1) (drop (at + 1) lines) ≡ all
at_line found more begun next at lines line all l e step so_far =
    sym (step (drop (at + 1) lines)) ∙ ap (whole found begun (at + 1)) (sym (drop_more lines at line l ∙ ap (λ x. x ∷ drop (at + 1) lines) (sym e))) ∙ so_far

pub none_left : (found : List Line) (number at : ℕ) (lines : List (List ℕ)) (all : List Line) → length lines ≤ at → whole found None number (drop at lines) ≡ all → found ≡ all
none_left found number at lines all l so_far = sym (append-nil found) ∙ ap (whole found None number) (sym (drop_all at lines l)) ∙ so_far

pub one_left : (found more : List Line) (line : Line) (number at : ℕ) (lines : List (List ℕ)) (all : List Line) → length lines ≤ at → more ≡ found ++ line ∷ []
    → whole found (Some line) number (drop at lines) ≡ all → more ≡ all
one_left found more line number at lines all l pushed so_far =
    pushed ∙ ap (λ x. found ++ x ∷ []) (sym (nothing_more line)) ∙ ap (whole found (Some line) number) (sym (drop_all at lines l)) ∙ so_far
