-- What the loop over the lines keeps, and what its answers mean.
use Rattle.std.proofs.Common.{◌≡◌, ℕ, ◌+◌, ◌<◌, ◌≤◌, Bool, true, false, List, [], ◌∷◌, ◌++◌, length, get_or, take, arith, ◌∙◌, ap, sym, Result, Ok, Err, refl}
use Rattle.std.specs.Prelude.{not, ◌||◌, ◌&&◌, is_some, position, find, Option, Some, None}
use Rattle.std.specs.List.{fold, filter_map, cons_option, list_all}
use Rattle.std.specs.Str.Lines.{lines}
use Rattle.std.specs.FinMap as map
use Rattle.std.proofs.lemmas.List.{take_all, take_more}
use Rattle.std.proofs.lemmas.List.Folds.{list_all-append}
use Rattle.std.proofs.lemmas.List.Sums.{fold-append}
use Rattle.bulk_base.proofs.Places.{none, position_here, position_none}
use Rattle.dist_files.specs.declared.dist.Dist.{Dist}
use Rattle.dist_files.specs.declared.fault.DistError.{DistError}
use Rattle.dist_files.specs.declared.fault.DistError.TheVariants.{BadLine, Unpaired, Collide}
use Rattle.dist_files.specs.declared.statement.Statement.{Statement}
use Rattle.dist_files.specs.Lines.{said, is_bad, is_passed}
use Rattle.dist_files.specs.Distinfo.{judged, distinfo_in, distinfo_of, entry, files_in, is_unpaired, is_inside}
use Rattle.dist_files.specs.Stated.{StatedMap, noted, noted_of, all_noted, entry_at}
use Rattle.dist_files.proofs.Noting.{entries_are, files_are}

-- the lines so far are in form, and what they state is in the map
pub record ReadSoFar (lines : List (List ℕ)) (at : ℕ) (stated : StatedMap) : Type 0 where
  pub good : none is_bad (take at lines) ≡ true
  pub said : stated ≡ all_noted (filter_map said (take at lines))

filter_map-snoc : (f : List ℕ → Option Statement) (xs : List (List ℕ)) (x : List ℕ) → filter_map f (xs ++ x ∷ []) ≡ filter_map f xs ++ cons_option (f x) []
filter_map-snoc f [] x = refl
filter_map-snoc f (y ∷ ys) x = ap (cons_option (f y)) (filter_map-snoc f ys x) ∙ by_case (f y)
  where
    by_case : (o : Option Statement) → cons_option o (filter_map f ys ++ cons_option (f x) []) ≡ cons_option o (filter_map f ys) ++ cons_option (f x) []
    by_case (Some s) = refl
    by_case None = refl

note_one : (ss : List Statement) (o : Option Statement) → all_noted (ss ++ cons_option o []) ≡ noted_of (all_noted ss) o
note_one ss (Some s) = fold-append noted map.empty ss (s ∷ [])
note_one ss None = fold-append noted map.empty ss []

one_more : (lines : List (List ℕ)) (at : ℕ) (line : List ℕ) → at < length lines → line ≡ get_or lines at line → take (at + 1) lines ≡ take at lines ++ line ∷ []
one_more lines at line l e = take_more lines at line l ∙ ap (λ x. take at lines ++ x ∷ []) (sym e)

not_not : (b : Bool) → b ≡ true → not (not b) ≡ true
not_not true h = refl
not_not false h = h

good_more : (lines : List (List ℕ)) (line : List ℕ) → none is_bad lines ≡ true → (is_some (said line) || is_passed line) ≡ true → none is_bad (lines ++ line ∷ []) ≡ true
good_more lines line h g =
    let here : not (is_bad line) ≡ true = not_not _ g in
    list_all-append (λ x. not (is_bad x)) lines (line ∷ []) ∙ ap (λ b. b && (not (is_bad line) && true)) h ∙ ap (λ b. b && true) here

pub read_line : (lines : List (List ℕ)) (at : ℕ) (line : List ℕ) (stated new : StatedMap) → at < length lines → line ≡ get_or lines at line
    → (is_some (said line) || is_passed line) ≡ true → new ≡ noted_of stated (said line) → ReadSoFar lines at stated → ReadSoFar lines (at + 1) new
read_line lines at line stated new l e good n so_far =
    let more = one_more lines at line l e in
    record {
      good = ap (none is_bad) more ∙ good_more (take at lines) line so_far.good good;
      said =
          n ∙ ap (λ m. noted_of m (said line)) so_far.said ∙ sym (note_one (filter_map said (take at lines)) (said line))
          ∙ ap all_noted (sym (filter_map-snoc said (take at lines) line)) ∙ ap (λ ls. all_noted (filter_map said ls)) (sym more);
    }

abbrev answer : List (List ℕ) → Option ℕ → Result (List Dist) DistError
answer lines place = elim place [
  | Some at ↦ Err (BadLine (at + 1))
  | None ↦ judged (entry (filter_map said lines)) (files_in (filter_map said lines))
]

pub read_fault : (bytes : List ℕ) (at : ℕ) (line : List ℕ) (stated : StatedMap) → at < length (lines bytes) → line ≡ get_or (lines bytes) at line
    → (is_some (said line) || is_passed line) ≡ false → ReadSoFar (lines bytes) at stated → distinfo_of bytes ≡ Err (BadLine (at + 1))
unfolding distinfo_of
read_fault bytes at line stated l e bad so_far = ap (answer (lines bytes)) (position_here is_bad (lines bytes) at line l e so_far.good (ap not bad))

-- what the whole loop has found
pub record IsRead (lines : List (List ℕ)) (stated : StatedMap) : Type 0 where
  pub good : position is_bad lines ≡ None
  pub ok : stated ≡ all_noted (filter_map said lines)

pub read_all : (lines : List (List ℕ)) (at : ℕ) (stated : StatedMap) → length lines ≤ at → ReadSoFar lines at stated → IsRead lines stated
read_all lines at stated l so_far =
    let whole : take at lines ≡ lines = take_all at lines l in
    record {
      good = position_none is_bad lines (ap (none is_bad) (sym whole) ∙ so_far.good);
      ok = so_far.said ∙ ap (λ ls. all_noted (filter_map said ls)) whole;
    }

-- so the answer is what the map's entries come to
pub by_map : (bytes : List ℕ) (stated : StatedMap) (files : List (List ℕ)) → position is_bad (lines bytes) ≡ None → stated ≡ all_noted (filter_map said (lines bytes)) → files ≡ map.keys stated
    → distinfo_of bytes ≡ judged (entry_at stated) files
unfolding distinfo_of
by_map bytes stated files good is keys =
    let ss = filter_map said (lines bytes) in
    ap (answer (lines bytes)) good
    ∙ ap (λ e. judged e (files_in ss)) (sym (entries_are ss))
    ∙ ap (judged (entry_at (all_noted ss))) (sym (files_are ss))
    ∙ ap (λ m. judged (entry_at m) (map.keys m)) (sym is)
    ∙ ap (judged (entry_at stated)) (sym keys)

abbrev inner : (List ℕ → Option Dist) → List (List ℕ) → Option (List ℕ) → Result (List Dist) DistError
inner entry files found = elim found [
  | Some file ↦ Err (Collide file)
  | None ↦ Ok (filter_map entry files)
]

abbrev outer : (List ℕ → Option Dist) → List (List ℕ) → Option (List ℕ) → Result (List Dist) DistError
outer entry files found = elim found [
  | Some file ↦ Err (Unpaired file)
  | None ↦ inner entry files (find (is_inside files) files)
]

pub judged_unpaired : (entry : List ℕ → Option Dist) (files : List (List ℕ)) (file : List ℕ) → find (is_unpaired entry) files ≡ Some file → judged entry files ≡ Err (Unpaired file)
judged_unpaired entry files file h = ap (outer entry files) h

pub judged_inside : (entry : List ℕ → Option Dist) (files : List (List ℕ)) (file : List ℕ) → find (is_unpaired entry) files ≡ None → find (is_inside files) files ≡ Some file
    → judged entry files ≡ Err (Collide file)
judged_inside entry files file paired inside = ap (outer entry files) paired ∙ ap (inner entry files) inside

pub judged_ok : (entry : List ℕ → Option Dist) (files : List (List ℕ)) (dists : List Dist) → find (is_unpaired entry) files ≡ None → find (is_inside files) files ≡ None
    → dists ≡ filter_map entry files → judged entry files ≡ Ok dists
judged_ok entry files dists paired apart e = ap (outer entry files) paired ∙ ap (inner entry files) apart ∙ ap (λ ds. Ok ds) (sym e)
