-- What the loops over lists and trees keep.
use Rattle.std.proofs.Common.{◌≡◌, ℕ, ◌+◌, ◌-◌, ◌<◌, ◌≤◌, Bool, true, false, List, [], ◌∷◌, ◌++◌, length, get_or, take, drop, zero, suc, arith, ap, ap₂, sym, ◌∙◌, refl, subst, cond, append-nil}
use Rattle.std.specs.Prelude.{◌||◌, not, IsTrue, IfSome, IfOk, Result, Ok, Err, filter, map, Option, Some, None, is_some}
use Rattle.std.specs.Option.{option_map}
use Rattle.std.specs.List.{list_any, list_all, filter_map, cons_option, fold}
use Rattle.std.specs.FinMap.{FinMap, empty, get, keys, insert, entries, len-entries, len-empty}
use Rattle.std.proofs.lemmas.List.{take_all, take_more, drop_more, drop_all, map-append, length-take, nil_from_length}
use Rattle.std.proofs.lemmas.List.Elements.{filter-append, filter_map-append}
use Rattle.std.proofs.lemmas.List.Folds.{list_any-append, list_all-append}
use Rattle.std.proofs.lemmas.List.Sums.{fold-append}
use Rattle.bulk_base.specs.Path.{is_below}
use Rattle.bulk_base.proofs.MapView.{order}
use Rattle.outside.specs.Contents.{Contents, files_below, first_bytes, has_no_folder}
use Rattle.overlay_tree.specs.Listed.{Alike, all_of, stays, kept_of}
use Rattle.overlay_tree.specs.Merged.{with_piece, joined_file, has_below, last_file}
use Rattle.overlay_tree.proofs.Members.{any_insert, Alike-append, Alike-filter}
use Rattle.overlay_tree.proofs.Kept.{stays_alike}

abbrev pub PathSet : Type 0
PathSet = FinMap order (Unit {0})

-- ---- paths put into a set

or_moved : (a b c : Bool) → (a || (b || c)) ≡ (b || (a || c))
or_moved true true c = refl
or_moved true false c = refl
or_moved false b c = refl

or_grouped : (a b c : Bool) → (a || (b || c)) ≡ ((a || b) || c)
or_grouped true b c = refl
or_grouped false b c = refl

or_one : (a : Bool) → a ≡ (a || false)
or_one true = refl
or_one false = refl

pub put_one : (set more : PathSet) (path : List ℕ) (done old : List (List ℕ)) → more ≡ insert set path tt → Alike (keys set) (done ++ old) → Alike (keys more) ((done ++ path ∷ []) ++ old)
put_one set more path done old put so_far test =
    ap (λ m. list_any test (keys m)) put ∙ any_insert test set path tt
    ∙ ap (λ b. test path || b) (so_far test ∙ list_any-append test done old)
    ∙ or_moved (test path) (list_any test done) (list_any test old)
    ∙ or_grouped (list_any test done) (test path) (list_any test old)
    ∙ ap (λ b. (list_any test done || b) || list_any test old) (or_one (test path))
    ∙ ap (λ b. b || list_any test old) (sym (list_any-append test done (path ∷ [])))
    ∙ sym (list_any-append test (done ++ path ∷ []) old)

pub one_more : (xs : List (List ℕ)) (at : ℕ) (x : List ℕ) → at < length xs → x ≡ get_or xs at x → take (at + 1) xs ≡ take at xs ++ x ∷ []
one_more xs at x l e = take_more xs at x l ∙ ap (λ y. take at xs ++ y ∷ []) (sym e)

pub filter_more : (test : List ℕ → Bool) (xs : List (List ℕ)) (at : ℕ) (x : List ℕ) (b : Bool) → at < length xs → x ≡ get_or xs at x → test x ≡ b
    → filter test (take (at + 1) xs) ≡ filter test (take at xs) ++ cond b (x ∷ []) []
filter_more test xs at x b l e t =
    ap (filter test) (one_more xs at x l e) ∙ filter-append test (take at xs) (x ∷ []) ∙ ap (λ k. filter test (take at xs) ++ cond k (x ∷ []) []) t

pub keep_one : (test : List ℕ → Bool) (list : List (List ℕ)) (at : ℕ) (path : List ℕ) (set more : PathSet) (old : List (List ℕ)) (b : Bool) → at < length list → path ≡ get_or list at path → test path ≡ b
    → more ≡ cond b (insert set path tt) set → Alike (keys set) (filter test (take at list) ++ old) → Alike (keys more) (filter test (take (at + 1) list) ++ old)
keep_one test list at path set more old true l e t put so_far =
    subst (λ xs. Alike (keys more) (xs ++ old)) (sym (filter_more test list at path true l e t)) (put_one set more path (filter test (take at list)) old put so_far)
keep_one test list at path set more old false l e t put so_far =
    subst (λ xs. Alike (keys more) (xs ++ old)) (sym (filter_more test list at path false l e t ∙ append-nil (filter test (take at list)))) (subst (λ m. Alike (keys m) (filter test (take at list) ++ old)) (sym put) so_far)

-- ---- the lists of trees from the last to the first

pub record MergedSoFar (lists : List (List (List ℕ))) (at : ℕ) (kept later : PathSet) : Type 0 where
  pub within : at ≤ length lists
  pub stay : Alike (keys kept) (kept_of (drop at lists))
  pub behind : Alike (keys later) (all_of (drop at lists))

pub merged_more : (lists : List (List (List ℕ))) (at next : ℕ) (list : List (List ℕ)) (kept kept_now later later_now : PathSet) → at ≡ next + 1 → list ≡ get_or lists next list
    → Alike (keys kept_now) (filter (stays (keys later)) list ++ keys kept) → Alike (keys later_now) (list ++ keys later)
    → MergedSoFar lists at kept later → MergedSoFar lists next kept_now later_now
merged_more lists at next list kept kept_now later later_now e is keeps adds so_far =
    let within : at ≤ length lists = so_far.within in
    let low : next < length lists = omega arith in
    let tail : drop at lists ≡ drop (next + 1) lists = ap (λ n. drop n lists) e in
    let whole : drop next lists ≡ list ∷ drop at lists = drop_more lists next list low ∙ ap₂ (λ x xs. x ∷ xs) (sym is) (sym tail) in
    record {
      within = omega arith;
      stay = λ test.
          keeps test
          ∙ ap (λ s. list_any test (filter s list ++ keys kept)) (stays_alike (keys later) (all_of (drop at lists)) so_far.behind)
          ∙ list_any-append test (filter (stays (all_of (drop at lists))) list) (keys kept)
          ∙ ap (λ b. list_any test (filter (stays (all_of (drop at lists))) list) || b) (so_far.stay test)
          ∙ sym (list_any-append test (filter (stays (all_of (drop at lists))) list) (kept_of (drop at lists)))
          ∙ ap (λ ls. list_any test (kept_of ls)) (sym whole);
      behind = λ test.
          adds test ∙ list_any-append test list (keys later) ∙ ap (λ b. list_any test list || b) (so_far.behind test)
          ∙ sym (list_any-append test list (all_of (drop at lists))) ∙ ap (λ ls. list_any test (all_of ls)) (sym whole);
    }

pub merged_all : (folder : List ℕ) (lists : List (List (List ℕ))) (at : ℕ) (kept later : PathSet) (paths : List (List ℕ)) → at ≤ 0 → paths ≡ filter (is_below folder) (keys kept)
    → MergedSoFar lists at kept later → Alike paths (filter (is_below folder) (kept_of lists))
merged_all folder lists at kept later paths l e so_far =
    let none : at ≡ 0 = omega arith in
    subst (λ ps. Alike ps (filter (is_below folder) (kept_of lists))) (sym e)
    (Alike-filter (is_below folder) (keys kept) (kept_of lists) (subst (λ n. Alike (keys kept) (kept_of (drop n lists))) none so_far.stay))

-- ---- trees one after another

-- contents and faults are as they were
pub record IsKept (before now : List Contents) (count_before count_now : ℕ) : Type 0 where
  pub content : now ≡ before
  pub count : count_now ≡ count_before

pub record ListedSoFar (tells : Bool) (folder : List ℕ) (contents : List Contents) (at : ℕ) (lists : List (List (List ℕ))) : Type 0 where
  pub apart : list_all has_no_folder lists ≡ true
  pub told : IsTrue tells → lists ≡ map (files_below folder) (take at contents)

pub listed_more : (tells : Bool) (folder : List ℕ) (contents : List Contents) (at : ℕ) (lists now : List (List (List ℕ))) (paths : List (List ℕ)) → at < length contents → now ≡ lists ++ paths ∷ []
    → has_no_folder paths ≡ true → (IsTrue tells → paths ≡ files_below folder (get_or contents at empty)) → ListedSoFar tells folder contents at lists → ListedSoFar tells folder contents (at + 1) now
listed_more tells folder contents at lists now paths l e apart told so_far = record {
  apart = ap (list_all has_no_folder) e ∙ list_all-append has_no_folder lists (paths ∷ []) ∙ grind (arith, so_far.apart, apart);
  told = λ t.
      e ∙ ap₂ (λ ls p. ls ++ p ∷ []) (so_far.told t) (told t)
      ∙ sym (ap (map (files_below folder)) (take_more contents at empty l) ∙ map-append (files_below folder) (take at contents) (get_or contents at empty ∷ []));
}

-- no tree behind a place has a file below the folder
pub record SearchedSoFar (tells : Bool) (folder : List ℕ) (contents : List Contents) (at : ℕ) : Type 0 where
  pub within : at < length contents
  pub told : IsTrue tells → (path : List ℕ) → last_file folder contents path ≡ last_file folder (take (at + 1) contents) path

last_there : (folder : List ℕ) (contents : List Contents) (content : Contents) (path : List ℕ) → has_below folder content ≡ true → last_file folder (contents ++ content ∷ []) path ≡ get content path
last_there folder [] content path h = refl
last_there folder (first ∷ rest) content path h =
    ap (λ b. cond b (last_file folder (rest ++ content ∷ []) path) (get first path))
    (list_any-append (has_below folder) rest (content ∷ []) ∙ ap (λ b. list_any (has_below folder) rest || (b || false)) h ∙ or_true (list_any (has_below folder) rest))
    ∙ last_there folder rest content path h
  where
    or_true : (a : Bool) → (a || true) ≡ true
    or_true true = refl
    or_true false = refl

last_before : (folder : List ℕ) (contents : List Contents) (content : Contents) (path : List ℕ) → has_below folder content ≡ false → 0 < length contents
    → last_file folder (contents ++ content ∷ []) path ≡ last_file folder contents path
last_before folder [] content path h l = absurd (omega arith)
last_before folder (first ∷ []) content path h l = ap (λ b. cond (b || false) (get content path) (get first path)) h
last_before folder (first ∷ second ∷ rest) content path h l =
    ap₂ (λ b o. cond b o (get first path))
    (list_any-append (has_below folder) (second ∷ rest) (content ∷ []) ∙ ap (λ b. list_any (has_below folder) (second ∷ rest) || (b || false)) h ∙ sym (or_one (list_any (has_below folder) (second ∷ rest))))
    (last_before folder (second ∷ rest) content path h (omega arith))

none_kept : (test : List ℕ → Bool) (xs : List (List ℕ)) → filter test xs ≡ [] → list_any test xs ≡ false
none_kept test [] h = refl
none_kept test (x ∷ xs) h = elim (test x) as (λ b. cond b (x ∷ filter test xs) (filter test xs) ≡ [] → (b || list_any test xs) ≡ false) [
  | true ↦ λ k. absurd (cc k)
  | false ↦ λ k. none_kept test xs k
] h

some_kept : (test : List ℕ → Bool) (xs : List (List ℕ)) → (filter test xs ≡ [] → ⊥) → list_any test xs ≡ true
some_kept test [] h = absurd (h refl)
some_kept test (x ∷ xs) h = elim (test x) as (λ b. (cond b (x ∷ filter test xs) (filter test xs) ≡ [] → ⊥) → (b || list_any test xs) ≡ true) [
  | true ↦ λ k. refl
  | false ↦ λ k. some_kept test xs k
] h

pub search_begin : (tells : Bool) (folder : List ℕ) (contents : List Contents) (at : ℕ) → at + 1 ≡ length contents → SearchedSoFar tells folder contents at
search_begin tells folder contents at e = record {
  within = omega arith;
  told = λ t path. ap (λ cs. last_file folder cs path) (sym (take_all (at + 1) contents (omega arith)));
}

taken : (folder : List ℕ) (contents : List Contents) (at : ℕ) (path : List ℕ) → at < length contents → last_file folder (take (at + 1) contents) path ≡ last_file folder (take at contents ++ get_or contents at empty ∷ []) path
taken folder contents at path l = ap (λ cs. last_file folder cs path) (take_more contents at empty l)

pub search_found : (tells : Bool) (folder : List ℕ) (contents : List Contents) (at : ℕ) (names : List (List ℕ)) → (names ≡ [] → ⊥) → (IsTrue tells → names ≡ files_below folder (get_or contents at empty))
    → SearchedSoFar tells folder contents at → IsTrue tells → (path : List ℕ) → last_file folder contents path ≡ get (get_or contents at empty) path
search_found tells folder contents at names some told so_far t path =
    let within : at < length contents = so_far.within in
    let there : has_below folder (get_or contents at empty) ≡ true = some_kept (is_below folder) (keys (get_or contents at empty)) (λ none. some (told t ∙ none)) in
    so_far.told t path ∙ taken folder contents at path within ∙ last_there folder (take at contents) (get_or contents at empty) path there

pub search_more : (tells : Bool) (folder : List ℕ) (contents : List Contents) (at next : ℕ) (names : List (List ℕ)) → at ≡ next + 1 → names ≡ [] → (IsTrue tells → names ≡ files_below folder (get_or contents at empty))
    → SearchedSoFar tells folder contents at → SearchedSoFar tells folder contents next
search_more tells folder contents at next names e none told so_far =
    let within : at < length contents = so_far.within in
    record {
      within = omega arith;
      told = λ t path.
          let not_there : has_below folder (get_or contents at empty) ≡ false = none_kept (is_below folder) (keys (get_or contents at empty)) (sym (told t) ∙ none) in
          so_far.told t path ∙ taken folder contents at path within
          ∙ last_before folder (take at contents) (get_or contents at empty) path not_there (omega (arith, length-take at contents))
          ∙ ap (λ n. last_file folder (take n contents) path) e;
    }

pub search_end : (tells : Bool) (folder : List ℕ) (contents : List Contents) (at : ℕ) → at ≤ 0 → SearchedSoFar tells folder contents at → IsTrue tells → (path : List ℕ)
    → last_file folder contents path ≡ get (get_or contents 0 empty) path
search_end tells folder contents at l so_far t path =
    let within : at < length contents = so_far.within in
    let none : at ≡ 0 = omega arith in
    so_far.told t path ∙ ap (λ n. last_file folder (take (n + 1) contents) path) none ∙ taken folder contents 0 path (omega arith)

-- ---- pieces one behind the other

take_take : (n k : ℕ) (xs : List ℕ) → n ≤ k → take n (take k xs) ≡ take n xs
take_take zero k xs l = refl
take_take (suc n) zero xs l = absurd (omega arith)
take_take (suc n) (suc k) [] l = refl
take_take (suc n) (suc k) (x ∷ xs) l = ap (λ ys. x ∷ ys) (take_take n k xs (omega arith))

take_pieces : (n k j : ℕ) (p b : List ℕ) → n ≤ k → n ≤ j → take n (take k p ++ 10 ∷ take j b) ≡ take n (p ++ 10 ∷ b)
take_pieces zero k j p b l m = refl
take_pieces (suc n) zero j p b l m = absurd (omega arith)
take_pieces (suc n) (suc k) j [] b l m = ap (λ ys. 10 ∷ ys) (take_take n j b (omega arith))
take_pieces (suc n) (suc k) j (x ∷ p) b l m = ap (λ ys. x ∷ ys) (take_pieces n k j p b (omega arith) (omega arith))

front_piece : (most : ℕ) (o : Option (List ℕ)) (b : List ℕ) → option_map (take most) (with_piece (option_map (take most) o) (take most b)) ≡ option_map (take most) (with_piece o b)
front_piece most None b = ap (λ x. Some x) (take_take most most b (omega arith))
front_piece most (Some p) b = ap (λ x. Some x) (take_pieces most most most p b (omega arith) (omega arith))

pub record JoinedSoFar (tells : Bool) (most : ℕ) (file : List ℕ) (contents : List Contents) (at : ℕ) (found : Option (List ℕ)) : Type 0 where
  pub told : IsTrue tells → found ≡ option_map (take most) (joined_file (take at contents) file)

pieces_more : (file : List ℕ) (contents : List Contents) (at : ℕ) (o : Option (List ℕ)) → at < length contents → get (get_or contents at empty) file ≡ o
    → joined_file (take (at + 1) contents) file ≡ fold with_piece (joined_file (take at contents) file) (cons_option o [])
pieces_more file contents at o l e =
    ap (λ cs. joined_file cs file) (take_more contents at empty l)
    ∙ ap (fold with_piece None) (filter_map-append (λ c. get c file) (take at contents) (get_or contents at empty ∷ []))
    ∙ ap (λ g. fold with_piece None (filter_map (λ c. get c file) (take at contents) ++ cons_option g [])) e
    ∙ fold-append with_piece None (filter_map (λ c. get c file) (take at contents)) (cons_option o [])

none_is : (most : ℕ) (o : Option (List ℕ)) → None ≡ option_map (take most) o → o ≡ None
none_is most None e = refl
none_is most (Some b) e = absurd (cc e)

pub joined_none : (tells : Bool) (most : ℕ) (file : List ℕ) (contents : List Contents) (at : ℕ) (found : Option (List ℕ)) → at < length contents
    → (IsTrue tells → None ≡ first_bytes most file (get_or contents at empty)) → JoinedSoFar tells most file contents at found → JoinedSoFar tells most file contents (at + 1) found
joined_none tells most file contents at found l told so_far = record {
  told = λ t. so_far.told t ∙ ap (option_map (take most)) (sym (pieces_more file contents at None l (none_is most (get (get_or contents at empty) file) (told t))));
}

some_step : (most : ℕ) (file : List ℕ) (contents : List Contents) (at : ℕ) (found : Option (List ℕ)) (piece : List ℕ) (o : Option (List ℕ)) → at < length contents → get (get_or contents at empty) file ≡ o
    → Some piece ≡ option_map (take most) o → found ≡ option_map (take most) (joined_file (take at contents) file)
    → option_map (take most) (with_piece found piece) ≡ option_map (take most) (joined_file (take (at + 1) contents) file)
some_step most file contents at found piece None l e is so_far = absurd (cc is)
some_step most file contents at found piece (Some b) l e is so_far =
    let same : piece ≡ take most b = cc is in
    ap₂ (λ f p. option_map (take most) (with_piece f p)) so_far same
    ∙ front_piece most (joined_file (take at contents) file) b
    ∙ ap (option_map (take most)) (sym (pieces_more file contents at (Some b) l e))

pub joined_some : (tells : Bool) (most : ℕ) (file : List ℕ) (contents : List Contents) (at : ℕ) (found : Option (List ℕ)) (piece bytes : List ℕ) → at < length contents
    → (IsTrue tells → Some piece ≡ first_bytes most file (get_or contents at empty)) → Some bytes ≡ option_map (take most) (with_piece found piece)
    → JoinedSoFar tells most file contents at found → JoinedSoFar tells most file contents (at + 1) (Some bytes)
joined_some tells most file contents at found piece bytes l told put so_far = record {
  told = λ t. put ∙ some_step most file contents at found piece (get (get_or contents at empty) file) l refl (told t) (so_far.told t);
}

pub joined_all : (tells : Bool) (most : ℕ) (file : List ℕ) (contents : List Contents) (at : ℕ) (found : Option (List ℕ)) → length contents ≤ at → JoinedSoFar tells most file contents at found
    → IsTrue tells → found ≡ option_map (take most) (joined_file contents file)
joined_all tells most file contents at found l so_far t = so_far.told t ∙ ap (λ cs. option_map (take most) (joined_file cs file)) (take_all at contents l)

-- ---- the same as results

no_keys : (set : PathSet) → set ≡ empty → keys set ≡ []
no_keys set e = ap keys e ∙ ap (map (λ e. e.0)) (nil_from_length (entries (let none : PathSet = empty in none)) (sym (len-entries empty) ∙ len-empty order (Unit {0})))

pub merged_begin : (lists : List (List (List ℕ))) (at : ℕ) (kept later : PathSet) → at ≡ length lists → kept ≡ empty → later ≡ empty → MergedSoFar lists at kept later
merged_begin lists at kept later e k l =
    let none : drop at lists ≡ [] = drop_all at lists (omega arith) in
    record {
      within = omega arith;
      stay = λ test. ap (list_any test) (no_keys kept k) ∙ ap (λ ls. list_any test (kept_of ls)) (sym none);
      behind = λ test. ap (list_any test) (no_keys later l) ∙ ap (λ ls. list_any test (all_of ls)) (sym none);
    }

pub all_alike_keys : {E : Type 0} (folder : List ℕ) (lists : List (List (List ℕ))) (at : ℕ) (kept later : PathSet) (result : Result (List (List ℕ)) E) → at ≤ 0
    → IfOk result (λ paths. paths ≡ filter (is_below folder) (keys kept)) → MergedSoFar lists at kept later → IfOk result (λ paths. Alike paths (filter (is_below folder) (kept_of lists)))
all_alike_keys folder lists at kept later (Ok paths) l e so_far = merged_all folder lists at kept later paths l e so_far
all_alike_keys folder lists at kept later (Err error) l e so_far = tt
