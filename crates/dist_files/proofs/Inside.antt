-- Among files in byte order a folder stands before what is below it.
use Rattle.std.proofs.Common.{◌≡◌, ℕ, Bool, true, false, List, [], ◌∷◌, ◌++◌, length, take, drop, get_or, ◌<◌, ◌+◌, ap, sym, ◌∙◌, refl, subst, nat_eq, eqb-true, arith}
use Rattle.std.specs.Prelude.{cond, not, ◌||◌, ◌&&◌, find, Some, None, Option}
use Rattle.std.specs.declared.cmp.Ordering.{Ordering}
use Rattle.std.specs.declared.cmp.Ordering.TheVariants.{Less, Equal, Greater}
use Rattle.std.specs.Ordering.{nat_cmp, ordering_then, ordering_reverse}
use Rattle.std.specs.Cmp.{nat_cmp_total, tied_itself}
use Rattle.std.specs.Cmp.Lexicographic.{nat_list_cmp_total}
use Rattle.std.specs.FinMap as map
use Rattle.std.specs.List.{list_any, list_all, starts_with, AllByRecursion, fold}
use Rattle.std.specs.List.Sorted.{IsStrictlySortedBy}
use Rattle.std.proofs.lemmas.Bool.{and_parts}
use Rattle.std.proofs.lemmas.List.{take_more, drop_more, take-append-drop}
use Rattle.std.proofs.lemmas.List.Sums.{fold-append}
use Rattle.bulk_base.specs.Order.{TextSet, set_of}
use Rattle.bulk_base.specs.Path.{is_below, joined}
use Rattle.bulk_base.proofs.InOrder.{list_any-set_of}
use Rattle.bulk_base.proofs.MapView.{order}
use Rattle.dist_files.specs.Distinfo.{is_inside}

-- what is below a folder stands behind it
below_is_behind : (folder path : List ℕ) → is_below folder path ≡ true → order folder path ≡ Less
below_is_behind [] [] h = absurd cc
below_is_behind [] (y ∷ ys) h = refl
below_is_behind (x ∷ xs) [] h = absurd cc
below_is_behind (x ∷ xs) (y ∷ ys) h =
    let p = and_parts (nat_eq x y) (is_below xs ys) h in
    let tied : nat_cmp x y ≡ Equal = subst (λ z. nat_cmp x z ≡ Equal) (eqb-true x y p.0) (tied_itself nat_cmp_total x) in
    ap (λ o. ordering_then o (order xs ys)) tied ∙ below_is_behind xs ys p.1

apart_case : (folder path : List ℕ) (b : Bool) → is_below folder path ≡ b → (order folder path ≡ Less → ⊥) → b ≡ false
apart_case folder path true e h = absurd (h (below_is_behind folder path e))
apart_case folder path false e h = refl

-- nothing is below itself or below what stands behind it
never_both : (o : Ordering) → o ≡ Less → ordering_reverse o ≡ Less → ⊥
never_both Less e h = cc
never_both Equal e h = cc
never_both Greater e h = cc

not_behind : (first second : List ℕ) → order first second ≡ Less → is_below second first ≡ false
not_behind first second l = apart_case second first (is_below second first) refl (λ h.
    never_both (order first second) l (sym (nat_list_cmp_total.antisymm second first) ∙ h))

not_itself : (path : List ℕ) → is_below path path ≡ false
not_itself path = apart_case path path (is_below path path) refl (λ h.
    let e : Less ≡ Equal = sym h ∙ tied_itself nat_list_cmp_total path in cc e)

none_later : (file : List ℕ) (rest : List (List ℕ)) → AllByRecursion (λ y. order file y ≡ Less) rest → list_any (λ other. is_below other file) rest ≡ false
none_later file [] h = refl
none_later file (r ∷ rest) h = ap (λ b. b || list_any (λ other. is_below other file) rest) (not_behind file r h.0) ∙ none_later file rest h.1

before_it : (done rest : List (List ℕ)) (d file : List ℕ) → AllByRecursion (λ y. order d y ≡ Less) (done ++ file ∷ rest) → order d file ≡ Less
before_it [] rest d file h = h.0
before_it (x ∷ done) rest d file h = before_it done rest d file h.1

-- of files in byte order, those before one that collide with it are those of all that are its folders
pub inside_before : (done rest : List (List ℕ)) (file : List ℕ) → IsStrictlySortedBy order (done ++ file ∷ rest)
    → list_any (λ other. is_below file other || is_below other file) done ≡ is_inside (done ++ file ∷ rest) file
unfolding IsStrictlySortedBy
inside_before [] rest file h = sym (ap (λ b. b || list_any (λ other. is_below other file) rest) (not_itself file) ∙ none_later file rest h.0)
inside_before (d ∷ done) rest file h =
    ap (λ b. (b || is_below d file) || list_any (λ other. is_below file other || is_below other file) done) (not_behind d file (before_it done rest d file h.0))
    ∙ ap (λ b. is_below d file || b) (inside_before done rest file h.1)

set_push : (texts : List (List ℕ)) (text : List ℕ) → set_of (texts ++ text ∷ []) ≡ map.insert (set_of texts) text tt
set_push texts text = fold-append (λ set t. map.insert set t tt) map.empty texts (text ∷ [])

-- so far the set has the files before, and the first that lies inside another is among those to come
pub record SearchedSoFar (files : List (List ℕ)) (at : ℕ) (before : TextSet) : Type 0 where
  pub set : before ≡ set_of (take at files)
  pub search : find (is_inside files) (drop at files) ≡ find (is_inside files) files

nested_is_inside : (files : List (List ℕ)) (at : ℕ) (file : List ℕ) (before : TextSet) → IsStrictlySortedBy order files → at < length files → file ≡ get_or files at file
    → SearchedSoFar files at before → list_any (λ other. is_below file other || is_below other file) (map.keys before) ≡ is_inside files file
nested_is_inside files at file before sorted l e so_far =
    let whole : files ≡ take at files ++ file ∷ drop (at + 1) files = sym (take-append-drop at files) ∙ ap (λ r. take at files ++ r) (drop_more files at file l ∙ ap (λ y. y ∷ drop (at + 1) files) (sym e)) in
    ap (λ set. list_any (λ other. is_below file other || is_below other file) (map.keys set)) so_far.set
    ∙ list_any-set_of (λ other. is_below file other || is_below other file) (take at files)
    ∙ inside_before (take at files) (drop (at + 1) files) file (subst (IsStrictlySortedBy order) whole sorted)
    ∙ ap (λ fs. is_inside fs file) (sym whole)

next_search : (files : List (List ℕ)) (at : ℕ) (file : List ℕ) → at < length files → file ≡ get_or files at file
    → find (is_inside files) (drop at files) ≡ cond (is_inside files file) (Some file) (find (is_inside files) (drop (at + 1) files))
next_search files at file l e = ap (find (is_inside files)) (drop_more files at file l ∙ ap (λ y. y ∷ drop (at + 1) files) (sym e))

pub found_inside : (files : List (List ℕ)) (at : ℕ) (file : List ℕ) (before : TextSet) (nested : Bool) → IsStrictlySortedBy order files → at < length files → file ≡ get_or files at file
    → nested ≡ list_any (λ other. is_below file other || is_below other file) (map.keys before) → nested ≡ true
    → SearchedSoFar files at before → Some file ≡ find (is_inside files) files
found_inside files at file before nested sorted l e n t so_far =
    sym (sym so_far.search ∙ next_search files at file l e
    ∙ ap (λ b. cond b (Some file) (find (is_inside files) (drop (at + 1) files))) (sym (nested_is_inside files at file before sorted l e so_far) ∙ sym n ∙ t))

pub searched_more : (files : List (List ℕ)) (at : ℕ) (file : List ℕ) (before after : TextSet) (nested : Bool) → IsStrictlySortedBy order files → at < length files → file ≡ get_or files at file
    → nested ≡ list_any (λ other. is_below file other || is_below other file) (map.keys before) → nested ≡ false → after ≡ map.insert before file tt
    → SearchedSoFar files at before → SearchedSoFar files (at + 1) after
searched_more files at file before after nested sorted l e n f put so_far = record {
  set = put ∙ ap (λ s. map.insert s file tt) so_far.set ∙ sym (set_push (take at files) file) ∙ ap set_of (sym (take_more files at file l ∙ ap (λ y. take at files ++ y ∷ []) (sym e)));
  search =
      sym (next_search files at file l e
      ∙ ap (λ b. cond b (Some file) (find (is_inside files) (drop (at + 1) files))) (sym (nested_is_inside files at file before sorted l e so_far) ∙ sym n ∙ f))
      ∙ so_far.search;
}
