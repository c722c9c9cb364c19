-- Paths in order of which none is a folder of another: what the first of them have to do with the next, and the same below a folder.
use Rattle.std.proofs.Common.{◌≡◌, ℕ, ◌+◌, Bool, true, List, [], ◌∷◌, ◌++◌, ap, sym, ◌∙◌, refl, arith, length, drop, append_assoc, nat_eq}
use Rattle.std.specs.Prelude.{not, ◌&&◌, ◌||◌, map, bytes_eq}
use Rattle.std.specs.Cmp.Lexicographic.{nat_list_cmp_total, texts_ties}
use Rattle.std.specs.Cmp.{nat_cmp_total, tied_itself}
use Rattle.std.specs.Ordering.{nat_cmp, is_eq, ordering_then, ordering_reverse}
use Rattle.std.specs.declared.cmp.Ordering.TheVariants.{Less, Equal}
use Rattle.std.specs.List.{list_all, AllByRecursion, starts_with}
use Rattle.std.specs.List.Sorted.{IsStrictlySortedBy}
use Rattle.std.proofs.lemmas.List.Folds.{list_all-append}
use Rattle.std.proofs.lemmas.Bool.{and_parts, and_from}
use Rattle.std.proofs.lemmas.Bool.Decides.{nat_tests}
use Rattle.bulk_base.specs.Path.{is_below, joined, collides}
use Rattle.bulk_base.proofs.Paths.{below_is_joined}
use Rattle.bulk_base.proofs.MapView.{order}
use Rattle.outside.specs.Contents.{IsAscending, has_no_folder, IsListing}
use Rattle.path_laws.specs.Laws.{IsPathList, rest_of}

-- what a test says of all
pub list_all_weaker : {X : Type 0} (p q : X → Bool) (xs : List X) → ((x : X) → p x ≡ true → q x ≡ true) → list_all p xs ≡ true → list_all q xs ≡ true
list_all_weaker p q [] w h = refl
list_all_weaker p q (x ∷ xs) w h = let k = and_parts (p x) (list_all p xs) h in and_from _ _ (w x k.0) (list_all_weaker p q xs w k.1)

pub list_all_both : {X : Type 0} (p q : X → Bool) (xs : List X) → list_all p xs ≡ true → list_all q xs ≡ true → list_all (λ x. p x && q x) xs ≡ true
list_all_both p q [] h k = refl
list_all_both p q (x ∷ xs) h k =
    let a = and_parts (p x) (list_all p xs) h in
    let b = and_parts (q x) (list_all q xs) k in
    and_from _ _ (and_from _ _ a.0 b.0) (list_all_both p q xs a.1 b.1)

pub parts_of_all : {X : Type 0} (p : X → Bool) (front : List X) (x : X) (back : List X) → list_all p (front ++ x ∷ back) ≡ true → (list_all p front ≡ true) × (p x ≡ true) × (list_all p back ≡ true)
parts_of_all p front x back h =
    let k = and_parts (list_all p front) (p x && list_all p back) (sym (list_all-append p front (x ∷ back)) ∙ h) in
    let m = and_parts (p x) (list_all p back) k.1 in
    (k.0, m.0, m.1)

list_all-left_out : {X : Type 0} (p : X → Bool) (front : List X) (x : X) (back : List X) → list_all p (front ++ x ∷ back) ≡ true → list_all p (front ++ back) ≡ true
list_all-left_out p front x back h = let k = parts_of_all p front x back h in list_all-append p front back ∙ and_from _ _ k.0 k.2

-- ---- one path left out

all-left_out : (P : List ℕ → Type 0) (front : List (List ℕ)) (x : List ℕ) (back : List (List ℕ)) → AllByRecursion P (front ++ x ∷ back) → AllByRecursion P (front ++ back)
all-left_out P [] x back h = h.1
all-left_out P (y ∷ front) x back h = (h.0, all-left_out P front x back h.1)

order-left_out : (front : List (List ℕ)) (x : List ℕ) (back : List (List ℕ)) → IsAscending (front ++ x ∷ back) → IsAscending (front ++ back)
unfolding IsStrictlySortedBy
order-left_out [] x back s = s.1
order-left_out (y ∷ front) x back s = (all-left_out (λ z. order y z ≡ Less) front x back s.0, order-left_out front x back s.1)

pub left_out : (front : List (List ℕ)) (x : List ℕ) (back : List (List ℕ)) → IsPathList (front ++ x ∷ back) → IsPathList (front ++ back)
left_out front x back h = record {
  order = order-left_out front x back h.order;
  apart = list_all_weaker (λ f. list_all (λ y. not (is_below f y)) (front ++ x ∷ back)) (λ f. list_all (λ y. not (is_below f y)) (front ++ back)) (front ++ back)
      (λ f k. list_all-left_out (λ y. not (is_below f y)) front x back k)
      (list_all-left_out (λ f. list_all (λ y. not (is_below f y)) (front ++ x ∷ back)) front x back h.apart);
}

-- ---- paths below one folder

same_byte : (c : ℕ) → nat_eq c c ≡ true
same_byte c = grind (arith, nat_tests)

same_rank : (c : ℕ) → nat_cmp c c ≡ Equal
same_rank c = tied_itself nat_cmp_total c

bytes_eq-front : (w a b : List ℕ) → bytes_eq (w ++ a) (w ++ b) ≡ bytes_eq a b
bytes_eq-front [] a b = refl
bytes_eq-front (c ∷ w) a b = ap (λ t. t && bytes_eq (w ++ a) (w ++ b)) (same_byte c) ∙ bytes_eq-front w a b

starts_with-front : (w a b : List ℕ) → starts_with nat_eq (w ++ a) (w ++ b) ≡ starts_with nat_eq a b
starts_with-front [] a b = refl
starts_with-front (c ∷ w) a b = ap (λ t. t && starts_with nat_eq (w ++ a) (w ++ b)) (same_byte c) ∙ starts_with-front w a b

pub order-front : (w a b : List ℕ) → order (w ++ a) (w ++ b) ≡ order a b
order-front [] a b = refl
order-front (c ∷ w) a b = ap (λ o. ordering_then o (order (w ++ a) (w ++ b))) (same_rank c) ∙ order-front w a b

pub is_below-joined_both : (w a b : List ℕ) → is_below (joined w a) (joined w b) ≡ is_below a b
is_below-joined_both w a b = ap (starts_with nat_eq (joined w b)) (append_assoc w (47 ∷ a) (47 ∷ [])) ∙ starts_with-front w (47 ∷ b) (47 ∷ a ++ 47 ∷ [])

pub collides-joined_both : (w a b : List ℕ) → collides (joined w a) (joined w b) ≡ collides a b
collides-joined_both w a b =
    ap (λ t. t || is_below (joined w b) (joined w a) || is_below (joined w a) (joined w b)) (bytes_eq-front w (47 ∷ a) (47 ∷ b))
    ∙ ap (λ t. bytes_eq a b || t || is_below (joined w a) (joined w b)) (is_below-joined_both w b a)
    ∙ ap (λ t. bytes_eq a b || is_below b a || t) (is_below-joined_both w a b)

is_below-rest : (w a b : List ℕ) → is_below w a ≡ true → is_below w b ≡ true → is_below (rest_of w a) (rest_of w b) ≡ is_below a b
is_below-rest w a b p q =
    sym (is_below-joined_both w (rest_of w a) (rest_of w b)) ∙ ap (λ f. is_below f (joined w (rest_of w b))) (sym (below_is_joined w a p)) ∙ ap (is_below a) (sym (below_is_joined w b q))

order-rest : (w a b : List ℕ) → is_below w a ≡ true → is_below w b ≡ true → order (rest_of w a) (rest_of w b) ≡ order a b
order-rest w a b p q =
    sym (order-front w (47 ∷ rest_of w a) (47 ∷ rest_of w b)) ∙ ap (λ f. order f (joined w (rest_of w b))) (sym (below_is_joined w a p)) ∙ ap (order a) (sym (below_is_joined w b q))

less-rest : (w x : List ℕ) (paths : List (List ℕ)) → is_below w x ≡ true → list_all (is_below w) paths ≡ true → AllByRecursion (λ y. order x y ≡ Less) paths → AllByRecursion (λ y. order (rest_of w x) y ≡ Less) (map (rest_of w) paths)
less-rest w x [] p q h = tt
less-rest w x (y ∷ paths) p q h = let k = and_parts (is_below w y) (list_all (is_below w) paths) q in (order-rest w x y p k.0 ∙ h.0, less-rest w x paths p k.1 h.1)

ascending-rest : (w : List ℕ) (paths : List (List ℕ)) → list_all (is_below w) paths ≡ true → IsAscending paths → IsAscending (map (rest_of w) paths)
unfolding IsStrictlySortedBy
ascending-rest w [] q s = tt
ascending-rest w (x ∷ paths) q s = let k = and_parts (is_below w x) (list_all (is_below w) paths) q in (less-rest w x paths k.0 k.1 s.0, ascending-rest w paths k.1 s.1)

none_below-rest : (w f : List ℕ) (paths : List (List ℕ)) → is_below w f ≡ true → list_all (is_below w) paths ≡ true → list_all (λ y. not (is_below f y)) paths ≡ true → list_all (λ y. not (is_below (rest_of w f) y)) (map (rest_of w) paths) ≡ true
none_below-rest w f [] p q h = refl
none_below-rest w f (y ∷ paths) p q h =
    let k = and_parts (is_below w y) (list_all (is_below w) paths) q in
    let m = and_parts (not (is_below f y)) (list_all (λ z. not (is_below f z)) paths) h in
    and_from _ _ (ap not (is_below-rest w f y p k.0) ∙ m.0) (none_below-rest w f paths p k.1 m.1)

apart-rest : (w : List ℕ) (all paths : List (List ℕ)) → list_all (is_below w) all ≡ true → list_all (is_below w) paths ≡ true
    → list_all (λ f. list_all (λ y. not (is_below f y)) all) paths ≡ true → list_all (λ f. list_all (λ y. not (is_below f y)) (map (rest_of w) all)) (map (rest_of w) paths) ≡ true
apart-rest w all [] q r h = refl
apart-rest w all (f ∷ paths) q r h =
    let k = and_parts (is_below w f) (list_all (is_below w) paths) r in
    let m = and_parts (list_all (λ y. not (is_below f y)) all) (list_all (λ g. list_all (λ y. not (is_below g y)) all) paths) h in
    and_from _ _ (none_below-rest w f all k.0 q m.0) (apart-rest w all paths q k.1 m.1)

-- the paths of a listing without the folder are in order, and none is a folder of another
pub IsPathList-rest : (w : List ℕ) (paths : List (List ℕ)) → IsListing w paths → IsPathList (map (rest_of w) paths)
IsPathList-rest w paths h = record { order = ascending-rest w paths h.below h.order; apart = apart-rest w paths paths h.below h.below h.apart }
