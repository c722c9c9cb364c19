-- What lies below a folder, where no path is a folder of another.
use Rattle.std.proofs.Common.{◌≡◌, ℕ, ◌+◌, Bool, true, false, List, [], ◌∷◌, ap, subst, sym, ◌∙◌, refl, arith, length, drop, length-append}
use Rattle.std.specs.Prelude.{cond, not, ◌&&◌, ◌||◌, filter, map, Option, Some, None, is_some, bytes_eq, Contains}
use Rattle.std.specs.Cmp.{eq_by_cmp_equiv}
use Rattle.std.specs.Cmp.Lexicographic.{nat_list_cmp_total, texts_ties}
use Rattle.std.specs.Ordering.{eq_by_cmp}
use Rattle.std.specs.declared.cmp.Ordering.TheVariants.{Less, Equal, Greater}
use Rattle.std.specs.List.{list_all, list_any, find}
use Rattle.std.specs.FinMap.{empty, get, keys, entries, insert, remove, contains_key, contains_key-keys, get-remove, entries-insert, len-entries, len-empty, put}
use Rattle.std.specs.FinMap.Entries.{by_order}
use Rattle.std.proofs.lemmas.List.Kept.{IsStrictlySortedBy-filter}
use Rattle.std.proofs.lemmas.Bool.{and_from}
use Rattle.std.proofs.lemmas.Map.Views.{Contains-from_any, list_any-from_Contains}
use Rattle.std.proofs.lemmas.Slice.Eq.{bytes_eq-Decides}
use Rattle.bulk_base.specs.Path.{is_below, joined, collides}
use Rattle.bulk_base.proofs.MapView.{order, keys_ascend}
use Rattle.bulk_base.proofs.Members.{all_passes, passes_all}
use Rattle.bulk_base.proofs.Paths.{below_is_joined}
use Rattle.outside.specs.Contents.{Contents, IsListing, IsFree, can_hold, has_no_folder, files_below}
use Rattle.outside.specs.Given.{is_folder_of, first_folder}

left : (a b : Bool) → (a && b) ≡ true → a ≡ true
left true b p = refl
left false b p = p

right : (a b : Bool) → (a && b) ≡ true → b ≡ true
right true b p = p
right false b p = cc

-- what holds of all of a list holds of all that a filter keeps
pub list_all-filter : {X : Type 0} (p q : X → Bool) (xs : List X) → list_all p xs ≡ true → list_all p (filter q xs) ≡ true
list_all-filter p q [] h = refl
list_all-filter p q (x ∷ xs) h =
    let rest : list_all p (filter q xs) ≡ true = list_all-filter p q xs (right (p x) (list_all p xs) h) in
    elim (q x) as (λ b. list_all p (cond b (x ∷ filter q xs) (filter q xs)) ≡ true) [ true ↦ and_from _ _ (left (p x) (list_all p xs) h) rest | false ↦ rest ]

-- a filter keeps what passes
pub list_all_kept : {X : Type 0} (p : X → Bool) (xs : List X) → list_all p (filter p xs) ≡ true
list_all_kept p [] = refl
list_all_kept p (x ∷ xs) =
    elim (p x) as (λ b. p x ≡ b → list_all p (cond b (x ∷ filter p xs) (filter p xs)) ≡ true) [
      | true ↦ λ e. and_from _ _ e (list_all_kept p xs)
      | false ↦ λ e. list_all_kept p xs
    ] refl

list_all_weaker : {X : Type 0} (p q : X → Bool) (xs : List X) → ((x : X) → p x ≡ true → q x ≡ true) → list_all p xs ≡ true → list_all q xs ≡ true
list_all_weaker p q [] w h = refl
list_all_weaker p q (x ∷ xs) w h = and_from _ _ (w x (left (p x) (list_all p xs) h)) (list_all_weaker p q xs w (right (p x) (list_all p xs) h))

pub has_no_folder-filter : (q : List ℕ → Bool) (paths : List (List ℕ)) → has_no_folder paths ≡ true → has_no_folder (filter q paths) ≡ true
has_no_folder-filter q paths h =
    list_all_weaker (λ folder. list_all (λ path. not (is_below folder path)) paths) (λ folder. list_all (λ path. not (is_below folder path)) (filter q paths)) (filter q paths)
    (λ folder all. list_all-filter (λ path. not (is_below folder path)) q paths all)
    (list_all-filter (λ folder. list_all (λ path. not (is_below folder path)) paths) q paths h)

-- the files below a folder are a listing
pub files_below_are_listed : (folder : List ℕ) (content : Contents) → has_no_folder (keys content) ≡ true → IsListing folder (files_below folder content)
files_below_are_listed folder content h = record {
  order = IsStrictlySortedBy-filter order (is_below folder) (keys content) (keys_ascend content);
  below = list_all_kept (is_below folder) (keys content);
  apart = has_no_folder-filter (is_below folder) (keys content) h;
}

none_below : (folder : List ℕ) (paths : List (List ℕ)) → list_any (is_below folder) paths ≡ false → list_all (λ path. not (is_below folder path)) paths ≡ true
none_below folder [] h = refl
none_below folder (x ∷ xs) h = and_from _ _ (grind arith) (none_below folder xs (grind arith))

none_found : {X : Type 0} (p q : X → Bool) (xs : List X) → ((x : X) → p x ≡ false → q x ≡ true) → find p xs ≡ None → list_all q xs ≡ true
none_found p q [] w h = refl
none_found p q (x ∷ xs) w h =
    elim (p x) as (λ b. p x ≡ b → cond b (Some x) (find p xs) ≡ None → (q x && list_all q xs) ≡ true) [
      | true ↦ λ e k. cc
      | false ↦ λ e k. and_from _ _ (w x e) (none_found p q xs w k)
    ] refl h

-- where there is no first folder, there is none
pub has_no_folder-from_first : (paths : List (List ℕ)) → first_folder paths ≡ None → has_no_folder paths ≡ true
has_no_folder-from_first paths h = none_found (is_folder_of paths) (λ folder. list_all (λ path. not (is_below folder path)) paths) paths (λ folder e. none_below folder paths e) h

-- a file that is put at a path that none is a folder of, and that is none's folder, keeps this so
list_all-put : (p : List ℕ → Bool) (path : List ℕ) (bytes : List ℕ) (es : List (List ℕ × List ℕ)) → p path ≡ true → list_all p (map (λ e. e.0) es) ≡ true → list_all p (map (λ e. e.0) (put order path bytes es)) ≡ true
list_all-put p path bytes [] h k = and_from _ _ h refl
list_all-put p path bytes (e ∷ es) h k =
    elim (order path e.0) as (λ o. list_all p (map (λ x. x.0) (by_order o ((path, bytes) ∷ e ∷ es) ((e.0, bytes) ∷ es) (e ∷ put order path bytes es))) ≡ true) [
      | Less ↦ and_from _ _ h k
      | Equal ↦ k
      | Greater ↦ and_from _ _ (left (p e.0) (list_all p (map (λ x. x.0) es)) k) (list_all-put p path bytes es h (right (p e.0) (list_all p (map (λ x. x.0) es)) k))
    ]

list_all-insert : (p : List ℕ → Bool) (content : Contents) (path bytes : List ℕ) → p path ≡ true → list_all p (keys content) ≡ true → list_all p (keys (insert content path bytes)) ≡ true
list_all-insert p content path bytes h k =
    subst (λ es. list_all p (map (λ e. e.0) es) ≡ true) (sym (entries-insert nat_list_cmp_total content path bytes)) (list_all-put p path bytes (entries content) h k)

list_all_both : {X : Type 0} (p q : X → Bool) (xs : List X) → list_all p xs ≡ true → list_all q xs ≡ true → list_all (λ x. p x && q x) xs ≡ true
list_all_both p q [] h k = refl
list_all_both p q (x ∷ xs) h k =
    and_from _ _ (and_from _ _ (left (p x) (list_all p xs) h) (left (q x) (list_all q xs) k)) (list_all_both p q xs (right (p x) (list_all p xs) h) (right (q x) (list_all q xs) k))

not_any : {X : Type 0} (p q : X → Bool) (xs : List X) → ((x : X) → p x ≡ false → q x ≡ true) → not (list_any p xs) ≡ true → list_all q xs ≡ true
not_any p q [] w h = refl
not_any p q (x ∷ xs) w h = and_from _ _ (w x (grind arith)) (not_any p q xs w (grind arith))

not_true : (b : Bool) → (b ≡ true → ⊥) → not b ≡ true
not_true true h = absurd (h refl)
not_true false h = refl

not_below_itself : (path : List ℕ) → not (is_below path path) ≡ true
not_below_itself path = not_true (is_below path path) (λ h.
    let size : length path ≡ length (joined path (drop (length path + 1) path)) = ap length (below_is_joined path path h) in
    omega (arith, size, length-append path (47 ∷ drop (length path + 1) path)))

pub has_no_folder-insert : (content : Contents) (path bytes : List ℕ) → can_hold path content ≡ true → has_no_folder (keys content) ≡ true → has_no_folder (keys (insert content path bytes)) ≡ true
has_no_folder-insert content path bytes free apart =
    let beneath : list_all (λ other. not (is_below path other)) (keys content) ≡ true =
    not_any (λ other. is_below path other || is_below other path) (λ other. not (is_below path other)) (keys content) (λ x e. grind arith) free in
    let above : list_all (λ other. not (is_below other path)) (keys content) ≡ true =
    not_any (λ other. is_below path other || is_below other path) (λ other. not (is_below other path)) (keys content) (λ x e. grind arith) free in
    list_all-insert (λ folder. list_all (λ other. not (is_below folder other)) (keys (insert content path bytes))) content path bytes
    (list_all-insert (λ other. not (is_below path other)) content path bytes (not_below_itself path) beneath)
    (list_all_weaker (λ folder. list_all (λ other. not (is_below folder other)) (keys content) && not (is_below folder path))
    (λ folder. list_all (λ other. not (is_below folder other)) (keys (insert content path bytes))) (keys content)
    (λ folder h. list_all-insert (λ other. not (is_below folder other)) content path bytes
    (right (list_all (λ other. not (is_below folder other)) (keys content)) (not (is_below folder path)) h)
    (left (list_all (λ other. not (is_below folder other)) (keys content)) (not (is_below folder path)) h))
    (list_all_both (λ folder. list_all (λ other. not (is_below folder other)) (keys content)) (λ folder. not (is_below folder path)) (keys content) apart above))

not_either : (same below above rest : Bool) → not (same || above || below) ≡ true → not rest ≡ true → not ((below || above) || rest) ≡ true
not_either same below above rest h k = grind arith

none_nested : (path : List ℕ) (others : List (List ℕ)) → list_all (λ other. not (collides path other)) others ≡ true → not (list_any (λ other. is_below path other || is_below other path) others) ≡ true
none_nested path [] h = refl
none_nested path (other ∷ others) h = not_either (bytes_eq path other) (is_below path other) (is_below other path) _
    (left (not (collides path other)) (list_all (λ x. not (collides path x)) others) h)
    (none_nested path others (right (not (collides path other)) (list_all (λ x. not (collides path x)) others) h))

-- a file can stand at a path that is free
pub can_hold-from_free : (path : List ℕ) (content : Contents) → IsFree path content → can_hold path content ≡ true
can_hold-from_free path content h = none_nested path (keys content) h

none_of_length : {X : Type 0} (xs : List X) → length xs ≡ 0 → xs ≡ []
none_of_length [] e = refl
none_of_length (x ∷ xs) e = absurd (omega arith)

-- no file, no folder
pub has_no_folder-empty : has_no_folder (keys {X = List ℕ} {R = order} empty) ≡ true
has_no_folder-empty =
    subst (λ es. has_no_folder (map (λ e. e.0) es) ≡ true) (sym (none_of_length (entries {X = List ℕ} {R = order} empty) (sym (len-entries empty) ∙ len-empty order (List ℕ)))) refl

-- each path is free where there is no file
pub is_free-empty : (path : List ℕ) → IsFree path empty
is_free-empty path =
    subst (λ es. list_all (λ other. not (collides path other)) (map (λ e. e.0) es) ≡ true) (sym (none_of_length (entries {X = List ℕ} {R = order} empty) (sym (len-entries empty) ∙ len-empty order (List ℕ)))) refl

same_text : (a b : List ℕ) → eq_by_cmp order a b ≡ true → a ≡ b
same_text a b e = (bytes_eq-Decides a b).0 (texts_ties a b ∙ e)

-- where a content has no path that another lacks, none of its paths is a folder of another where that holds of the other
has_no_folder-fewer : (more fewer : Contents) → ((path : List ℕ) → contains_key fewer path ≡ true → contains_key more path ≡ true) → has_no_folder (keys more) ≡ true → has_no_folder (keys fewer) ≡ true
has_no_folder-fewer more fewer has apart =
    let among : (path : List ℕ) → Contains (keys fewer) path → Contains (keys more) path = λ path c.
    Contains-from_any same_text path (keys more) (sym (contains_key-keys more path) ∙ has path (contains_key-keys fewer path ∙ list_any-from_Contains (eq_by_cmp_equiv nat_list_cmp_total) path (keys fewer) c)) in
    passes_all (λ folder. list_all (λ path. not (is_below folder path)) (keys fewer)) (keys fewer) (λ folder f.
    passes_all (λ path. not (is_below folder path)) (keys fewer) (λ path p.
    all_passes (λ x. not (is_below folder x)) (keys more) path (all_passes (λ x. list_all (λ y. not (is_below x y)) (keys more)) (keys more) folder apart (among folder f)) (among path p)))

-- a removal leaves it so
pub has_no_folder-remove : (content : Contents) (path : List ℕ) → has_no_folder (keys content) ≡ true → has_no_folder (keys (remove content path)) ≡ true
has_no_folder-remove content path = has_no_folder-fewer content (remove content path) (λ other h.
    still (eq_by_cmp order other path) (get content other) (sym (ap is_some (get-remove nat_list_cmp_total content path other)) ∙ h))
  where
    still : (b : Bool) (found : Option (List ℕ)) → is_some (cond b None found) ≡ true → is_some found ≡ true
    still true found h = cc
    still false found h = h
