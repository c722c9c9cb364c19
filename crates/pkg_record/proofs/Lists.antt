-- A list in form stays in form with one more item behind its last.
use Rattle.std.proofs.Common.{◌≡◌, ℕ, ◌+◌, ◌-◌, ◌<◌, ◌≤◌, Bool, true, List, [], ◌∷◌, ◌++◌, length, get_or, map, arith, refl, ap, sym, subst, ◌∙◌, inl, inr, suc}
use Rattle.std.specs.Prelude.{◌⊎◌, ◌&&◌, not, nat_le}
use Rattle.std.specs.declared.cmp.Ordering.{Ordering}
use Rattle.std.specs.declared.cmp.Ordering.TheVariants.{Less, Equal, Greater}
use Rattle.std.specs.Ordering.{is_lt, nat_cmp, ordering_then, ordering_reverse}
use Rattle.std.specs.Cmp.{nat_cmp_total, tied_itself}
use Rattle.std.specs.Cmp.Lexicographic.{slice_cmp, nat_list_cmp_total}
use Rattle.std.specs.List.{list_all, AllByRecursion}
use Rattle.std.proofs.lemmas.Bool.{cases_lt, cases_Bool, and_parts, and_from}
use Rattle.std.proofs.lemmas.List.{length-append, length-map, get_or_append_left, map-append}
use Rattle.std.proofs.lemmas.List.Folds.{list_all-append}
use Rattle.std.proofs.lemmas.List.Sums.{list_all-from_AllPass}
use Rattle.std.proofs.lemmas.Map.Keys.{sorted_from_all_adjacent, Less-from_sorted}
use Rattle.std.proofs.lemmas.Option.{slice_get-get_or}
use Rattle.std.proofs.Math.ListN.{get_or-map}
use Rattle.std.proofs.Math.Seq.{get_or-append_seam}
use Rattle.bulk_base.specs.declared.file.FileItem.{FileItem}
use Rattle.bulk_base.specs.declared.file.Switch.{Switch}
use Rattle.bulk_base.specs.Names.{is_option_name, IsNode, IsPackageName}
use Rattle.bulk_base.specs.Path.{is_below}
use Rattle.bulk_base.proofs.Paths.{below_is_joined}
use Rattle.bulk_model.specs.declared.depend.Depend.{Depend}
use Rattle.bulk_model.specs.declared.depend.Recorded.{Recorded}
use Rattle.bulk_model.specs.Facts.{IsOptionList, IsDependList, IsRecordedList, IsFileList, paths_of, comes_before, each_before}
use Rattle.bulk_model.specs.Views.{need_of}
use Rattle.outside.specs.Contents.{IsAscending, has_no_folder}
use Rattle.pkg_record.specs.Reading.{last_of, option_follows, depend_follows, path_follows}

abbrev pub order : List ℕ → List ℕ → Ordering
order = slice_cmp nat_cmp

less_of : (o : Ordering) → is_lt o ≡ true → o ≡ Less
less_of Less e = refl
less_of Equal e = cc
less_of Greater e = cc

pushed_ascends : (names : List (List ℕ)) (name : List ℕ) → (0 < length names → order (get_or names (length names - 1) name) name ≡ Less) → IsAscending names → IsAscending (names ++ name ∷ [])
pushed_ascends names name last s =
    sorted_from_all_adjacent nat_list_cmp_total (names ++ name ∷ []) name (λ k l. next k (omega (arith, l, length-append names (name ∷ []))) (cases_lt (k + 1) (length names)))
  where
    next : (k : ℕ) → k < length names → (k + 1 < length names) ⊎ (length names ≤ k + 1) → order (get_or (names ++ name ∷ []) k name) (get_or (names ++ name ∷ []) (k + 1) name) ≡ Less
    next k l (inl inside) = rw (get_or_append_left names (name ∷ []) name k l, get_or_append_left names (name ∷ []) name (k + 1) inside) (Less-from_sorted order names k (k + 1) name s (omega arith) inside)
    next k l (inr at) =
        let e : k + 1 ≡ length names = omega arith in
        let f : k ≡ length names - 1 = omega arith in
        rw (get_or_append_left names (name ∷ []) name k l, e, get_or-append_seam names name [] name) (ap (λ i. order (get_or names i name) name) f ∙ last (omega arith))

items_ascend : {X : Type 0} (f : X → List ℕ) (xs : List X) (x : X) → (0 < length xs → is_lt (order (f (get_or xs (length xs - 1) x)) (f x)) ≡ true) → IsAscending (map f xs) → IsAscending (map f (xs ++ x ∷ []))
items_ascend f xs x last s =
    rw (map-append f xs (x ∷ [])) (pushed_ascends (map f xs) (f x) (λ some. before (omega (arith, some, length-map xs f))) s)
  where
    before : 0 < length xs → order (get_or (map f xs) (length (map f xs) - 1) (f x)) (f x) ≡ Less
    before some = ap (λ n. order (get_or (map f xs) (n - 1) (f x)) (f x)) (length-map xs f) ∙ ap (λ y. order y (f x)) (get_or-map f xs (length xs - 1) x) ∙ less_of _ (last some)

list_all_pushed : {X Y : Type 0} (p : Y → Bool) (f : X → Y) (xs : List X) (x : X) → list_all p (map f xs) ≡ true → p (f x) ≡ true → list_all p (map f (xs ++ x ∷ [])) ≡ true
list_all_pushed p f xs x h k = ap (list_all p) (map-append f xs (x ∷ [])) ∙ list_all-append p (map f xs) (f x ∷ []) ∙ grind arith

all_pushed : {X : Type 0} (P : X → Type 0) (xs : List X) (x : X) → AllByRecursion P xs → P x → AllByRecursion P (xs ++ x ∷ [])
all_pushed P [] x h p = (p, tt)
all_pushed P (y ∷ xs) x h p = (h.0, all_pushed P xs x h.1 p)

-- ---- options

option_behind : (xs : List Switch) (x : Switch) → option_follows (last_of xs) x ≡ true → 0 < length xs → is_lt (order (get_or xs (length xs - 1) x).name x.name) ≡ true
option_behind xs x h some = sym (ap (λ l. option_follows l x) (slice_get-get_or xs (length xs - 1) x (omega arith))) ∙ h

pub options_grow : (before : List Switch) (option : Switch) → option_follows (last_of before) option ≡ true → is_option_name option.name ≡ true → IsOptionList before → IsOptionList (before ++ option ∷ [])
options_grow before option follows form b = record {
  order = items_ascend (λ o. o.name) before option (option_behind before option follows) b.order;
  forms = list_all_pushed is_option_name (λ o. o.name) before option b.forms form;
}

-- ---- dependencies

depend_behind : (xs : List Recorded) (x : Recorded) → depend_follows (last_of xs) x ≡ true → 0 < length (map need_of xs) → comes_before (get_or (map need_of xs) (length (map need_of xs) - 1) (need_of x)) (need_of x) ≡ true
depend_behind xs x h some =
    ap (λ n. comes_before (get_or (map need_of xs) (n - 1) (need_of x)) (need_of x)) (length-map xs need_of)
    ∙ ap (λ y. comes_before y (need_of x)) (get_or-map need_of xs (length xs - 1) x)
    ∙ sym (ap (λ l. depend_follows l x) (slice_get-get_or xs (length xs - 1) x (omega (arith, some, length-map xs need_of))))
    ∙ h

each_before_pushed : (xs : List Depend) (x : Depend) → (0 < length xs → comes_before (get_or xs (length xs - 1) x) x ≡ true) → each_before xs ≡ true → each_before (xs ++ x ∷ []) ≡ true
each_before_pushed [] x last h = refl
each_before_pushed (a ∷ []) x last h = let l : comes_before a x ≡ true = last (omega arith) in ap (λ b. b && true) l
each_before_pushed (a ∷ b ∷ more) x last h =
    let parts = and_parts (comes_before a b) (each_before (b ∷ more)) h in
    let e : length (a ∷ b ∷ more) - 1 ≡ suc (length (b ∷ more) - 1) = omega arith in
    let rest : each_before (b ∷ more ++ x ∷ []) ≡ true = each_before_pushed (b ∷ more) x (λ some. ap (λ i. comes_before (get_or (a ∷ b ∷ more) i x) x) (sym e) ∙ last (omega arith)) parts.1 in
    ap (λ c. c && each_before (b ∷ more ++ x ∷ [])) parts.0 ∙ rest

needs_grow : (before : List Depend) (depend : Depend) → (0 < length before → comes_before (get_or before (length before - 1) depend) depend ≡ true) → IsNode depend.node → IsPackageName depend.name → IsDependList before
    → IsDependList (before ++ depend ∷ [])
needs_grow before depend follows node name b = record {
  order = each_before_pushed before depend follows b.order;
  nodes = all_pushed (λ d. IsNode d.node) before depend b.nodes node;
  names = all_pushed (λ d. IsPackageName d.name) before depend b.names name;
}

pub depends_grow : (before : List Recorded) (depend : Recorded) → depend_follows (last_of before) depend ≡ true → IsNode depend.node → IsPackageName depend.name → IsRecordedList before → IsRecordedList (before ++ depend ∷ [])
depends_grow before depend follows node name b =
    subst IsDependList (sym (map-append need_of before (depend ∷ [])))
    (needs_grow (map need_of before) (need_of depend) (depend_behind before depend follows) node name b)

-- ---- files

file_behind : (xs : List FileItem) (x : FileItem) → path_follows (last_of xs) x.path ≡ true → 0 < length xs → is_lt (order (get_or xs (length xs - 1) x).path x.path) ≡ true
file_behind xs x h some = sym (ap (λ l. path_follows l x.path) (slice_get-get_or xs (length xs - 1) x (omega arith))) ∙ h

begins_less : (folder : List ℕ) (b : ℕ) (rest : List ℕ) → order folder (folder ++ b ∷ rest) ≡ Less
begins_less [] b rest = refl
begins_less (x ∷ folder) b rest = ap (λ o. ordering_then o (order folder (folder ++ b ∷ rest))) (tied_itself nat_cmp_total x) ∙ begins_less folder b rest

below_is_behind : (folder path : List ℕ) → is_below folder path ≡ true → order folder path ≡ Less
below_is_behind folder path h = ap (order folder) (below_is_joined folder path h) ∙ begins_less folder 47 _

not_below_less : (a b : List ℕ) → order b a ≡ Less → not (is_below a b) ≡ true
not_below_less a b l = elim (cases_Bool (is_below a b)) [
  | inl e ↦ (let up = below_is_behind a b e in let turned : order a b ≡ Greater = nat_list_cmp_total.antisymm a b ∙ ap ordering_reverse l in let no : Less ≡ Greater = sym up ∙ turned in cc)
  | inr e ↦ ap not e
]

not_below_itself : (a : List ℕ) → not (is_below a a) ≡ true
not_below_itself a = elim (cases_Bool (is_below a a)) [
  | inl e ↦ (let up = below_is_behind a a e in let same : order a a ≡ Equal = tied_itself nat_list_cmp_total a in let no : Less ≡ Equal = sym up ∙ same in cc)
  | inr e ↦ ap not e
]

each_apart : (paths folders : List (List ℕ)) (path : List ℕ) → list_all (λ f. list_all (λ q. not (is_below f q)) paths) folders ≡ true → list_all (λ f. not (is_below f path)) folders ≡ true
    → list_all (λ f. list_all (λ q. not (is_below f q)) (paths ++ path ∷ [])) folders ≡ true
each_apart paths [] path h k = refl
each_apart paths (f ∷ folders) path h k =
    let a = and_parts (list_all (λ q. not (is_below f q)) paths) _ h in
    let b = and_parts (not (is_below f path)) _ k in
    let here : list_all (λ q. not (is_below f q)) (paths ++ path ∷ []) ≡ true = list_all-append (λ q. not (is_below f q)) paths (path ∷ []) ∙ and_from _ _ a.0 (and_from _ true b.0 refl) in
    and_from _ _ here (each_apart paths folders path a.1 b.1)

last_apart : (paths : List (List ℕ)) (path : List ℕ) → IsAscending (paths ++ path ∷ []) → list_all (λ q. not (is_below path q)) (paths ++ path ∷ []) ≡ true
last_apart paths path s =
    list_all-append (λ q. not (is_below path q)) paths (path ∷ [])
    ∙ and_from _ _ (list_all-from_AllPass (λ q. not (is_below path q)) paths (λ k d l. not_below_less path (get_or paths k d) (below k d l))) (and_from _ true (not_below_itself path) refl)
  where
    below : (k : ℕ) (d : List ℕ) → k < length paths → order (get_or paths k d) path ≡ Less
    below k d l =
        let less = Less-from_sorted order (paths ++ path ∷ []) k (length paths) d s l (omega (arith, length-append paths (path ∷ []))) in
        sym (ap (λ p. order p path) (get_or_append_left paths (path ∷ []) d k l)) ∙ sym (ap (order (get_or (paths ++ path ∷ []) k d)) (get_or-append_seam paths path [] d)) ∙ less

folders_grow : (paths : List (List ℕ)) (path : List ℕ) → has_no_folder paths ≡ true → list_all (λ folder. not (is_below folder path)) paths ≡ true → IsAscending (paths ++ path ∷ []) → has_no_folder (paths ++ path ∷ []) ≡ true
folders_grow paths path apart free s =
    list_all-append (λ f. list_all (λ q. not (is_below f q)) (paths ++ path ∷ [])) paths (path ∷ [])
    ∙ and_from _ _ (each_apart paths paths path apart free) (and_from _ true (last_apart paths path s) refl)

pub files_grow : (most : ℕ) (before : List FileItem) (file : FileItem) → path_follows (last_of before) file.path ≡ true → list_all (λ folder. not (is_below folder file.path)) (paths_of before) ≡ true
    → nat_le (length file.path) most ≡ true → IsFileList most before → IsFileList most (before ++ file ∷ [])
files_grow most before file follows free short b =
    let ascends : IsAscending (paths_of (before ++ file ∷ [])) = items_ascend (λ f. f.path) before file (file_behind before file follows) b.order in
    let e : paths_of (before ++ file ∷ []) ≡ paths_of before ++ file.path ∷ [] = map-append (λ f. f.path) before (file ∷ []) in
    record {
      order = ascends;
      apart = ap has_no_folder e ∙ folders_grow (paths_of before) file.path b.apart free (rw (← e) ascends);
      short = list_all_pushed (λ path. nat_le (length path) most) (λ f. f.path) before file b.short short;
    }
