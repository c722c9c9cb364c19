-- A port's own files and its distfiles, put together: by path, each once, none a folder of another.
use Rattle.std.proofs.Common.{◌≡◌, ℕ, zero, suc, ◌+◌, ◌<◌, ◌≤◌, Bool, true, false, List, [], ◌∷◌, ◌++◌, length, get_or, take, drop, ap, subst, sym, ◌∙◌, refl, cond, map, arith, inl, inr, ◌⊎◌, length-append, append_assoc, nat_eq}
use Rattle.std.specs.Prelude.{Option, Some, None, not, ◌&&◌, ◌||◌, nat_le, find, filter, Contains, codes, bytes_eq}
use Rattle.std.specs.declared.cmp.Ordering.{Ordering}
use Rattle.std.specs.declared.cmp.Ordering.TheVariants.{Less, Equal, Greater}
use Rattle.std.specs.Ordering.{nat_cmp, is_lt, ordering_then, ordering_reverse}
use Rattle.std.specs.Cmp.{nat_cmp_total}
use Rattle.std.specs.Cmp.Lexicographic.{nat_list_cmp_total}
use Rattle.std.specs.FinMap.{nat_cmp-IsAntisymmetric}
use Rattle.std.specs.List.{list_all, AllByRecursion, starts_with}
use Rattle.std.specs.List.Sorted.{IsStrictlySortedBy}
use Rattle.std.proofs.lemmas.Bool.{and_parts, and_from, le-leb, leb-true, eq-eqb}
use Rattle.std.proofs.lemmas.Bool.Decides.{nat_tests}
use Rattle.std.proofs.lemmas.List.{map-append}
use Rattle.std.proofs.lemmas.List.Elements.{Contains-append_cases}
use Rattle.std.proofs.lemmas.List.Folds.{list_all-append}
use Rattle.std.proofs.lemmas.List.Kept.{IsStrictlySortedBy-filter}
use Rattle.std.proofs.lemmas.Slice.Eq.{bytes_eq-Decides}
use Rattle.bulk_base.specs.Path.{is_below, joined}
use Rattle.bulk_base.specs.declared.file.FileItem.{FileItem}
use Rattle.bulk_base.proofs.Above.{slash_behind}
use Rattle.bulk_base.proofs.MapView.{order}
use Rattle.bulk_base.proofs.Members.{Source, all_passes, passes_all, filter_out_of, map_contains, contains_find, contains_here, contains_more}
use Rattle.bulk_base.proofs.Paths.{below_is_joined, is_below-joined}
use Rattle.outside.specs.Contents.{IsAscending, has_no_folder}
use Rattle.bulk_model.specs.Facts.{IsFileList, paths_of}
use Rattle.dist_files.specs.declared.dist.Dist.{Dist}
use Rattle.job_files.specs.Distfiles.{job_path, is_kept_for_dist, comes_before_dist, together}
use Rattle.job_files.specs.FileForms.{AreEntries, IsFreeOfDist, files_of}
use Rattle.path_laws.proofs.PathLists.{is_below-joined_both, order-front}

-- ---- paths before and behind those below a folder, in byte order

abbrev mark : List ℕ
mark = codes "dist/"

not_less : (o : Ordering) → is_lt o ≡ false → o ≡ Less → ⊥
not_less Less h e = cc
not_less Equal h e = cc
not_less Greater h e = cc

less_is : (o : Ordering) → is_lt o ≡ true → o ≡ Less
less_is Less h = refl
less_is Equal h = absurd (cc)
less_is Greater h = absurd (cc)

is_less : (o : Ordering) → o ≡ Less → is_lt o ≡ true
is_less o e = ap is_lt e

-- what stands before a beginning stands before all that begins so
front_before : (x s f : List ℕ) → order x s ≡ Less → order x (s ++ f) ≡ Less
front_before [] [] f h = absurd (cc)
front_before [] (c ∷ s) f h = refl
front_before (a ∷ x) [] f h = absurd (cc)
front_before (a ∷ x) (c ∷ s) f h =
    elim (nat_cmp a c) as (λ o. ordering_then o (order x s) ≡ Less → ordering_then o (order x (s ++ f)) ≡ Less) [
      | Less ↦ λ e. refl
      | Equal ↦ λ e. front_before x s f e
      | Greater ↦ λ e. absurd (cc)
    ] h

tied_heads : (d c : ℕ) → nat_cmp d c ≡ Equal → nat_eq c d ≡ true
tied_heads d c e = eq-eqb c d (sym (nat_cmp-IsAntisymmetric d c e))

-- what stands behind a beginning and does not begin so stands behind all that does
behind_front : (z s f : List ℕ) → is_lt (order z s) ≡ false → starts_with nat_eq z s ≡ false → order (s ++ f) z ≡ Less
behind_front z [] f h n = absurd (cc)
behind_front [] (c ∷ s) f h n = absurd (cc)
behind_front (d ∷ z) (c ∷ s) f h n =
    elim (nat_cmp d c) as (λ o. nat_cmp d c ≡ o → is_lt (ordering_then o (order z s)) ≡ false → ordering_then (nat_cmp c d) (order (s ++ f) z) ≡ Less) [
      | Less ↦ λ e l. absurd (cc)
      | Equal ↦ λ e l.
          let back : nat_cmp c d ≡ Equal = nat_cmp_total.antisymm c d ∙ ap ordering_reverse e in
          let same : nat_eq c d ≡ true = tied_heads d c e in
          let rest : starts_with nat_eq z s ≡ false = sym (ap (λ b. b && starts_with nat_eq z s) same) ∙ n in
          ap (λ o. ordering_then o (order (s ++ f) z)) back ∙ behind_front z s f l rest
      | Greater ↦ λ e l. ap (λ o. ordering_then o (order (s ++ f) z)) (nat_cmp_total.antisymm c d ∙ ap ordering_reverse e)
    ] refl h

-- ---- paths of distfiles and paths that are not kept for them

kept_not : (x : List ℕ) → is_kept_for_dist x ≡ false → (bytes_eq (codes "dist") x ≡ false) × (is_below (codes "dist") x ≡ false)
kept_not x h = (grind arith, grind arith)

kept_here : (f x : List ℕ) (k : ℕ) → take k (job_path f) ≡ x → get_or (job_path f) k 0 ≡ 47 → is_kept_for_dist x ≡ true
kept_here f x zero t e = absurd (omega arith)
kept_here f x (suc zero) t e = absurd (omega arith)
kept_here f x (suc (suc zero)) t e = absurd (omega arith)
kept_here f x (suc (suc (suc zero))) t e = absurd (omega arith)
kept_here f x (suc (suc (suc (suc zero)))) t e = ap is_kept_for_dist (sym t)
kept_here f x (suc (suc (suc (suc (suc k))))) t e = ap is_kept_for_dist (sym t)

not_above : (f x : List ℕ) (b : Bool) → is_below x (job_path f) ≡ b → is_kept_for_dist x ≡ false → b ≡ false
not_above f x true e h =
    let s = slash_behind x (job_path f) e in
    sym (kept_here f x (length x) s.2 s.1) ∙ h
not_above f x false e h = refl

not_under : (f x : List ℕ) (b : Bool) → is_below (job_path f) x ≡ b → is_kept_for_dist x ≡ false → b ≡ false
not_under f x true e h =
    let rest : List ℕ = drop (length (job_path f) + 1) x in
    let whole : x ≡ joined (codes "dist") (f ++ 47 ∷ rest) = below_is_joined (job_path f) x e in
    sym (ap (is_below (codes "dist")) whole ∙ is_below-joined (codes "dist") (f ++ 47 ∷ rest)) ∙ (kept_not x h).1
not_under f x false e h = refl

-- ---- lists put together

all_from : (P : List ℕ → Type 0) (ys : List (List ℕ)) → ((y : List ℕ) → Contains ys y → P y) → AllByRecursion P ys
all_from P [] h = tt
all_from P (y ∷ ys) h = (h y (contains_here y ys), all_from P ys (λ z c. h z (contains_more y ys z c)))

all-append : (P : List ℕ → Type 0) (xs ys : List (List ℕ)) → AllByRecursion P xs → AllByRecursion P ys → AllByRecursion P (xs ++ ys)
all-append P [] ys h k = k
all-append P (x ∷ xs) ys h k = (h.0, all-append P xs ys h.1 k)

ascending-append : (xs ys : List (List ℕ)) → IsAscending xs → IsAscending ys → ((x y : List ℕ) → Contains xs x → Contains ys y → order x y ≡ Less) → IsAscending (xs ++ ys)
unfolding IsStrictlySortedBy
ascending-append [] ys h k cross = k
ascending-append (x ∷ xs) ys h k cross = (
  all-append (λ y. order x y ≡ Less) xs ys h.0 (all_from (λ y. order x y ≡ Less) ys (λ y c. cross x y (contains_here x xs) c)),
  ascending-append xs ys h.1 k (λ z y c d. cross z y (contains_more x xs z c) d),
)

less-job : (x : List ℕ) (ys : List (List ℕ)) → AllByRecursion (λ y. order x y ≡ Less) ys → AllByRecursion (λ y. order (job_path x) y ≡ Less) (map job_path ys)
less-job x [] h = tt
less-job x (y ∷ ys) h = (order-front mark x y ∙ h.0, less-job x ys h.1)

ascending-job : (files : List (List ℕ)) → IsAscending files → IsAscending (map job_path files)
unfolding IsStrictlySortedBy
ascending-job [] h = tt
ascending-job (x ∷ files) h = (less-job x files h.0, ascending-job files h.1)

short-job : (files : List (List ℕ)) → list_all (λ file. nat_le (length file) 1014) files ≡ true → list_all (λ path. nat_le (length path) 1019) (map job_path files) ≡ true
short-job [] h = refl
short-job (x ∷ files) h =
    let both = and_parts (nat_le (length x) 1014) (list_all (λ file. nat_le (length file) 1014) files) h in
    let l : length x ≤ 1014 = leb-true (length x) 1014 both.0 in
    let size : length (job_path x) ≡ 5 + length x = length-append mark x in
    and_from _ _ (le-leb (length (job_path x)) 1019 (omega arith)) (short-job files both.1)

short-filter : (p q : List ℕ → Bool) (xs : List (List ℕ)) → list_all p xs ≡ true → list_all p (filter q xs) ≡ true
short-filter p q xs h = passes_all p (filter q xs) (λ x c. all_passes p xs x h (filter_out_of q xs x c).0)

-- ---- the paths of all files

abbrev stands_before : List ℕ → Bool
stands_before path = is_lt (order path mark)

kept_head : (q : List ℕ → Bool) (file : FileItem) (files : List FileItem) (rest : List (List ℕ)) (b : Bool) → paths_of files ≡ rest → paths_of (cond b (file ∷ files) files) ≡ cond b (file.path ∷ rest) rest
kept_head q file files rest true e = ap (λ ps. file.path ∷ ps) e
kept_head q file files rest false e = e

paths-filter : (q : List ℕ → Bool) (files : List FileItem) → paths_of (filter (λ file. q file.path) files) ≡ filter q (paths_of files)
paths-filter q [] = refl
paths-filter q (file ∷ files) = kept_head q file (filter (λ f. q f.path) files) (filter q (paths_of files)) (q file.path) (paths-filter q files)

abbrev all_paths : List (List ℕ) → List (List ℕ) → List (List ℕ)
all_paths own dists = filter stands_before own ++ (dists ++ filter (λ path. not (stands_before path)) own)

paths-together : (own dists : List FileItem) → paths_of (together own dists) ≡ all_paths (paths_of own) (paths_of dists)
paths-together own dists =
    map-append (λ f. f.path) (filter comes_before_dist own) (dists ++ filter (λ file. not (comes_before_dist file)) own)
    ∙ ap (λ ps. ps ++ paths_of (dists ++ filter (λ file. not (comes_before_dist file)) own)) (paths-filter stands_before own)
    ∙ ap (λ ps. filter stands_before (paths_of own) ++ ps)
    (map-append (λ f. f.path) dists (filter (λ file. not (comes_before_dist file)) own)
    ∙ ap (λ ps. paths_of dists ++ ps) (paths-filter (λ path. not (stands_before path)) own))

negated : (b : Bool) → not b ≡ true → b ≡ false
negated true h = absurd (cc)
negated false h = refl

module _ (own files : List (List ℕ)) (sorted : IsAscending own) (apart : has_no_folder own ≡ true) (free : (x : List ℕ) → Contains own x → is_kept_for_dist x ≡ false)
    (ordered : IsAscending files) (clear : has_no_folder files ≡ true) where
  abbrev dists : List (List ℕ)
  dists = map job_path files

  abbrev behind : List (List ℕ)
  behind = filter (λ path. not (stands_before path)) own

  before_dist : (x y : List ℕ) → Contains (filter stands_before own) x → Contains dists y → order x y ≡ Less
  before_dist x y c d =
      let passes : stands_before x ≡ true = (filter_out_of stands_before own x c).1 in
      let source : Source job_path files y = map_contains job_path files y d in
      subst (λ z. order x z ≡ Less) source.gives (front_before x mark source.one (less_is (order x mark) passes))

  behind_dist : (f z : List ℕ) → Contains behind z → order (mark ++ f) z ≡ Less
  behind_dist f z c =
      let has = filter_out_of (λ path. not (stands_before path)) own z c in
      behind_front z mark f (negated (stands_before z) has.1) (kept_not z (free z has.0)).1

  dist_before : (y z : List ℕ) → Contains dists y → Contains behind z → order y z ≡ Less
  dist_before y z d c =
      let source : Source job_path files y = map_contains job_path files y d in
      subst (λ w. order w z ≡ Less) source.gives (behind_dist source.one z c)

  before_behind : (x z : List ℕ) → Contains (filter stands_before own) x → Contains behind z → order x z ≡ Less
  before_behind x z c d =
      nat_list_cmp_total.trans x (mark ++ []) z (front_before x mark [] (less_is (order x mark) (filter_out_of stands_before own x c).1)) (behind_dist [] z d)

  before_rest : (x y : List ℕ) → Contains (filter stands_before own) x → Contains (dists ++ behind) y → order x y ≡ Less
  before_rest x y c d = elim (Contains-append_cases dists behind y d) [ inl e ↦ before_dist x y c e | inr e ↦ before_behind x y c e ]

  pub order_together : IsAscending (all_paths own dists)
  order_together =
      ascending-append (filter stands_before own) (dists ++ behind) (IsStrictlySortedBy-filter order stands_before own sorted)
      (ascending-append dists behind (ascending-job files ordered) (IsStrictlySortedBy-filter order (λ path. not (stands_before path)) own sorted) dist_before) before_rest

  abbrev IsOfBoth : List ℕ → Type 0
  IsOfBoth x = Contains own x ⊎ Source job_path files x

  of_rest : (x : List ℕ) → Contains (dists ++ behind) x → IsOfBoth x
  of_rest x d = elim (Contains-append_cases dists behind x d) [
    | inl e ↦ inr (map_contains job_path files x e)
    | inr e ↦ inl (filter_out_of (λ path. not (stands_before path)) own x e).0
  ]

  of_both : (x : List ℕ) → Contains (all_paths own dists) x → IsOfBoth x
  of_both x c = elim (Contains-append_cases (filter stands_before own) (dists ++ behind) x c) [
    | inl e ↦ inl (filter_out_of stands_before own x e).0
    | inr e ↦ of_rest x e
  ]

  clear_in : (paths : List (List ℕ)) (x y : List ℕ) → has_no_folder paths ≡ true → Contains paths x → Contains paths y → not (is_below x y) ≡ true
  clear_in paths x y h c d = all_passes (λ path. not (is_below x path)) paths y (all_passes (λ folder. list_all (λ path. not (is_below folder path)) paths) paths x h c) d

  own_first : (x y : List ℕ) → Contains own x → IsOfBoth y → not (is_below x y) ≡ true
  own_first x y c o = elim o [
    | inl d ↦ clear_in own x y apart c d
    | inr s ↦ subst (λ z. not (is_below x z) ≡ true) s.gives (ap not (not_above s.one x (is_below x (job_path s.one)) refl (free x c)))
  ]

  dist_first : (x y : List ℕ) → Source job_path files x → IsOfBoth y → not (is_below x y) ≡ true
  dist_first x y s o = elim o [
    | inl d ↦ subst (λ z. not (is_below z y) ≡ true) s.gives (ap not (not_under s.one y (is_below (job_path s.one) y) refl (free y d)))
    | inr t ↦
        subst (λ z. not (is_below z y) ≡ true) s.gives
        (subst (λ z. not (is_below (job_path s.one) z) ≡ true) t.gives (ap not (is_below-joined_both (codes "dist") s.one t.one) ∙ clear_in files s.one t.one clear s.is t.is))
  ]

  none_first : (x y : List ℕ) → IsOfBoth x → IsOfBoth y → not (is_below x y) ≡ true
  none_first x y o p = elim o [ inl c ↦ own_first x y c p | inr s ↦ dist_first x y s p ]

  pub apart_together : has_no_folder (all_paths own dists) ≡ true
  apart_together =
      passes_all (λ folder. list_all (λ path. not (is_below folder path)) (all_paths own dists)) (all_paths own dists) (λ x c.
      passes_all (λ path. not (is_below x path)) (all_paths own dists) (λ y d. none_first x y (of_both x c) (of_both y d)))

not_kept : (file : FileItem) (files : List FileItem) (b : Bool) → find (λ f. is_kept_for_dist f.path) files ≡ None → Contains files file → is_kept_for_dist file.path ≡ b → b ≡ false
not_kept file files true h c e = let found = contains_find (λ f. is_kept_for_dist f.path) files file c e in absurd (let no : None ≡ Some found.0 = sym h ∙ found.1 in cc)
not_kept file files false h c e = refl

free_paths : (files : List FileItem) → IsFreeOfDist files → (x : List ℕ) → Contains (paths_of files) x → is_kept_for_dist x ≡ false
free_paths files h x c =
    let source : Source (λ f. f.path) files x = map_contains (λ (f : FileItem). f.path) files x c in
    subst (λ p. is_kept_for_dist p ≡ false) source.gives (not_kept source.one files (is_kept_for_dist source.one.path) h source.is refl)

map-map : (dists : List Dist) → map (λ dist. job_path dist.file) dists ≡ map job_path (files_of dists)
map-map [] = refl
map-map (d ∷ dists) = ap (λ ps. job_path d.file ∷ ps) (map-map dists)

pub together_form : (own dists : List FileItem) (entries : List Dist) → IsFileList 1019 own → IsFreeOfDist own → AreEntries entries → paths_of dists ≡ map (λ dist. job_path dist.file) entries → IsFileList 1019 (together own dists)
together_form own dists entries o f e p =
    let files = files_of entries in
    let paths : paths_of (together own dists) ≡ all_paths (paths_of own) (map job_path files) =
    paths-together own dists ∙ ap (all_paths (paths_of own)) (p ∙ map-map entries) in
    let free = free_paths own f in
    let test : List ℕ → Bool = λ path. nat_le (length path) 1019 in
    record {
      order = subst IsAscending (sym paths) (order_together (paths_of own) files o.order o.apart free e.order e.apart);
      apart = ap has_no_folder paths ∙ apart_together (paths_of own) files o.order o.apart free e.order e.apart;
      short = ap (list_all (λ path. nat_le (length path) 1019)) paths
          ∙ list_all-append test (filter stands_before (paths_of own)) (map job_path files ++ filter (λ path. not (stands_before path)) (paths_of own))
          ∙ and_from _ _ (short-filter test stands_before (paths_of own) o.short)
          (list_all-append test (map job_path files) (filter (λ path. not (stands_before path)) (paths_of own))
          ∙ and_from _ _ (short-job files e.short) (short-filter test (λ path. not (stands_before path)) (paths_of own) o.short));
    }
