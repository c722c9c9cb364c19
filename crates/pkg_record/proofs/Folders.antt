-- Searches among files in order of their paths.
use Rattle.std.proofs.Common.{◌≡◌, ◌↔◌, ℕ, ◌+◌, ◌<◌, true, false, not, List, [], length, get_or, take, IsTrue, Contains, arith, sym, ap, refl, ◌∙◌, ⊎_elim, ◌⊎◌, inl, inr}
use Rattle.std.specs.Prelude.{Result, Ok, Err}
use Rattle.std.specs.declared.cmp.Ordering.TheVariants.{Less, Equal, Greater}
use Rattle.std.specs.Ordering.{is_lt, is_eq, nat_cmp, ordering_reverse}
use Rattle.std.specs.Result.{is_ok}
use Rattle.std.specs.Cmp.Lexicographic.{slice_cmp}
use Rattle.std.specs.List.{list_all}
use Rattle.std.specs.List.Sorted.{IsSortedBy, IsBinarySearchResult, IsSearchInRange}
use Rattle.std.proofs.lemmas.Bool.{cases_lt, cases_Bool}
use Rattle.std.proofs.lemmas.Cmp.{nat_list_cmp_total, tied_itself}
use Rattle.std.proofs.lemmas.Map.Text.{is_eq-slice_cmp}
use Rattle.std.proofs.lemmas.Slice.Eq.{bytes_eq-Decides}
use Rattle.std.proofs.lemmas.List.{length-map, get_or_default}
use Rattle.std.proofs.lemmas.List.Sums.{list_all-from_AllPass}
use Rattle.std.proofs.lemmas.List.Folds.{list_all_at}
use Rattle.std.proofs.lemmas.List.Sorted.{searchable_from_sorted}
use Rattle.std.proofs.lemmas.Map.Keys.{Less-from_sorted}
use Rattle.std.proofs.Math.ListN.{get_or-map}
use Rattle.bulk_base.specs.Path.{is_below}
use Rattle.bulk_base.proofs.Above.{slash_behind, begins_below}
use Rattle.bulk_base.specs.declared.file.FileItem.{FileItem}
use Rattle.bulk_model.specs.Facts.{paths_of}
use Rattle.outside.specs.Contents.{IsAscending}

abbrev path_of : FileItem → List ℕ
path_of f = f.path

sorted_files : (files : List FileItem) → IsAscending (paths_of files) → IsSortedBy (λ x y. is_lt (slice_cmp nat_cmp x.path y.path)) files
sorted_files files s k d low high =
    let less : slice_cmp nat_cmp (get_or (paths_of files) k d.path) (get_or (paths_of files) (k + 1) d.path) ≡ Less = Less-from_sorted (slice_cmp nat_cmp) (paths_of files) k (k + 1) d.path s (omega arith) (omega (arith, high, length-map files path_of)) in
    let near : slice_cmp nat_cmp (get_or files k d).path (get_or files (k + 1) d).path ≡ Less =
    sym (ap (λ p. slice_cmp nat_cmp p (get_or files (k + 1) d).path) (get_or-map path_of files k d)) ∙ sym (ap (slice_cmp nat_cmp (get_or (paths_of files) k d.path)) (get_or-map path_of files (k + 1) d)) ∙ less in
    ap is_lt (nat_list_cmp_total.antisymm (get_or files (k + 1) d).path (get_or files k d).path ∙ ap ordering_reverse near)

-- a binary search in files by path finds each path, and nothing else
pub searched_path : (files : List FileItem) (key : List ℕ) (r : Result ℕ ℕ) → IsAscending (paths_of files) → IsSearchInRange r (length files) → IsBinarySearchResult (λ y. slice_cmp nat_cmp y.path key) files r → IsTrue (is_ok r) ↔ Contains (paths_of files) key
searched_path files key (Ok k) s within at =
    let d : FileItem = record { path = key; bytes = [] } in
    let same : (get_or files k d).path ≡ key = (bytes_eq-Decides (get_or files k d).path key).0 (sym (is_eq-slice_cmp (get_or files k d).path key) ∙ ap is_eq (at d)) in
    (λ e. (k, omega (arith, within, length-map files path_of), get_or-map path_of files k d ∙ same), λ c. refl)
searched_path files key (Err i) s within at =
    let d : FileItem = record { path = key; bytes = [] } in
    let cut = at (searchable_from_sorted nat_list_cmp_total path_of files key (sorted_files files s)) in
    let tied : slice_cmp nat_cmp key key ≡ Equal = tied_itself nat_list_cmp_total key in
    let missed : Contains (paths_of files) key → ⊥ = λ c.
    let e : (get_or files c.0 d).path ≡ key = sym (get_or-map path_of files c.0 d) ∙ c.2 in
    let here : slice_cmp nat_cmp (get_or files c.0 d).path key ≡ Equal = ap (λ p. slice_cmp nat_cmp p key) e ∙ tied in
    ⊎_elim
    (λ low. let less : slice_cmp nat_cmp (get_or files c.0 d).path key ≡ Less = cut.0 c.0 d (omega arith) low in let all : Less ≡ Equal = sym less ∙ here in cc)
    (λ high. let more : slice_cmp nat_cmp (get_or files c.0 d).path key ≡ Greater = cut.1 c.0 d high (omega (arith, c.1, length-map files path_of)) in let all : Greater ≡ Equal = sym more ∙ here in cc)
    (cases_lt c.0 i) in
    (λ e. cc, λ c. absurd (missed c))

-- no folder of the path is among the paths, where none of its beginnings that end before a slash is
pub none_above : (paths : List (List ℕ)) (path : List ℕ) → ((k : ℕ) → k < length path → get_or path k 0 ≡ 47 → Contains paths (take k path) → ⊥)
    → list_all (λ folder. not (is_below folder path)) paths ≡ true
none_above paths path h = list_all-from_AllPass (λ folder. not (is_below folder path)) paths (λ k d l. apart k d l (cases_Bool (is_below (get_or paths k d) path)))
  where
    apart : (k : ℕ) (d : List ℕ) → k < length paths → (is_below (get_or paths k d) path ≡ true) ⊎ (is_below (get_or paths k d) path ≡ false) → not (is_below (get_or paths k d) path) ≡ true
    apart k d l (inl e) =
        let s = slash_behind (get_or paths k d) path e in
        absurd (h (length (get_or paths k d)) s.0 s.1 (k, l, get_or_default paths k _ d l ∙ sym s.2))
    apart k d l (inr e) = ap not e

-- a folder of the path is among the paths
pub one_above : (paths : List (List ℕ)) (path : List ℕ) (k : ℕ) → k < length path → get_or path k 0 ≡ 47 → Contains paths (take k path) → list_all (λ folder. not (is_below folder path)) paths ≡ false
one_above paths path k l e c = list_all_at (λ folder. not (is_below folder path)) paths c.0 (take k path) c.1 (ap (λ f. not (is_below f path)) c.2 ∙ ap not (begins_below path k l e))
