-- Folders of a path: its beginnings that end before a slash.
use Rattle.std.proofs.Common.{◌≡◌, ℕ, ◌+◌, ◌<◌, Bool, true, false, List, [], ◌∷◌, ◌++◌, length, get_or, take, drop, arith, sym, ap, subst, ◌∙◌, refl, suc, true≢false}
use Rattle.std.specs.Prelude.{◌||◌}
use Rattle.std.specs.List.{list_any}
use Rattle.std.specs.Ordering.{eq_by_cmp}
use Rattle.std.specs.Cmp.Lexicographic.{texts_ties}
use Rattle.std.proofs.lemmas.Slice.Eq.{bytes_eq-Decides}
use Rattle.std.proofs.lemmas.List.{length-append, take-append-drop}
use Rattle.std.proofs.Math.Seq.{get_or-append_seam, take-append_seam, drop-cons}
use Rattle.bulk_base.specs.Path.{is_below, joined}
use Rattle.bulk_base.proofs.MapView.{order}
use Rattle.bulk_base.proofs.Paths.{below_is_joined, is_below-joined}

or_second : (a b : Bool) → b ≡ true → (a || b) ≡ true
or_second true b h = refl
or_second false b h = h

or_rest : (a b : Bool) → (a || b) ≡ false → b ≡ false
or_rest true b h = absurd (true≢false h)
or_rest false b h = h

-- what a folder is joined to begins with the folder, and a slash stands behind that
pub slash_behind : (folder path : List ℕ) → is_below folder path ≡ true → (length folder < length path) × (get_or path (length folder) 0 ≡ 47) × (take (length folder) path ≡ folder)
slash_behind folder path h =
    let e : path ≡ joined folder (drop (length folder + 1) path) = below_is_joined folder path h in
    let rest = drop (length folder + 1) path in (
      omega (arith, ap length e, length-append folder (47 ∷ rest)),
      ap (λ p. get_or p (length folder) 0) e ∙ get_or-append_seam folder 47 rest 0,
      ap (take (length folder)) e ∙ take-append_seam folder (47 ∷ rest),
    )

-- the beginning of a path that ends before a slash is a folder of the path
pub begins_below : (path : List ℕ) (k : ℕ) → k < length path → get_or path k 0 ≡ 47 → is_below (take k path) path ≡ true
begins_below path k l e =
    let whole : path ≡ joined (take k path) (drop (suc k) path) =
    sym (take-append-drop k path) ∙ ap (λ l. take k path ++ l) (drop-cons path k 0 l ∙ ap (λ b. b ∷ drop (suc k) path) e) in
    subst (λ p. is_below (take k path) p ≡ true) (sym whole) (is_below-joined (take k path) (drop (suc k) path))

-- a folder of the path is among the paths where one of its beginnings that end before a slash is
pub one_above : (paths : List (List ℕ)) (path : List ℕ) (k : ℕ) → k < length path → get_or path k 0 ≡ 47 → list_any (eq_by_cmp order (take k path)) paths ≡ true
    → list_any (λ folder. is_below folder path) paths ≡ true
one_above [] path k l e h = h
one_above (folder ∷ paths) path k l e h = elim (eq_by_cmp order (take k path) folder) as (λ b. eq_by_cmp order (take k path) folder ≡ b
    → (b || list_any (eq_by_cmp order (take k path)) paths) ≡ true → (is_below folder path || list_any (λ f. is_below f path) paths) ≡ true) [
      | true ↦ λ same h.
          let is : take k path ≡ folder = (bytes_eq-Decides (take k path) folder).0 (texts_ties (take k path) folder ∙ same) in
          ap (λ b. b || list_any (λ f. is_below f path) paths) (subst (λ f. is_below f path ≡ true) is (begins_below path k l e))
      | false ↦ λ other h. or_second _ _ (one_above paths path k l e h)
    ] refl h

-- and only there
pub none_above : (paths : List (List ℕ)) (path : List ℕ) → ((k : ℕ) → k < length path → get_or path k 0 ≡ 47 → list_any (eq_by_cmp order (take k path)) paths ≡ false)
    → list_any (λ folder. is_below folder path) paths ≡ false
none_above [] path h = refl
none_above (folder ∷ paths) path h = elim (is_below folder path) as (λ b. is_below folder path ≡ b → (b || list_any (λ f. is_below f path) paths) ≡ false) [
  | true ↦ λ below.
      let s = slash_behind folder path below in
      let same : eq_by_cmp order (take (length folder) path) folder ≡ true = subst (λ t. eq_by_cmp order t folder ≡ true) (sym s.2) (sym (texts_ties folder folder) ∙ (bytes_eq-Decides folder folder).1 refl) in
      absurd (true≢false (sym (ap (λ b. b || list_any (eq_by_cmp order (take (length folder) path)) paths) same) ∙ h (length folder) s.0 s.1))
  | false ↦ λ apart. none_above paths path (λ k l e. or_rest _ _ (h k l e))
] refl

shuffled : (a b s t : Bool) → ((a || b) || (s || t)) ≡ ((a || s) || (b || t))
shuffled true b s t = refl
shuffled false true true t = refl
shuffled false true false t = refl
shuffled false false s t = refl

-- a path above or below is one below, or one above
pub any_nested : (path : List ℕ) (paths : List (List ℕ)) → list_any (λ other. is_below path other || is_below other path) paths ≡ (list_any (is_below path) paths || list_any (λ other. is_below other path) paths)
any_nested path [] = refl
any_nested path (other ∷ paths) =
    ap (λ b. (is_below path other || is_below other path) || b) (any_nested path paths) ∙ shuffled (is_below path other) (is_below other path) (list_any (is_below path) paths) (list_any (λ o. is_below o path) paths)
