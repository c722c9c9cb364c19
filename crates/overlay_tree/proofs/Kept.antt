-- What stays of the lists of trees: none of it is a folder of another.
use Rattle.std.proofs.Common.{◌≡◌, ℕ, Bool, true, false, List, [], ◌∷◌, ◌++◌, ap, ap₂, sym, ◌∙◌, refl, subst, inl, inr, true≢false, ◌<◌, arith}
use Rattle.std.specs.Prelude.{◌⊎◌, not, ◌&&◌, ◌||◌, filter, Contains}
use Rattle.std.specs.List.{list_any, list_all}
use Rattle.std.proofs.Math.Path.{fun_ext}
use Rattle.std.proofs.lemmas.Bool.{and_from, and_parts, or_cases, or_left, or_right, cases_Bool}
use Rattle.std.proofs.lemmas.List.Elements.{Contains-append_left, Contains-append_right, Contains-append_cases}
use Rattle.std.proofs.lemmas.List.Folds.{list_all-append}
use Rattle.bulk_base.specs.Path.{is_below}
use Rattle.bulk_base.proofs.Members.{all_passes, passes_all, filter_out_of, member_any}
use Rattle.outside.specs.Contents.{has_no_folder}
use Rattle.outside.proofs.Listings.{has_no_folder-filter}
use Rattle.overlay_tree.specs.Listed.{all_of, stays, kept_of, Alike}
use Rattle.overlay_tree.specs.Places.{port_of, is_joined, is_port_file}
use Rattle.overlay_tree.proofs.Nested.{is_kind, Nested, nested, below_port, joined_is_no_port}

-- whether a path stays is told by the members of the later lists
pub stays_alike : (a b : List (List ℕ)) → Alike a b → stays a ≡ stays b
stays_alike a b h = fun_ext (λ path. ap (λ t. is_joined path || (is_port_file path && not t)) (h (is_below (port_of path))))

stays_kind : (later : List (List ℕ)) (path : List ℕ) → stays later path ≡ true → is_kind path ≡ true
stays_kind later path h = elim (or_cases (is_joined path) (is_port_file path && not (list_any (is_below (port_of path)) later)) h) [
  | inl j ↦ or_left (is_joined path) (is_port_file path) j
  | inr p ↦ or_right (is_joined path) (is_port_file path) (and_parts (is_port_file path) _ p).0
]

none_later : (later : List (List ℕ)) (path : List ℕ) → stays later path ≡ true → (is_joined path ≡ true → ⊥) → list_any (is_below (port_of path)) later ≡ true → ⊥
none_later later path h apart any = elim (or_cases (is_joined path) (is_port_file path && not (list_any (is_below (port_of path)) later)) h) [
  | inl j ↦ apart j
  | inr p ↦ (let n : not (list_any (is_below (port_of path)) later) ≡ true = (and_parts (is_port_file path) _ p).1 in true≢false (sym n ∙ ap not any))
]

pub record KeptPath (lists : List (List (List ℕ))) (path : List ℕ) : Type 0 where
  pub listed : Contains (all_of lists) path
  pub kind : is_kind path ≡ true

pub kept_path : (lists : List (List (List ℕ))) (path : List ℕ) → Contains (kept_of lists) path → KeptPath lists path
kept_path [] path c = absurd (let l : c.0 < 0 = c.1 in omega arith)
kept_path (list ∷ later) path c = elim (Contains-append_cases (filter (stays (all_of later)) list) (kept_of later) path c) [
  | inl here ↦ (let f = filter_out_of (stays (all_of later)) list path here in
      record { listed = Contains-append_left list (all_of later) path f.0; kind = stays_kind (all_of later) path f.1 })
  | inr there ↦ (let k = kept_path later path there in record { listed = Contains-append_right list (all_of later) path k.listed; kind = k.kind })
]

-- a path that stays collides with none of the later lists that stays
apart_down : (lists : List (List (List ℕ))) (upper lower : List ℕ) → stays (all_of lists) upper ≡ true → KeptPath lists lower → is_below upper lower ≡ true → ⊥
apart_down lists upper lower s k below =
    let n = nested upper lower (stays_kind (all_of lists) upper s) k.kind below in
    none_later (all_of lists) upper s (λ j. joined_is_no_port upper j n.port) (member_any (is_below (port_of upper)) (all_of lists) lower k.listed n.inside)

apart_up : (lists : List (List (List ℕ))) (upper lower : List ℕ) → KeptPath lists upper → stays (all_of lists) lower ≡ true → is_below upper lower ≡ true → ⊥
apart_up lists upper lower k s below =
    let n = nested upper lower k.kind (stays_kind (all_of lists) lower s) below in
    let inside : is_below (port_of lower) upper ≡ true = subst (λ f. is_below f upper ≡ true) (sym n.same) (below_port upper n.port) in
    none_later (all_of lists) lower s n.lower_port (member_any (is_below (port_of lower)) (all_of lists) upper k.listed inside)

not_true : (b : Bool) → (b ≡ true → ⊥) → not b ≡ true
not_true true h = absurd (h refl)
not_true false h = refl

both_pass : (p q : List ℕ → Bool) (xs : List (List ℕ)) → list_all p xs ≡ true → list_all q xs ≡ true → list_all (λ x. p x && q x) xs ≡ true
both_pass p q [] h k = refl
both_pass p q (x ∷ xs) h k =
    let a = and_parts (p x) (list_all p xs) h in
    let b = and_parts (q x) (list_all q xs) k in
    and_from _ _ (and_from _ _ a.0 b.0) (both_pass p q xs a.1 b.1)

abbrev none_below : List (List ℕ) → List ℕ → Bool
none_below paths folder = list_all (λ path. not (is_below folder path)) paths

has_no_folder-append : (xs ys : List (List ℕ)) → has_no_folder xs ≡ true → has_no_folder ys ≡ true → list_all (none_below ys) xs ≡ true → list_all (none_below xs) ys ≡ true → has_no_folder (xs ++ ys) ≡ true
has_no_folder-append xs ys x y down up =
    let split : none_below (xs ++ ys) ≡ (λ folder. none_below xs folder && none_below ys folder) = fun_ext (λ folder. list_all-append (λ path. not (is_below folder path)) xs ys) in
    list_all-append (none_below (xs ++ ys)) xs ys
    ∙ ap₂ (λ a b. a && b)
    (ap (λ (t : List ℕ → Bool). list_all t xs) split ∙ both_pass (none_below xs) (none_below ys) xs x down)
    (ap (λ (t : List ℕ → Bool). list_all t ys) split ∙ both_pass (none_below xs) (none_below ys) ys up y)

pub kept_apart : (lists : List (List (List ℕ))) → list_all has_no_folder lists ≡ true → has_no_folder (kept_of lists) ≡ true
kept_apart [] h = refl
kept_apart (list ∷ later) h =
    let both = and_parts (has_no_folder list) (list_all has_no_folder later) h in
    let here : List (List ℕ) = filter (stays (all_of later)) list in
    has_no_folder-append here (kept_of later) (has_no_folder-filter (stays (all_of later)) list both.0) (kept_apart later both.1)
    (passes_all (none_below (kept_of later)) here (λ folder f.
    passes_all (λ path. not (is_below folder path)) (kept_of later) (λ path p.
    not_true (is_below folder path) (apart_down later folder path (filter_out_of (stays (all_of later)) list folder f).1 (kept_path later path p)))))
    (passes_all (none_below here) (kept_of later) (λ folder f.
    passes_all (λ path. not (is_below folder path)) here (λ path p.
    not_true (is_below folder path) (apart_up later folder path (kept_path later folder f) (filter_out_of (stays (all_of later)) list path p).1))))
