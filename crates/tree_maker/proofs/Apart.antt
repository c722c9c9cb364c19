-- No file of a made tree is a folder of another.
use Rattle.std.proofs.Common.{◌≡◌, ℕ, zero, suc, ◌+◌, ◌<◌, ◌≤◌, Bool, true, false, List, [], ◌∷◌, ◌++◌, length, get_or, refl, ap, sym, subst, ◌∙◌, arith, inl, inr, ◌⊎◌, cond, Option, Some, None}
use Rattle.std.specs.Prelude.{◌&&◌, ◌||◌, ◌==◌, map, drop, min, codes, find}
use Rattle.std.specs.List.{list_all, list_any}
use Rattle.std.specs.declared.cmp.Ordering.TheVariants.{Less, Equal, Greater}
use Rattle.std.specs.FinMap.{empty, insert, keys, entries, entries-insert, len-entries, len-empty, put}
use Rattle.std.proofs.lemmas.Bool.{and_from, and_parts, eqb-true}
use Rattle.std.specs.Cmp.Lexicographic.{nat_list_cmp_total}
use Rattle.std.specs.FinMap.Entries.{by_order}
use Rattle.std.proofs.lemmas.List.{length-append, get_or_append_left}
use Rattle.std.proofs.lemmas.List.Folds.{list_all-append, list_all-map}
use Rattle.bulk_base.specs.Path.{is_below, joined}
use Rattle.bulk_base.specs.declared.file.FileItem.{FileItem}
use Rattle.bulk_base.proofs.Paths.{below_is_joined}
use Rattle.bulk_base.proofs.Members.{passes_all, range_below}
use Rattle.bulk_base.proofs.MapView.{order}
use Rattle.outside.specs.Contents.{Contents}
use Rattle.outside.specs.Given.{with_files, content_of, is_folder_of, first_folder}
use Rattle.tree_maker.specs.Made.{category_of, category_path, folder, port_path, port_files, category_file, categories, files, rest}
use Rattle.tree_maker.proofs.Names.{c_name, category_is, folder_is}

-- a path of this length with these bytes at the seventh and the tenth place
abbrev has_shape : ℕ → ℕ → ℕ → List ℕ → Bool
has_shape len a b path = (length path == len) && ((get_or path 6 0 == a) && (get_or path 9 0 == b))

-- the file that lists the categories, a file that lists a category's ports, a port's file
abbrev pub is_made_path : List ℕ → Bool
is_made_path path = has_shape 17 115 100 path || (has_shape 20 99 115 path || has_shape 24 99 112 path)

record Shape (len a b : ℕ) (path : List ℕ) : Type 0 where
  size : length path ≡ len
  first : get_or path 6 0 ≡ a
  second : get_or path 9 0 ≡ b

shape_of : (len a b : ℕ) (path : List ℕ) → has_shape len a b path ≡ true → Shape len a b path
shape_of len a b path h =
    let outer = and_parts (length path == len) ((get_or path 6 0 == a) && (get_or path 9 0 == b)) h in
    let inner = and_parts (get_or path 6 0 == a) (get_or path 9 0 == b) outer.1 in
    record {
      size = eqb-true (length path) len outer.0;
      first = eqb-true (get_or path 6 0) a inner.0;
      second = eqb-true (get_or path 9 0) b inner.1;
    }

or_cases : (a b : Bool) → (a || b) ≡ true → (a ≡ true) ⊎ (b ≡ true)
or_cases true b h = inl refl
or_cases false b h = inr h

abbrev Kinds : List ℕ → Type 0
Kinds path = Shape 17 115 100 path ⊎ (Shape 20 99 115 path ⊎ Shape 24 99 112 path)

kinds_rest : (path : List ℕ) → (has_shape 20 99 115 path || has_shape 24 99 112 path) ≡ true
    → Shape 20 99 115 path ⊎ Shape 24 99 112 path
kinds_rest path h =
    elim (or_cases (has_shape 20 99 115 path) (has_shape 24 99 112 path) h) [
      | inl x ↦ inl (shape_of 20 99 115 path x)
      | inr x ↦ inr (shape_of 24 99 112 path x)
    ]

kinds : (path : List ℕ) → is_made_path path ≡ true → Kinds path
kinds path h =
    elim (or_cases (has_shape 17 115 100 path) (has_shape 20 99 115 path || has_shape 24 99 112 path) h) [
      | inl x ↦ inl (shape_of 17 115 100 path x)
      | inr x ↦ inr (kinds_rest path x)
    ]

-- what stands below a path is longer and begins as it does
record Begins (len a b more c d : ℕ) : Type 0 where
  longer : len < more
  first : c ≡ a
  second : d ≡ b

begins : (len a b more c d : ℕ) (p q : List ℕ) → 9 < len → Shape len a b p → Shape more c d q
    → is_below p q ≡ true → Begins len a b more c d
begins len a b more c d p q l s t h =
    let is : q ≡ joined p (drop (length p + 1) q) = below_is_joined p q h in
    let size : length p ≡ len = s.size in
    let whole : length q ≡ length (joined p (drop (length p + 1) q)) = ap length is in
    let parts : length (p ++ 47 ∷ drop (length p + 1) q) ≡ length p + length (47 ∷ drop (length p + 1) q) = length-append p (47 ∷ drop (length p + 1) q) in
    let more_is : length q ≡ more = t.size in
    record {
      longer = omega arith;
      first = sym t.first ∙ ap (λ x. get_or x 6 0) is ∙ get_or_append_left p (47 ∷ drop (length p + 1) q) 0 6 (omega arith) ∙ s.first;
      second = sym t.second ∙ ap (λ x. get_or x 9 0) is ∙ get_or_append_left p (47 ∷ drop (length p + 1) q) 0 9 (omega arith) ∙ s.second;
    }

first_below : (p q : List ℕ) → Shape 17 115 100 p → Kinds q → is_below p q ≡ true → ⊥
first_below p q s (inl t) h = absurd (let b : Begins 17 115 100 17 115 100 = begins 17 115 100 17 115 100 p q (omega arith) s t h in omega arith)
first_below p q s (inr (inl t)) h = absurd (let b : Begins 17 115 100 20 99 115 = begins 17 115 100 20 99 115 p q (omega arith) s t h in omega arith)
first_below p q s (inr (inr t)) h = absurd (let b : Begins 17 115 100 24 99 112 = begins 17 115 100 24 99 112 p q (omega arith) s t h in omega arith)

second_below : (p q : List ℕ) → Shape 20 99 115 p → Kinds q → is_below p q ≡ true → ⊥
second_below p q s (inl t) h = absurd (let b : Begins 20 99 115 17 115 100 = begins 20 99 115 17 115 100 p q (omega arith) s t h in omega arith)
second_below p q s (inr (inl t)) h = absurd (let b : Begins 20 99 115 20 99 115 = begins 20 99 115 20 99 115 p q (omega arith) s t h in omega arith)
second_below p q s (inr (inr t)) h = absurd (let b : Begins 20 99 115 24 99 112 = begins 20 99 115 24 99 112 p q (omega arith) s t h in omega arith)

third_below : (p q : List ℕ) → Shape 24 99 112 p → Kinds q → is_below p q ≡ true → ⊥
third_below p q s (inl t) h = absurd (let b : Begins 24 99 112 17 115 100 = begins 24 99 112 17 115 100 p q (omega arith) s t h in omega arith)
third_below p q s (inr (inl t)) h = absurd (let b : Begins 24 99 112 20 99 115 = begins 24 99 112 20 99 115 p q (omega arith) s t h in omega arith)
third_below p q s (inr (inr t)) h = absurd (let b : Begins 24 99 112 24 99 112 = begins 24 99 112 24 99 112 p q (omega arith) s t h in omega arith)

kinds_below : (p q : List ℕ) → Kinds p → Kinds q → is_below p q ≡ true → ⊥
kinds_below p q (inl s) t h = first_below p q s t h
kinds_below p q (inr (inl s)) t h = second_below p q s t h
kinds_below p q (inr (inr s)) t h = third_below p q s t h

not_true : (b : Bool) → (b ≡ true → ⊥) → b ≡ false
not_true true h = absurd (h refl)
not_true false h = refl

none_below : (p : List ℕ) (paths : List (List ℕ)) → is_made_path p ≡ true
    → list_all is_made_path paths ≡ true → list_any (is_below p) paths ≡ false
none_below p [] h all = refl
none_below p (q ∷ paths) h all =
    let both = and_parts (is_made_path q) (list_all is_made_path paths) all in
    ap (λ b. b || list_any (is_below p) paths) (not_true (is_below p q) (kinds_below p q (kinds p h) (kinds q both.0)))
    ∙ none_below p paths h both.1

skip : (b : Bool) (p : List ℕ) (o : Option (List ℕ)) → b ≡ false → o ≡ None → cond b (Some p) o ≡ None
skip true p o h e = absurd (cc h)
skip false p o h e = e

none_found : (all paths : List (List ℕ)) → list_all is_made_path all ≡ true
    → list_all is_made_path paths ≡ true → find (is_folder_of all) paths ≡ None
none_found all [] h k = refl
none_found all (p ∷ paths) h k =
    let both = and_parts (is_made_path p) (list_all is_made_path paths) k in
    skip (is_folder_of all p) p (find (is_folder_of all) paths) (none_below p all both.0 h) (none_found all paths h both.1)

-- ---- what holds of the paths of files holds of a content's
module _ (p : List ℕ → Bool) where
  keys_put : (path bytes : List ℕ) (es : List (List ℕ × List ℕ)) → p path ≡ true
      → list_all p (map (λ e. e.0) es) ≡ true
      → list_all p (map (λ e. e.0) (put order path bytes es)) ≡ true
  keys_put path bytes [] h k = and_from _ _ h refl
  keys_put path bytes (e ∷ es) h k =
      let both = and_parts (p e.0) (list_all p (map (λ x. x.0) es)) k in
      elim (order path e.0) as (λ o. list_all p (map (λ x. x.0) (by_order o ((path, bytes) ∷ e ∷ es) ((e.0, bytes) ∷ es) (e ∷ put order path bytes es))) ≡ true) [
        | Less ↦ and_from _ _ h k
        | Equal ↦ k
        | Greater ↦ and_from _ _ both.0 (keys_put path bytes es h both.1)
      ]

  keys_with : (content : Contents) (fs : List FileItem) → list_all (λ f. p f.path) fs ≡ true
      → list_all p (keys content) ≡ true → list_all p (keys (with_files content fs)) ≡ true
  keys_with content [] h k = k
  keys_with content (f ∷ fs) h k =
      let both = and_parts (p f.path) (list_all (λ g. p g.path) fs) h in
      keys_with (insert content f.path f.bytes) fs both.1
      (subst (λ es. list_all p (map (λ e. e.0) es) ≡ true) (sym (entries-insert nat_list_cmp_total content f.path f.bytes)) (keys_put f.path f.bytes (entries content) both.0 k))

-- ---- the files of a tree
category_made : (c : ℕ) → c < 8 → is_made_path (joined (category_path c) (codes "subdir.vars")) ≡ true
category_made c l =
    subst (λ name. is_made_path (joined (joined (codes "ports") name) (codes "subdir.vars")) ≡ true) (sym (category_is c l)) refl

port_made : (i : ℕ) → i < 10000 → is_made_path (port_path i) ≡ true
port_made i l =
    subst (λ name. is_made_path (joined (joined (joined (codes "ports") name) (folder i)) (codes "port.vars")) ≡ true) (sym (category_is (category_of i) (omega arith)))
    (subst (λ name. is_made_path (joined (joined (joined (codes "ports") (c_name (category_of i))) name) (codes "port.vars")) ≡ true) (sym (folder_is i l)) refl)

ports_made : (ports i x : ℕ) → i + ports ≤ 8192
    → list_all (λ f. is_made_path f.path) (port_files ports i x) ≡ true
ports_made zero i x l = refl
ports_made (suc ports) i x l =
    and_from _ _ (port_made i (omega arith)) (ports_made ports (i + 1) (rest i x) (omega arith))

categories_made : (ports : ℕ) → list_all (λ f. is_made_path f.path) (map (category_file ports) (categories ports)) ≡ true
categories_made ports =
    list_all-map (λ f. is_made_path f.path) (category_file ports) (categories ports)
    ∙ passes_all (λ c. is_made_path (joined (category_path c) (codes "subdir.vars"))) (categories ports)
    (λ c h. category_made c (let b : c < min ports 8 = range_below (min ports 8) c h in omega arith))

files_made : (number ports : ℕ) → ports ≤ 8192
    → list_all (λ f. is_made_path f.path) (files number ports) ≡ true
files_made number ports l =
    list_all-append (λ f. is_made_path f.path) (map (category_file ports) (categories ports)) (port_files ports 0 number)
    ∙ and_from _ _ (categories_made ports) (ports_made ports 0 number (omega arith))

none_of_length : {X : Type 0} (xs : List X) → length xs ≡ 0 → xs ≡ []
none_of_length [] e = refl
none_of_length (x ∷ xs) e = absurd (omega arith)

empty_made : list_all is_made_path (keys {X = List ℕ} {R = order} empty) ≡ true
empty_made =
    subst (λ es. list_all is_made_path (map (λ e. e.0) es) ≡ true)
    (sym (none_of_length (entries {X = List ℕ} {R = order} empty) (sym (len-entries empty) ∙ len-empty order (List ℕ)))) refl

pub none_is_folder : (number ports : ℕ) → ports ≤ 8192
    → first_folder (keys (content_of (files number ports))) ≡ None
none_is_folder number ports l =
    let all : list_all is_made_path (keys (content_of (files number ports))) ≡ true =
    keys_with is_made_path empty (files number ports) (files_made number ports l) empty_made in
    none_found (keys (content_of (files number ports))) (keys (content_of (files number ports))) all all
