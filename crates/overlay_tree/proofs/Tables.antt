-- The content that a table of files is.
use Rattle.std.proofs.Common.{◌≡◌, ℕ, Bool, true, false, List, [], ◌∷◌, ◌++◌, ap, ap₂, sym, ◌∙◌, refl, subst, cond, inl, inr}
use Rattle.std.specs.Prelude.{◌⊎◌, ◌||◌, Option, Some, None, is_some, map as each}
use Rattle.std.specs.Option.{option_map}
use Rattle.std.specs.Ordering.{eq_by_cmp}
use Rattle.std.specs.Cmp.Lexicographic.{nat_list_cmp_total, texts_ties}
use Rattle.std.specs.List.{list_any, filter_map, cons_option, fold}
use Rattle.std.specs.FinMap as map
use Rattle.std.specs.FinMap.{get, keys, get-from_entries, contains_key-keys}
use Rattle.std.specs.FinMap.Entries.{find}
use Rattle.std.proofs.lemmas.Bool.{cases_Bool}
use Rattle.std.proofs.lemmas.List.Folds.{list_any-append}
use Rattle.std.proofs.lemmas.Slice.Eq.{bytes_eq-Decides}
use Rattle.bulk_base.specs.Order.{in_order, set_of}
use Rattle.bulk_base.specs.Path.{is_below}
use Rattle.bulk_base.proofs.InOrder.{list_any-set_of}
use Rattle.bulk_base.proofs.MapView.{order}
use Rattle.outside.specs.Contents.{Contents}
use Rattle.overlay_tree.specs.Merged.{entry, tabulated, every_path, with_piece, joined_file, has_below, last_file, merged_file, merged}
use Rattle.overlay_tree.specs.Places.{port_of, is_in_base, is_joined, is_port_file}

abbrev File : Type 0
File = List ℕ → Option (List ℕ)

found_here : (file : File) (q path : List ℕ) (rest : Option (List ℕ)) (es : List (List ℕ × List ℕ)) (o : Option (List ℕ)) → file path ≡ o → (b : Bool) → eq_by_cmp order q path ≡ b → (any : Bool)
    → find order q es ≡ cond any (file q) None → find order q (cons_option (option_map (λ bytes. (path, bytes)) o) es) ≡ cond (b || any) (file q) None
found_here file q path rest es None e true same any h =
    let is : q ≡ path = (bytes_eq-Decides q path).0 (texts_ties q path ∙ same) in
    let none : file q ≡ None = ap file is ∙ e in
    h ∙ ap (λ o. cond any o None) none ∙ either any ∙ sym none
  where
    either : (b : Bool) → cond b (let o : Option (List ℕ) = None in o) None ≡ None
    either true = refl
    either false = refl
found_here file q path rest es None e false same any h = h
found_here file q path rest es (Some bytes) e true same any h =
    let is : q ≡ path = (bytes_eq-Decides q path).0 (texts_ties q path ∙ same) in
    ap (λ b. cond b (Some bytes) (find order q es)) same ∙ sym (ap file is ∙ e)
found_here file q path rest es (Some bytes) e false same any h = ap (λ b. cond b (Some bytes) (find order q es)) same ∙ h

found_in : (file : File) (q : List ℕ) (paths : List (List ℕ)) → find order q (filter_map (entry file) paths) ≡ cond (list_any (eq_by_cmp order q) paths) (file q) None
found_in file q [] = refl
found_in file q (path ∷ paths) =
    found_here file q path None (filter_map (entry file) paths) (file path) refl (eq_by_cmp order q path) refl (list_any (eq_by_cmp order q) paths) (found_in file q paths)

in_order_has : (q : List ℕ) (paths : List (List ℕ)) → list_any (eq_by_cmp order q) (in_order paths) ≡ list_any (eq_by_cmp order q) paths
unfolding in_order
in_order_has q paths = list_any-set_of (eq_by_cmp order q) paths

get_tabulated : (file : File) (q : List ℕ) (paths : List (List ℕ)) → (list_any (eq_by_cmp order q) paths ≡ false → file q ≡ None) → get (tabulated file paths) q ≡ file q
get_tabulated file q paths else_none =
    get-from_entries nat_list_cmp_total (filter_map (entry file) (in_order paths)) q ∙ found_in file q (in_order paths)
    ∙ ap (λ b. cond b (file q) None) (in_order_has q paths) ∙ by_case (cases_Bool (list_any (eq_by_cmp order q) paths))
  where
    by_case : (list_any (eq_by_cmp order q) paths ≡ true) ⊎ (list_any (eq_by_cmp order q) paths ≡ false) → cond (list_any (eq_by_cmp order q) paths) (file q) None ≡ file q
    by_case (inl t) = ap (λ b. cond b (file q) None) t
    by_case (inr f) = ap (λ b. cond b (file q) None) f ∙ sym (else_none f)

-- ---- a path that no content has is none of the tree's

or_false : (a b : Bool) → (a || b) ≡ false → (a ≡ false) × (b ≡ false)
or_false true b h = absurd cc
or_false false b h = (refl, h)

none_there : (content : Contents) (q : List ℕ) → list_any (eq_by_cmp order q) (keys content) ≡ false → get content q ≡ None
none_there content q h = by_case (get content q) refl
  where
    by_case : (o : Option (List ℕ)) → get content q ≡ o → get content q ≡ None
    by_case None e = e
    by_case (Some bytes) e = let some : true ≡ false = sym (ap is_some e) ∙ contains_key-keys content q ∙ h in cc

apart_paths : (content : Contents) (contents : List Contents) (q : List ℕ) → list_any (eq_by_cmp order q) (every_path (content ∷ contents)) ≡ false
    → (get content q ≡ None) × (list_any (eq_by_cmp order q) (every_path contents) ≡ false)
apart_paths content contents q h =
    let both = or_false _ _ (sym (list_any-append (eq_by_cmp order q) (keys content) (every_path contents)) ∙ h) in
    (none_there content q both.0, both.1)

no_pieces : (contents : List Contents) (q : List ℕ) → list_any (eq_by_cmp order q) (every_path contents) ≡ false → filter_map (λ content. get content q) contents ≡ []
no_pieces [] q h = refl
no_pieces (content ∷ contents) q h =
    let both = apart_paths content contents q h in
    ap (λ o. cons_option o (filter_map (λ c. get c q) contents)) both.0 ∙ no_pieces contents q both.1

no_last : (port : List ℕ) (contents : List Contents) (q : List ℕ) → list_any (eq_by_cmp order q) (every_path contents) ≡ false → last_file port contents q ≡ None
no_last port [] q h = refl
no_last port (content ∷ contents) q h =
    let both = apart_paths content contents q h in
    ap₂ (λ x y. cond (list_any (has_below port) contents) x y) (no_last port contents q both.1) both.0 ∙ either (list_any (has_below port) contents)
  where
    either : (b : Bool) → cond b (let o : Option (List ℕ) = None in o) None ≡ None
    either true = refl
    either false = refl

no_file : (base : Contents) (overlays : List Contents) (q : List ℕ) → list_any (eq_by_cmp order q) (every_path (base ∷ overlays)) ≡ false → merged_file base overlays q ≡ None
no_file base overlays q h =
    let first : get base q ≡ None = (apart_paths base overlays q h).0 in
    let pieces : joined_file (base ∷ overlays) q ≡ None = ap (fold with_piece None) (no_pieces (base ∷ overlays) q h) in
    let last : last_file (port_of q) (base ∷ overlays) q ≡ None = no_last (port_of q) (base ∷ overlays) q h in
    ap (λ o. cond (is_in_base q) o (cond (is_joined q) (joined_file (base ∷ overlays) q) (cond (is_port_file q) (last_file (port_of q) (base ∷ overlays) q) None))) first
    ∙ ap (λ o. cond (is_in_base q) None (cond (is_joined q) o (cond (is_port_file q) (last_file (port_of q) (base ∷ overlays) q) None))) pieces
    ∙ ap (λ o. cond (is_in_base q) None (cond (is_joined q) None (cond (is_port_file q) o None))) last
    ∙ all_none (is_in_base q) (is_joined q) (is_port_file q)
  where
    all_none : (a b c : Bool) → cond a (let o : Option (List ℕ) = None in o) (cond b None (cond c None None)) ≡ None
    all_none true b c = refl
    all_none false true c = refl
    all_none false false true = refl
    all_none false false false = refl

-- a file of the merged content
pub get_merged : (base next : Contents) (more : List Contents) (q : List ℕ) → get (merged (base ∷ next ∷ more)) q ≡ merged_file base (next ∷ more) q
unfolding merged
get_merged base next more q = get_tabulated (merged_file base (next ∷ more)) q (every_path (base ∷ next ∷ more)) (no_file base (next ∷ more) q)

pub merged_alone : (base : Contents) → merged (base ∷ []) ≡ base
unfolding merged
merged_alone base = refl
