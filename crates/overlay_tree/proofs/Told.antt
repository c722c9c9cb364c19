-- What the merged content lists and holds, by what the trees list and hold.
use Rattle.std.proofs.Common.{◌≡◌, ℕ, ◌+◌, ◌<◌, Bool, true, false, List, [], ◌∷◌, ◌++◌, length, get_or, take, drop, arith, ap, ap₂, sym, ◌∙◌, refl, subst, cond, inl, inr}
use Rattle.std.specs.Prelude.{◌⊎◌, not, ◌&&◌, ◌||◌, ◌==◌, nat_lt, filter, map as each, Option, Some, None, is_some}
use Rattle.std.specs.Option.{option_map}
use Rattle.std.specs.Ordering.{eq_by_cmp}
use Rattle.std.specs.Cmp.Lexicographic.{texts_ties}
use Rattle.std.specs.List.{list_any, list_all, filter_map, cons_option, fold}
use Rattle.std.specs.List.Sorted.{IsStrictlySortedBy}
use Rattle.std.specs.FinMap.{empty, get, keys, contains_key-keys}
use Rattle.std.proofs.lemmas.Bool.{cases_Bool, or_cases}
use Rattle.std.proofs.lemmas.List.Folds.{list_any-append}
use Rattle.std.proofs.lemmas.List.Kept.{IsStrictlySortedBy-filter}
use Rattle.std.proofs.lemmas.Slice.Eq.{bytes_eq-Decides}
use Rattle.std.proofs.lemmas.Bool.{eqb-true}
use Rattle.bulk_base.specs.Path.{is_below, joined}
use Rattle.bulk_base.proofs.MapView.{order, keys_ascend}
use Rattle.bulk_base.proofs.Members.{member_any}
use Rattle.bulk_base.proofs.Paths.{below_is_joined}
use Rattle.outside.specs.Contents.{Contents, IsListing, IsAscending, files_below, first_bytes, has_no_folder}
use Rattle.outside.proofs.Listings.{has_no_folder-filter, list_all_kept}
use Rattle.overlay_tree.specs.Listed.{Alike, all_of, stays, kept_of}
use Rattle.overlay_tree.specs.Merged.{with_piece, joined_file, has_below, last_file, merged_file, merged}
use Rattle.overlay_tree.specs.Places.{first, port_of, is_base, is_in_base, is_base_part, is_in_ports, is_joined, is_port_file}
use Rattle.overlay_tree.proofs.Members.{Alike-filter, any_filter, all_alike, has_no_folder-alike, same_list}
use Rattle.overlay_tree.proofs.Kept.{kept_apart}
use Rattle.overlay_tree.proofs.Nested.{is_kind, in_ports_no_base, below_base, elsewhere, below_port, joined_is_no_port, first_below}
use Rattle.overlay_tree.proofs.Parts.{below_to_front, front_to_front}
use Rattle.overlay_tree.proofs.Tables.{get_merged, merged_alone}

-- ---- what stays of listings is a listing

pub merged_listing : (folder : List ℕ) (lists : List (List (List ℕ))) (paths : List (List ℕ)) → IsAscending paths → Alike paths (filter (is_below folder) (kept_of lists)) → list_all has_no_folder lists ≡ true
    → IsListing folder paths
merged_listing folder lists paths ascends alike apart = record {
  order = ascends;
  below = all_alike (is_below folder) paths (filter (is_below folder) (kept_of lists)) alike ∙ list_all_kept (is_below folder) (kept_of lists);
  apart = has_no_folder-alike paths (filter (is_below folder) (kept_of lists)) alike ∙ has_no_folder-filter (is_below folder) (kept_of lists) (kept_apart lists apart);
}

-- ---- one path among those that pass a test

same_path : (q x : List ℕ) → eq_by_cmp order q x ≡ true → q ≡ x
same_path q x e = (bytes_eq-Decides q x).0 (texts_ties q x ∙ e)

and_same : (t : List ℕ → Bool) (q x : List ℕ) (b : Bool) → eq_by_cmp order q x ≡ b → (t x && b) ≡ (t q && b)
and_same t q x true e = ap (λ y. t y && true) (sym (same_path q x e))
and_same t q x false e = both (t x) (t q)
  where
    both : (a b : Bool) → (a && false) ≡ (b && false)
    both true true = refl
    both true false = refl
    both false true = refl
    both false false = refl

and_or : (a b c : Bool) → ((a && b) || (a && c)) ≡ (a && (b || c))
and_or true b c = refl
and_or false b c = refl

any_one : (t : List ℕ → Bool) (q : List ℕ) (xs : List (List ℕ)) → list_any (λ x. t x && eq_by_cmp order q x) xs ≡ (t q && list_any (eq_by_cmp order q) xs)
any_one t q [] = none (t q)
  where
    none : (a : Bool) → false ≡ (a && false)
    none true = refl
    none false = refl
any_one t q (x ∷ xs) =
    ap₂ (λ a b. a || b) (and_same t q x (eq_by_cmp order q x) refl) (any_one t q xs) ∙ and_or (t q) (eq_by_cmp order q x) (list_any (eq_by_cmp order q) xs)

has_filter : (t : List ℕ → Bool) (q : List ℕ) (xs : List (List ℕ)) → list_any (eq_by_cmp order q) (filter t xs) ≡ (t q && list_any (eq_by_cmp order q) xs)
has_filter t q xs = any_filter t (eq_by_cmp order q) xs ∙ any_one t q xs

has_key : (q : List ℕ) (content : Contents) → list_any (eq_by_cmp order q) (keys content) ≡ is_some (get content q)
has_key q content = sym (contains_key-keys content q)

has_below_folder : (folder q : List ℕ) (content : Contents) → list_any (eq_by_cmp order q) (files_below folder content) ≡ (is_below folder q && is_some (get content q))
has_below_folder folder q content = has_filter (is_below folder) q (keys content) ∙ ap (λ b. is_below folder q && b) (has_key q content)

-- ---- what stays, by the contents

abbrev lists_of : List ℕ → List Contents → List (List (List ℕ))
lists_of root contents = each (files_below root) contents

kept_step : (root q : List ℕ) (content : Contents) (later : List Contents) → is_below root q ≡ true
    → list_any (eq_by_cmp order q) (kept_of (lists_of root (content ∷ later)))
    ≡ ((stays (all_of (lists_of root later)) q && is_some (get content q)) || list_any (eq_by_cmp order q) (kept_of (lists_of root later)))
kept_step root q content later below =
    list_any-append (eq_by_cmp order q) (filter (stays (all_of (lists_of root later))) (files_below root content)) (kept_of (lists_of root later))
    ∙ ap (λ b. b || list_any (eq_by_cmp order q) (kept_of (lists_of root later)))
    (has_filter (stays (all_of (lists_of root later))) q (files_below root content)
    ∙ ap (λ b. stays (all_of (lists_of root later)) q && b) (has_below_folder root q content ∙ ap (λ b. b && is_some (get content q)) below))

some_pieces : (q : List ℕ) (contents : List Contents) (o : Option (List ℕ)) → is_some (fold with_piece o (filter_map (λ c. get c q) contents)) ≡ (is_some o || list_any (λ c. is_some (get c q)) contents)
some_pieces q [] None = refl
some_pieces q [] (Some bytes) = refl
some_pieces q (content ∷ contents) o =
    elim (get content q) as (λ g. is_some (fold with_piece o (cons_option g (filter_map (λ c. get c q) contents))) ≡ (is_some o || (is_some g || list_any (λ c. is_some (get c q)) contents))) [
      | None ↦ some_pieces q contents o
      | Some bytes ↦ some_pieces q contents (with_piece o bytes) ∙ one_piece o bytes (list_any (λ c. is_some (get c q)) contents)
    ]
  where
    one_piece : (o : Option (List ℕ)) (bytes : List ℕ) (b : Bool) → (is_some (with_piece o bytes) || b) ≡ (is_some o || true)
    one_piece None bytes b = refl
    one_piece (Some pieces) bytes b = refl

joined_kept : (root q : List ℕ) (contents : List Contents) → is_below root q ≡ true → is_joined q ≡ true
    → list_any (eq_by_cmp order q) (kept_of (lists_of root contents)) ≡ list_any (λ c. is_some (get c q)) contents
joined_kept root q [] below j = refl
joined_kept root q (content ∷ later) below j =
    kept_step root q content later below
    ∙ ap (λ b. ((b || (is_port_file q && not (list_any (is_below (port_of q)) (all_of (lists_of root later))))) && is_some (get content q)) || list_any (eq_by_cmp order q) (kept_of (lists_of root later))) j
    ∙ ap (λ b. is_some (get content q) || b) (joined_kept root q later below j)

neither_kept : (root q : List ℕ) (contents : List Contents) → is_below root q ≡ true → is_joined q ≡ false → is_port_file q ≡ false
    → list_any (eq_by_cmp order q) (kept_of (lists_of root contents)) ≡ false
neither_kept root q [] below j p = refl
neither_kept root q (content ∷ later) below j p =
    kept_step root q content later below
    ∙ ap₂ (λ a b. ((a || (b && not (list_any (is_below (port_of q)) (all_of (lists_of root later))))) && is_some (get content q)) || list_any (eq_by_cmp order q) (kept_of (lists_of root later))) j p
    ∙ neither_kept root q later below j p

wider : (t u : List ℕ → Bool) (xs : List (List ℕ)) → ((x : List ℕ) → t x ≡ true → u x ≡ true) → list_any (λ x. u x && t x) xs ≡ list_any t xs
wider t u [] up = refl
wider t u (x ∷ xs) up = ap₂ (λ a b. a || b) (one (t x) refl) (wider t u xs up)
  where
    none : (a : Bool) → (a && false) ≡ false
    none true = refl
    none false = refl

    one : (b : Bool) → t x ≡ b → (u x && t x) ≡ t x
    one true e = ap (λ b. b && t x) (up x e)
    one false e = ap (λ b. u x && b) e ∙ none (u x) ∙ sym e

any_later : (root port : List ℕ) (contents : List Contents) → ((x : List ℕ) → is_below port x ≡ true → is_below root x ≡ true)
    → list_any (is_below port) (all_of (lists_of root contents)) ≡ list_any (has_below port) contents
any_later root port [] up = refl
any_later root port (content ∷ later) up =
    list_any-append (is_below port) (files_below root content) (all_of (lists_of root later))
    ∙ ap₂ (λ a b. a || b) (any_filter (is_below root) (is_below port) (keys content) ∙ wider (is_below port) (is_below root) (keys content) up) (any_later root port later up)

or_none : (a b : Bool) → (a || b) ≡ false → (a ≡ false) × (b ≡ false)
or_none true b h = absurd cc
or_none false b h = (refl, h)

unheld : (port q : List ℕ) (content : Contents) → is_below port q ≡ true → has_below port content ≡ false → is_some (get content q) ≡ false
unheld port q content below none = by_case (is_some (get content q)) refl
  where
    weaker : (xs : List (List ℕ)) → list_any (λ x. is_below port x && eq_by_cmp order q x) xs ≡ true → list_any (is_below port) xs ≡ true
    weaker [] h = h
    weaker (x ∷ xs) h = elim (is_below port x) as (λ b. ((b && eq_by_cmp order q x) || list_any (λ y. is_below port y && eq_by_cmp order q y) xs) ≡ true → (b || list_any (is_below port) xs) ≡ true) [
      | true ↦ λ k. refl
      | false ↦ λ k. weaker xs k
    ] h

    by_case : (b : Bool) → is_some (get content q) ≡ b → is_some (get content q) ≡ false
    by_case false e = e
    by_case true e =
        let there : list_any (λ x. is_below port x && eq_by_cmp order q x) (keys content) ≡ true =
        any_one (is_below port) q (keys content) ∙ ap₂ (λ a b. a && b) below (has_key q content ∙ e) in
        let some : has_below port content ≡ true = weaker (keys content) there in
        let no : true ≡ false = sym some ∙ none in cc

unheld_last : (port q : List ℕ) (contents : List Contents) → is_below port q ≡ true → list_any (has_below port) contents ≡ false → is_some (last_file port contents q) ≡ false
unheld_last port q [] below none = refl
unheld_last port q (content ∷ later) below none =
    let both = or_none (has_below port content) (list_any (has_below port) later) none in
    ap (λ b. is_some (cond b (last_file port later q) (get content q))) both.1 ∙ unheld port q content below both.0

port_kept : (root q : List ℕ) (contents : List Contents) → is_below root q ≡ true → is_joined q ≡ false → is_port_file q ≡ true
    → ((x : List ℕ) → is_below (port_of q) x ≡ true → is_below root x ≡ true)
    → list_any (eq_by_cmp order q) (kept_of (lists_of root contents)) ≡ is_some (last_file (port_of q) contents q)
port_kept root q [] below j p up = refl
port_kept root q (content ∷ later) below j p up =
    kept_step root q content later below
    ∙ ap₂ (λ a b. ((a || (b && not (list_any (is_below (port_of q)) (all_of (lists_of root later))))) && is_some (get content q)) || list_any (eq_by_cmp order q) (kept_of (lists_of root later))) j p
    ∙ ap₂ (λ a b. (not a && is_some (get content q)) || b) (any_later root (port_of q) later up) (port_kept root q later below j p up)
    ∙ by_case (list_any (has_below (port_of q)) later) refl
  where
    or_false : (a : Bool) → (a || false) ≡ a
    or_false true = refl
    or_false false = refl

    by_case : (b : Bool) → list_any (has_below (port_of q)) later ≡ b
        → ((not b && is_some (get content q)) || is_some (last_file (port_of q) later q)) ≡ is_some (cond b (last_file (port_of q) later q) (get content q))
    by_case true e = refl
    by_case false e = ap (λ b. is_some (get content q) || b) (unheld_last (port_of q) q later (below_port q p) e) ∙ or_false (is_some (get content q))

-- ---- the merged content below a folder of `ports`

root_up : (folder q : List ℕ) → is_below folder q ≡ true → (x : List ℕ) → is_below (port_of q) x ≡ true → is_below (port_of folder) x ≡ true
root_up folder q below x h =
    let rest : List ℕ = drop (length folder + 1) q in
    let e : q ≡ folder ++ 47 ∷ rest = below_is_joined folder q below in
    front_to_front 2 folder rest x (subst (λ t. is_below (port_of t) x ≡ true) e h)

kept_is : (folder q : List ℕ) (base next : Contents) (more : List Contents) → is_in_ports folder ≡ true → is_below folder q ≡ true
    → list_any (eq_by_cmp order q) (kept_of (lists_of (port_of folder) (base ∷ next ∷ more))) ≡ is_some (merged_file base (next ∷ more) q)
kept_is folder q base next more ports below =
    by_joined (cases_Bool (is_joined q))
  where
    no_base : is_in_base q ≡ false
    no_base = in_ports_no_base folder q ports below

    root_below : is_below (port_of folder) q ≡ true
    root_below = below_to_front 2 folder q below

    by_port : is_joined q ≡ false → (is_port_file q ≡ true) ⊎ (is_port_file q ≡ false)
        → list_any (eq_by_cmp order q) (kept_of (lists_of (port_of folder) (base ∷ next ∷ more))) ≡ is_some (merged_file base (next ∷ more) q)
    by_port j (inl p) =
        port_kept (port_of folder) q (base ∷ next ∷ more) root_below j p (root_up folder q below)
        ∙ sym (ap (λ b. is_some (cond b (get base q) (cond (is_joined q) (joined_file (base ∷ next ∷ more) q) (cond (is_port_file q) (last_file (port_of q) (base ∷ next ∷ more) q) None)))) no_base
        ∙ ap₂ (λ a b. is_some (cond a (joined_file (base ∷ next ∷ more) q) (cond b (last_file (port_of q) (base ∷ next ∷ more) q) None))) j p)
    by_port j (inr p) =
        neither_kept (port_of folder) q (base ∷ next ∷ more) root_below j p
        ∙ sym (ap (λ b. is_some (cond b (get base q) (cond (is_joined q) (joined_file (base ∷ next ∷ more) q) (cond (is_port_file q) (last_file (port_of q) (base ∷ next ∷ more) q) None)))) no_base
        ∙ ap₂ (λ a b. is_some (cond a (joined_file (base ∷ next ∷ more) q) (cond b (last_file (port_of q) (base ∷ next ∷ more) q) None))) j p)

    by_joined : (is_joined q ≡ true) ⊎ (is_joined q ≡ false)
        → list_any (eq_by_cmp order q) (kept_of (lists_of (port_of folder) (base ∷ next ∷ more))) ≡ is_some (merged_file base (next ∷ more) q)
    by_joined (inl j) =
        joined_kept (port_of folder) q (base ∷ next ∷ more) root_below j ∙ sym (some_pieces q (base ∷ next ∷ more) None)
        ∙ sym (ap (λ b. is_some (cond b (get base q) (cond (is_joined q) (joined_file (base ∷ next ∷ more) q) (cond (is_port_file q) (last_file (port_of q) (base ∷ next ∷ more) q) None)))) no_base
        ∙ ap (λ b. is_some (cond b (joined_file (base ∷ next ∷ more) q) (cond (is_port_file q) (last_file (port_of q) (base ∷ next ∷ more) q) None))) j)
    by_joined (inr j) = by_port j (cases_Bool (is_port_file q))

below_ascends : (folder : List ℕ) (content : Contents) → IsStrictlySortedBy order (files_below folder content)
below_ascends folder content = IsStrictlySortedBy-filter order (is_below folder) (keys content) (keys_ascend content)

and_case : (a x y : Bool) → (a ≡ true → x ≡ y) → (a && x) ≡ (a && y)
and_case true x y h = h refl
and_case false x y h = refl

pub ports_told : (folder : List ℕ) (contents : List Contents) (paths : List (List ℕ)) → is_in_ports folder ≡ true → 1 < length contents → IsAscending paths
    → Alike paths (filter (is_below folder) (kept_of (lists_of (port_of folder) contents))) → paths ≡ files_below folder (merged contents)
ports_told folder [] paths ports l ascends alike = absurd (omega arith)
ports_told folder (base ∷ []) paths ports l ascends alike = absurd (omega arith)
ports_told folder (base ∷ next ∷ more) paths ports l ascends alike =
    same_list paths (files_below folder (merged (base ∷ next ∷ more))) ascends (below_ascends folder (merged (base ∷ next ∷ more))) (λ q.
    alike (eq_by_cmp order q)
    ∙ has_filter (is_below folder) q (kept_of (lists_of (port_of folder) (base ∷ next ∷ more)))
    ∙ and_case (is_below folder q) _ _ (λ below. kept_is folder q base next more ports below ∙ ap is_some (sym (get_merged base next more q)))
    ∙ sym (has_below_folder folder q (merged (base ∷ next ∷ more))))

-- ---- and elsewhere

base_file : (base next : Contents) (more : List Contents) (q : List ℕ) → is_in_base q ≡ true → get (merged (base ∷ next ∷ more)) q ≡ get base q
base_file base next more q h =
    get_merged base next more q
    ∙ ap (λ b. cond b (get base q) (cond (is_joined q) (joined_file (base ∷ next ∷ more) q) (cond (is_port_file q) (last_file (port_of q) (base ∷ next ∷ more) q) None))) h

base_below : (folder : List ℕ) (base next : Contents) (more : List Contents) → is_base folder ≡ true → files_below folder base ≡ files_below folder (merged (base ∷ next ∷ more))
base_below folder base next more h =
    same_list (files_below folder base) (files_below folder (merged (base ∷ next ∷ more))) (below_ascends folder base) (below_ascends folder (merged (base ∷ next ∷ more))) (λ q.
    has_below_folder folder q base
    ∙ and_case (is_below folder q) _ _ (λ below. ap is_some (sym (base_file base next more q (below_base folder q h below))))
    ∙ sym (has_below_folder folder q (merged (base ∷ next ∷ more))))

more_than_one : (n : ℕ) (b : Bool) → (n + 2 == 1 || b) ≡ true → b ≡ true
more_than_one n b h = elim (or_cases (n + 2 == 1) b h) [ inl e ↦ absurd (let s : n + 2 ≡ 1 = eqb-true (n + 2) 1 e in omega arith) | inr t ↦ t ]

pub base_names : (folder : List ℕ) (contents : List Contents) → 0 < length contents → (length contents == 1 || is_base folder) ≡ true → files_below folder (get_or contents 0 empty) ≡ files_below folder (merged contents)
base_names folder [] l h = absurd (omega arith)
base_names folder (base ∷ []) l h = ap (files_below folder) (sym (merged_alone base))
base_names folder (base ∷ next ∷ more) l h =
    let n : length (base ∷ next ∷ more) ≡ length more + 2 = omega arith in
    base_below folder base next more (more_than_one (length more) (is_base folder) (subst (λ k. (k == 1 || is_base folder) ≡ true) n h))

pub base_bytes : (most : ℕ) (file : List ℕ) (contents : List Contents) → 0 < length contents → (length contents == 1 || is_in_base file) ≡ true → first_bytes most file (get_or contents 0 empty) ≡ first_bytes most file (merged contents)
base_bytes most file [] l h = absurd (omega arith)
base_bytes most file (base ∷ []) l h = ap (first_bytes most file) (sym (merged_alone base))
base_bytes most file (base ∷ next ∷ more) l h =
    let n : length (base ∷ next ∷ more) ≡ length more + 2 = omega arith in
    ap (option_map (take most)) (sym (base_file base next more file (more_than_one (length more) (is_in_base file) (subst (λ k. (k == 1 || is_in_base file) ≡ true) n h))))

pub nothing_there : (folder : List ℕ) (contents : List Contents) → 0 < length contents → (length contents == 1 || is_base folder) ≡ false → is_in_ports folder ≡ false → [] ≡ files_below folder (merged contents)
unfolding IsStrictlySortedBy
nothing_there folder [] l h p = absurd (omega arith)
nothing_there folder (base ∷ []) l h p = absurd cc
nothing_there folder (base ∷ next ∷ more) l h p =
    same_list [] (files_below folder (merged (base ∷ next ∷ more))) tt (below_ascends folder (merged (base ∷ next ∷ more))) (λ q. sym (
    has_below_folder folder q (merged (base ∷ next ∷ more))
    ∙ and_case (is_below folder q) _ false (λ below. ap is_some (get_merged base next more q ∙ no_kind q below))
    ∙ and_false (is_below folder q)))
  where
    and_false : (a : Bool) → (a && false) ≡ false
    and_false true = refl
    and_false false = refl

    no_kind : (q : List ℕ) → is_below folder q ≡ true → merged_file base (next ∷ more) q ≡ None
    no_kind q below =
        let kinds = or_none (is_joined q) (is_port_file q) (elsewhere folder q p below) in
        let other : is_in_base q ≡ false = ap (λ b. b && nat_lt (length (first q)) (length q)) (ap is_base_part (first_below folder q below) ∙ (or_none _ (is_base folder) h).1) in
        ap (λ b. cond b (get base q) (cond (is_joined q) (joined_file (base ∷ next ∷ more) q) (cond (is_port_file q) (last_file (port_of q) (base ∷ next ∷ more) q) None))) other
        ∙ ap₂ (λ a b. cond a (joined_file (base ∷ next ∷ more) q) (cond b (last_file (port_of q) (base ∷ next ∷ more) q) None)) kinds.0 kinds.1

-- ---- a file of the merged content, by its place

pub laid_bytes : (most : ℕ) (file : List ℕ) (contents : List Contents) → 0 < length contents → (length contents == 1 || is_in_base file) ≡ false
    → option_map (take most) (cond (is_joined file) (joined_file contents file) (cond (is_port_file file) (last_file (port_of file) contents file) None)) ≡ first_bytes most file (merged contents)
laid_bytes most file [] l h = absurd (omega arith)
laid_bytes most file (base ∷ []) l h = absurd cc
laid_bytes most file (base ∷ next ∷ more) l h =
    ap (option_map (take most)) (sym (get_merged base next more file
    ∙ ap (λ b. cond b (get base file) (cond (is_joined file) (joined_file (base ∷ next ∷ more) file) (cond (is_port_file file) (last_file (port_of file) (base ∷ next ∷ more) file) None))) (or_none _ (is_in_base file) h).1))

pub joined_told : (most : ℕ) (file : List ℕ) (contents : List Contents) → 0 < length contents → (length contents == 1 || is_in_base file) ≡ false → is_joined file ≡ true
    → option_map (take most) (joined_file contents file) ≡ first_bytes most file (merged contents)
joined_told most file contents l h j =
    sym (ap (λ b. option_map (take most) (cond b (joined_file contents file) (cond (is_port_file file) (last_file (port_of file) contents file) None))) j) ∙ laid_bytes most file contents l h

pub port_told : (most : ℕ) (file : List ℕ) (contents : List Contents) → 0 < length contents → (length contents == 1 || is_in_base file) ≡ false → is_joined file ≡ false → is_port_file file ≡ true
    → option_map (take most) (last_file (port_of file) contents file) ≡ first_bytes most file (merged contents)
port_told most file contents l h j p =
    sym (ap₂ (λ a b. option_map (take most) (cond a (joined_file contents file) (cond b (last_file (port_of file) contents file) None))) j p) ∙ laid_bytes most file contents l h

pub none_told : (most : ℕ) (file : List ℕ) (contents : List Contents) → 0 < length contents → (length contents == 1 || is_in_base file) ≡ false → is_joined file ≡ false → is_port_file file ≡ false
    → None ≡ first_bytes most file (merged contents)
none_told most file contents l h j p =
    sym (ap₂ (λ a b. option_map (take most) (cond a (joined_file contents file) (cond b (last_file (port_of file) contents file) None))) j p) ∙ laid_bytes most file contents l h

pub empty_listing : (folder : List ℕ) (paths : List (List ℕ)) → paths ≡ [] → IsListing folder paths
unfolding IsStrictlySortedBy
empty_listing folder paths e = subst (IsListing folder) (sym e) (record { order = tt; below = refl; apart = refl })
