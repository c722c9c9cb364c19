-- Which files of a tree may stand below which.
use Rattle.std.proofs.Common.{◌≡◌, ℕ, ◌+◌, ◌<◌, ◌≤◌, Bool, true, false, List, [], ◌∷◌, ◌++◌, length, drop, arith, ap, sym, ◌∙◌, refl, subst, inl, inr, true≢false}
use Rattle.std.specs.Prelude.{◌⊎◌, not, ◌&&◌, ◌||◌, nat_lt, codes, bytes_eq}
use Rattle.std.proofs.lemmas.Bool.{and_parts, and_from, or_cases, cases_Bool}
use Rattle.std.proofs.lemmas.List.{length-take, length-append}
use Rattle.std.specs.List.{position_or_len}
use Rattle.bulk_base.specs.Marks.{is_mark}
use Rattle.std.proofs.lemmas.Bool.Decides.{nat_tests}
use Rattle.std.proofs.lemmas.Slice.Eq.{bytes_eq-Decides}
use Rattle.bulk_base.specs.Path.{is_below}
use Rattle.bulk_base.proofs.Paths.{below_is_joined}
use Rattle.overlay_tree.specs.Places.{first, behind, second, third, port_of, is_deep, is_in_ports, is_base, is_in_base, is_base_part, is_reserved, is_list_name, is_category_list, is_joined, is_port_file}
use Rattle.overlay_tree.proofs.Parts.{slashes, slashes-append, slashes-behind, behind-append, first-append, below_front, same_front, below_below}

-- a file that a list may keep
abbrev pub is_kind : List ℕ → Bool
is_kind path = is_joined path || is_port_file path

deep_more : (path : List ℕ) → is_deep path ≡ true → 2 < slashes path
deep_more path h = grind (arith, nat_tests)

not_deep : (path : List ℕ) → not (is_deep path) ≡ true → slashes path ≤ 2
not_deep path h = grind (arith, nat_tests)

more_deep : (path : List ℕ) → 2 < slashes path → not (is_deep path) ≡ true → ⊥
more_deep path l h = let s = not_deep path h in omega arith

record CategoryList (path : List ℕ) : Type 0 where
  list : third path ≡ codes "subdir.vars"
  few : slashes path ≤ 2

category_list : (path : List ℕ) → is_category_list path ≡ true → CategoryList path
category_list path h =
    let a = and_parts (is_in_ports path && not (is_reserved (second path)) && is_list_name (third path)) (not (is_deep path)) h in
    let b = and_parts (is_in_ports path && not (is_reserved (second path))) (is_list_name (third path)) a.0 in
    record { list = (bytes_eq-Decides (third path) (codes "subdir.vars")).0 b.1; few = not_deep path a.1 }

pub record PortFile (path : List ℕ) : Type 0 where
  pub other : is_list_name (third path) ≡ true → ⊥
  pub deep : 2 < slashes path

never : (b : Bool) → not b ≡ true → b ≡ true → ⊥
never true h k = cc
never false h k = cc

pub port_file : (path : List ℕ) → is_port_file path ≡ true → PortFile path
port_file path h =
    let a = and_parts (is_in_ports path && not (is_reserved (second path)) && not (is_list_name (third path))) (is_deep path) h in
    let b = and_parts (is_in_ports path && not (is_reserved (second path))) (not (is_list_name (third path))) a.0 in
    record { other = never (is_list_name (third path)) b.1; deep = deep_more path a.1 }

-- a list of categories or of ports and MOVED have three parts at most
joined_few : (path : List ℕ) → is_joined path ≡ true → slashes path ≤ 2
joined_few path h = elim (or_cases (bytes_eq path (codes "ports/subdir.vars") || bytes_eq path (codes "ports/MOVED")) (is_category_list path) h) [
  | inl a ↦ elim (or_cases (bytes_eq path (codes "ports/subdir.vars")) (bytes_eq path (codes "ports/MOVED")) a) [
    | inl e ↦ ap-few (codes "ports/subdir.vars") (omega arith) e
    | inr e ↦ ap-few (codes "ports/MOVED") (omega arith) e
  ]
  | inr c ↦ (category_list path c).few
] where
  ap-few : (name : List ℕ) → slashes name ≤ 2 → bytes_eq path name ≡ true → slashes path ≤ 2
  ap-few name l e = subst (λ t. slashes t ≤ 2) (sym ((bytes_eq-Decides path name).0 e)) l

-- nothing that a list may keep is below one of them
nothing_below_list : (rest : List ℕ) → is_kind (codes "ports/subdir.vars" ++ 47 ∷ rest) ≡ true → ⊥
nothing_below_list rest h = cc h

nothing_below_moved : (rest : List ℕ) → is_kind (codes "ports/MOVED" ++ 47 ∷ rest) ≡ true → ⊥
nothing_below_moved rest h = cc h

third_some : (path : List ℕ) → third path ≡ codes "subdir.vars" → (0 < length (behind path)) × (0 < length (behind (behind path)))
third_some path e = (first_some (behind path) (filled (behind (behind path)) e), filled (behind (behind path)) e)
  where
    filled : (text : List ℕ) → first text ≡ codes "subdir.vars" → 0 < length text
    filled [] h = absurd cc
    filled (x ∷ text) h = omega arith

    first_some : (text : List ℕ) → 0 < length (behind text) → 0 < length text
    first_some [] l = l
    first_some (x ∷ text) l = omega arith

nothing_below_category : (path rest : List ℕ) → CategoryList path → is_kind (path ++ 47 ∷ rest) ≡ true → ⊥
nothing_below_category path rest list h =
    let some = third_some path list.list in
    let one : behind (path ++ 47 ∷ rest) ≡ behind path ++ 47 ∷ rest = behind-append path (47 ∷ rest) some.0 in
    let two : behind (behind (path ++ 47 ∷ rest)) ≡ behind (behind path) ++ 47 ∷ rest = ap behind one ∙ behind-append (behind path) (47 ∷ rest) some.1 in
    let same : third (path ++ 47 ∷ rest) ≡ codes "subdir.vars" = ap first two ∙ first-append (behind (behind path)) rest ∙ list.list in
    let many : 2 < slashes (path ++ 47 ∷ rest) = omega (arith, slashes-append path rest, slashes-behind path some.0, slashes-behind (behind path) some.1) in
    elim (or_cases (is_joined (path ++ 47 ∷ rest)) (is_port_file (path ++ 47 ∷ rest)) h) [
      | inl joined ↦ (let few : slashes (path ++ 47 ∷ rest) ≤ 2 = joined_few (path ++ 47 ∷ rest) joined in omega arith)
      | inr port ↦ (port_file (path ++ 47 ∷ rest) port).other ((bytes_eq-Decides (third (path ++ 47 ∷ rest)) (codes "subdir.vars")).1 same)
    ]

pub nothing_below_joined : (path rest : List ℕ) → is_joined path ≡ true → is_kind (path ++ 47 ∷ rest) ≡ true → ⊥
nothing_below_joined path rest h k = elim (or_cases (bytes_eq path (codes "ports/subdir.vars") || bytes_eq path (codes "ports/MOVED")) (is_category_list path) h) [
  | inl a ↦ elim (or_cases (bytes_eq path (codes "ports/subdir.vars")) (bytes_eq path (codes "ports/MOVED")) a) [
    | inl e ↦ nothing_below_list rest (subst (λ t. is_kind (t ++ 47 ∷ rest) ≡ true) ((bytes_eq-Decides path (codes "ports/subdir.vars")).0 e) k)
    | inr e ↦ nothing_below_moved rest (subst (λ t. is_kind (t ++ 47 ∷ rest) ≡ true) ((bytes_eq-Decides path (codes "ports/MOVED")).0 e) k)
  ]
  | inr c ↦ nothing_below_category path rest (category_list path c) k
]

pub joined_is_no_port : (path : List ℕ) → is_joined path ≡ true → is_port_file path ≡ true → ⊥
joined_is_no_port path j p =
    let few : slashes path ≤ 2 = joined_few path j in
    let deep : 2 < slashes path = (port_file path p).deep in
    omega arith

-- a port's file is below the port's folder
pub below_port : (path : List ℕ) → is_port_file path ≡ true → is_below (port_of path) path ≡ true
below_port path h = below_front 2 path (port_file path h).deep

-- of two files that a list may keep, one below the other, the upper is a port's file, and the lower is below that port's folder
pub record Nested (upper lower : List ℕ) : Type 0 where
  pub port : is_port_file upper ≡ true
  pub lower_port : is_joined lower ≡ true → ⊥
  pub same : port_of lower ≡ port_of upper
  pub inside : is_below (port_of upper) lower ≡ true

nested_joined : (upper rest : List ℕ) → is_kind upper ≡ true → is_kind (upper ++ 47 ∷ rest) ≡ true → is_below upper (upper ++ 47 ∷ rest) ≡ true → Nested upper (upper ++ 47 ∷ rest)
nested_joined upper rest u l below = elim (or_cases (is_joined upper) (is_port_file upper) u) [
  | inl joined ↦ absurd (nothing_below_joined upper rest joined l)
  | inr port ↦ (let deep : 2 < slashes upper = (port_file upper port).deep in record {
    port = port;
    lower_port = λ joined. (let few : slashes (upper ++ 47 ∷ rest) ≤ 2 = joined_few (upper ++ 47 ∷ rest) joined in omega (arith, slashes-append upper rest));
    same = same_front 2 upper (47 ∷ rest) deep;
    inside = below_below (port_of upper) upper (upper ++ 47 ∷ rest) (below_port upper port) below;
  })
]

pub nested : (upper lower : List ℕ) → is_kind upper ≡ true → is_kind lower ≡ true → is_below upper lower ≡ true → Nested upper lower
nested upper lower u l below =
    let e : lower ≡ upper ++ 47 ∷ drop (length upper + 1) lower = below_is_joined upper lower below in
    subst (Nested upper) (sym e)
    (nested_joined upper (drop (length upper + 1) lower) u (subst (λ t. is_kind t ≡ true) e l) (subst (λ t. is_below upper t ≡ true) e below))

-- the first part of what is below a folder is the folder's
pub first_below : (folder path : List ℕ) → is_below folder path ≡ true → first path ≡ first folder
first_below folder path below = ap first (below_is_joined folder path below) ∙ first-append folder (drop (length folder + 1) path)

ports_no_base : (part : List ℕ) → bytes_eq part (codes "ports") ≡ true → is_base_part part ≡ false
ports_no_base part h = subst (λ t. is_base_part t ≡ false) (sym ((bytes_eq-Decides part (codes "ports")).0 h)) refl

pub in_ports_no_base : (folder path : List ℕ) → is_in_ports folder ≡ true → is_below folder path ≡ true → is_in_base path ≡ false
in_ports_no_base folder path h below =
    ap (λ b. b && nat_lt (length (first path)) (length path)) (ports_no_base (first path) (ap (λ t. bytes_eq t (codes "ports")) (first_below folder path below) ∙ h))

-- what is below a folder is longer than its first part
longer_below : (folder path : List ℕ) → is_below folder path ≡ true → length (first path) < length path
longer_below folder path below =
    let e : path ≡ folder ++ 47 ∷ drop (length folder + 1) path = below_is_joined folder path below in
    omega (arith, ap length (first_below folder path below), length-take (position_or_len (is_mark 47) folder) folder, ap length e, length-append folder (47 ∷ drop (length folder + 1) path))

lt_true : (a b : ℕ) → a < b → nat_lt a b ≡ true
lt_true a b l = grind (arith, nat_tests)

pub below_base : (folder path : List ℕ) → is_base folder ≡ true → is_below folder path ≡ true → is_in_base path ≡ true
below_base folder path h below = and_from _ _ (ap is_base_part (first_below folder path below) ∙ h) (lt_true _ _ (longer_below folder path below))

concrete_ports : (path : List ℕ) → is_joined path ≡ true → is_in_ports path ≡ true
concrete_ports path h = elim (or_cases (bytes_eq path (codes "ports/subdir.vars") || bytes_eq path (codes "ports/MOVED")) (is_category_list path) h) [
  | inl a ↦ elim (or_cases (bytes_eq path (codes "ports/subdir.vars")) (bytes_eq path (codes "ports/MOVED")) a) [
    | inl e ↦ subst (λ t. is_in_ports t ≡ true) (sym ((bytes_eq-Decides path (codes "ports/subdir.vars")).0 e)) refl
    | inr e ↦ subst (λ t. is_in_ports t ≡ true) (sym ((bytes_eq-Decides path (codes "ports/MOVED")).0 e)) refl
  ]
  | inr c ↦ (let a = and_parts (is_in_ports path && not (is_reserved (second path)) && is_list_name (third path)) (not (is_deep path)) c in
      let b = and_parts (is_in_ports path && not (is_reserved (second path))) (is_list_name (third path)) a.0 in
      (and_parts (is_in_ports path) (not (is_reserved (second path))) b.0).0)
]

port_ports : (path : List ℕ) → is_port_file path ≡ true → is_in_ports path ≡ true
port_ports path h =
    let a = and_parts (is_in_ports path && not (is_reserved (second path)) && not (is_list_name (third path))) (is_deep path) h in
    let b = and_parts (is_in_ports path && not (is_reserved (second path))) (not (is_list_name (third path))) a.0 in
    (and_parts (is_in_ports path) (not (is_reserved (second path))) b.0).0

-- elsewhere there is nothing that a list may keep
pub elsewhere : (folder path : List ℕ) → is_in_ports folder ≡ false → is_below folder path ≡ true → is_kind path ≡ false
elsewhere folder path h below = by_kind (cases_Bool (is_kind path))
  where
    apart : is_in_ports path ≡ true → ⊥
    apart t = true≢false (sym t ∙ ap (λ f. bytes_eq f (codes "ports")) (first_below folder path below) ∙ h)

    by_kind : (is_kind path ≡ true) ⊎ (is_kind path ≡ false) → is_kind path ≡ false
    by_kind (inl kind) = elim (or_cases (is_joined path) (is_port_file path) kind) [ inl j ↦ absurd (apart (concrete_ports path j)) | inr p ↦ absurd (apart (port_ports path p)) ]
    by_kind (inr none) = none
