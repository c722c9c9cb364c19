-- What the names of a ports tree's index mean.
use Rattle.std.proofs.Common.{◌≡◌, ℕ, ◌<◌, Bool, true, false, List, [], ◌∷◌, length, get_or, arith, ◌∙◌, ap, refl, sym, cond, subst}
use Rattle.std.specs.Prelude.{Some, position, filter, bytes_eq, ◌||◌, ◌&&◌}
use Rattle.std.specs.Option.{is_some}
use Rattle.std.specs.List.{AllByRecursion, list_any}
use Rattle.std.proofs.lemmas.List.Elements.{All-from_recursion}
use Rattle.std.proofs.lemmas.List.Quantifiers.{position-Some}
use Rattle.std.proofs.lemmas.Slice.Eq.{bytes_eq-Decides}
use Rattle.std.proofs.lemmas.Bool.Decides.{nat_tests}
use Rattle.port_name.specs.declared.place.Origin.{Origin}
use Rattle.port_name.specs.Sets.{is_among}
use Rattle.tree_index.specs.declared.node.NodeInfo.{NodeInfo}
use Rattle.tree_index.specs.Places.{origin_name}
use Rattle.tree_index.specs.Targets.{is_meant, number_in, names_of}
use Rattle.tree_index.specs.Facts.{AreTreeNodes, IsIndex, is_default_of}

-- the number of a name is below the number of nodes
pub number_within : (nodes : List NodeInfo) (name : List ℕ) (n : ℕ) → number_in nodes name ≡ Some n → n < length nodes
number_within [] name n h = cc
number_within (node ∷ nodes) name n h = (position-Some (is_meant name) (node ∷ nodes) n node h).0

-- a name means the node with its number
pub number_means : (nodes : List NodeInfo) (name : List ℕ) (n : ℕ) (d : NodeInfo) → number_in nodes name ≡ Some n → is_meant name (get_or nodes n d) ≡ true
number_means nodes name n d h = (position-Some (is_meant name) nodes n d h).1

-- a name is a node's or its port's
abbrev pub is_named : List ℕ → NodeInfo → Bool
is_named name node = bytes_eq name node.node || bytes_eq name (origin_name node.origin)

or_assoc : (a b c : Bool) → (a || (b || c)) ≡ ((a || b) || c)
or_assoc a b c = grind arith

-- the names are those of the nodes and of their ports
pub names_are : (nodes : List NodeInfo) (name : List ℕ) → is_among (names_of nodes) name ≡ list_any (is_named name) nodes
names_are [] name = refl
names_are (node ∷ nodes) name =
    ap (λ b. bytes_eq name node.node || (bytes_eq name (origin_name node.origin) || b)) (names_are nodes name)
    ∙ or_assoc (bytes_eq name node.node) (bytes_eq name (origin_name node.origin)) (list_any (is_named name) nodes)

position_some : (p : NodeInfo → Bool) (xs : List NodeInfo) → is_some (position p xs) ≡ list_any p xs
position_some p [] = refl
position_some p (x ∷ xs) = some_case (p x) refl (position_some p xs)
  where
    some_case : (t : Bool) → p x ≡ t → is_some (position p xs) ≡ list_any p xs → is_some (position p (x ∷ xs)) ≡ (t || list_any p xs)
    some_case t e rest = grind (arith, nat_tests)

or_first : (a b : Bool) → a ≡ true → (a || b) ≡ true
or_first a b h = grind arith

or_next : (a b : Bool) → b ≡ true → (a || b) ≡ true
or_next a b h = grind arith

-- a number counts the default nodes of a port, so one is there
default_there : (origin : Origin) (name : List ℕ) → bytes_eq name (origin_name origin) ≡ true → (nodes : List NodeInfo) → 0 < length (filter (is_default_of origin) nodes)
    → list_any (is_meant name) nodes ≡ true
default_there origin name e [] h = absurd (omega arith)
default_there origin name e (node ∷ nodes) h = there_case (is_default_of origin node) refl (default_there origin name e nodes) h
  where
    there_case : (t : Bool) → is_default_of origin node ≡ t → (0 < length (filter (is_default_of origin) nodes) → list_any (is_meant name) nodes ≡ true)
        → 0 < length (cond t (node ∷ filter (is_default_of origin) nodes) (filter (is_default_of origin) nodes))
        → (is_meant name node || list_any (is_meant name) nodes) ≡ true
    there_case true d more l =
        or_first (is_meant name node) (list_any (is_meant name) nodes)
        (or_next (bytes_eq name node.node) (node.is_default && bytes_eq name (origin_name node.origin))
        (subst (λ n. (node.is_default && bytes_eq n (origin_name node.origin)) ≡ true) (sym ((bytes_eq-Decides name (origin_name origin)).0 e)) d))
    there_case false d more l = or_next (is_meant name node) (list_any (is_meant name) nodes) (more l)

module _ (nodes : List NodeInfo) (name : List ℕ) where
  meant_case : (node : NodeInfo) (rest : List NodeInfo) (s t : Bool) → bytes_eq name node.node ≡ s → bytes_eq name (origin_name node.origin) ≡ t
      → length (filter (is_default_of node.origin) nodes) ≡ 1 → (list_any (is_named name) rest ≡ true → (list_any (is_meant name) rest || list_any (is_meant name) nodes) ≡ true)
      → ((s || t) || list_any (is_named name) rest) ≡ true → ((is_meant name node || list_any (is_meant name) rest) || list_any (is_meant name) nodes) ≡ true
  meant_case node rest true t es et one more h =
      or_first (is_meant name node || list_any (is_meant name) rest) (list_any (is_meant name) nodes) (or_first (is_meant name node) (list_any (is_meant name) rest)
      (or_first (bytes_eq name node.node) (node.is_default && bytes_eq name (origin_name node.origin)) es))
  meant_case node rest false true es et one more h =
      or_next (is_meant name node || list_any (is_meant name) rest) (list_any (is_meant name) nodes) (default_there node.origin name et nodes (omega (arith, one)))
  meant_case node rest false false es et one more h =
      or_assoc_true (is_meant name node) (list_any (is_meant name) rest) (list_any (is_meant name) nodes) (more h)
    where
      or_assoc_true : (a b c : Bool) → (b || c) ≡ true → ((a || b) || c) ≡ true
      or_assoc_true a b c p = grind arith

  meant_among : (some : List NodeInfo) → AllByRecursion (λ node. length (filter (is_default_of node.origin) nodes) ≡ 1) some → list_any (is_named name) some ≡ true
      → (list_any (is_meant name) some || list_any (is_meant name) nodes) ≡ true
  meant_among [] one h = cc
  meant_among (node ∷ rest) one h =
      meant_case node rest (bytes_eq name node.node) (bytes_eq name (origin_name node.origin)) refl refl one.0 (meant_among rest one.1) h

  named_case : (a b c d e : Bool) → (d ≡ true → e ≡ true) → ((a || (b && c)) || d) ≡ true → ((a || c) || e) ≡ true
  named_case a b c d e f h = grind arith

  named_from_meant : (some : List NodeInfo) → list_any (is_meant name) some ≡ true → list_any (is_named name) some ≡ true
  named_from_meant [] h = h
  named_from_meant (node ∷ rest) h =
      named_case (bytes_eq name node.node) node.is_default (bytes_eq name (origin_name node.origin)) (list_any (is_meant name) rest) (list_any (is_named name) rest)
      (named_from_meant rest) h

same_tests : (a b : Bool) → (a ≡ true → b ≡ true) → (b ≡ true → a ≡ true) → a ≡ b
same_tests a b f g = grind arith

or_self : (a : Bool) → (a || a) ≡ true → a ≡ true
or_self a h = grind arith

-- a name has a number exactly where it is a node's or a port's
pub number_there : (nodes : List NodeInfo) (name : List ℕ) → AreTreeNodes nodes → is_some (number_in nodes name) ≡ is_among (names_of nodes) name
number_there nodes name tree =
    position_some (is_meant name) nodes
    ∙ same_tests (list_any (is_meant name) nodes) (list_any (is_named name) nodes) (named_from_meant nodes name nodes)
    (λ h. or_self (list_any (is_meant name) nodes) (meant_among nodes name nodes tree.one_default h))
    ∙ sym (names_are nodes name)

-- the same of the names of an index
pub number_known : (nodes : List NodeInfo) (names : List (List ℕ)) (name : List ℕ) → IsIndex nodes names → is_some (number_in nodes name) ≡ is_among names name
number_known nodes names name index = number_there nodes name index.tree ∙ sym (index.known name)

-- the origin of a node means a node: the port's default is there
pub origin_numbered : (nodes : List NodeInfo) (at : ℕ) (d : NodeInfo) → AreTreeNodes nodes → at < length nodes → is_some (number_in nodes (origin_name (get_or nodes at d).origin)) ≡ true
origin_numbered nodes at d tree within =
    let origin : Origin = (get_or nodes at d).origin in
    let one : length (filter (is_default_of origin) nodes) ≡ 1 = All-from_recursion (λ node. length (filter (is_default_of node.origin) nodes) ≡ 1) nodes tree.one_default at d within in
    position_some (is_meant (origin_name origin)) nodes ∙ default_there origin (origin_name origin) ((bytes_eq-Decides (origin_name origin) (origin_name origin)).1 refl) nodes (omega (arith, one))
