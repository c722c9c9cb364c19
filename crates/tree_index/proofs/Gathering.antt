-- The nodes of ports and of categories that are read in byte order.
use Rattle.std.proofs.Common.{◌≡◌, ℕ, ◌+◌, ◌<◌, List, ◌∷◌, ◌++◌, ap, sym, subst, ◌∙◌, length, drop, get_or}
use Rattle.std.specs.declared.cmp.Ordering.{Ordering}
use Rattle.std.specs.declared.cmp.Ordering.TheVariants.{Less, Equal}
use Rattle.std.specs.Ordering.{nat_cmp}
use Rattle.std.specs.Cmp.{tied_itself}
use Rattle.std.specs.Cmp.Lexicographic.{slice_cmp, nat_list_cmp_total}
use Rattle.std.specs.List.{AllByRecursion}
use Rattle.std.specs.List.Sorted.{IsStrictlySortedBy}
use Rattle.std.proofs.lemmas.List.{drop_more}
use Rattle.std.proofs.lemmas.Map.Keys.{sorted_head}
use Rattle.std.specs.Prelude.{IsTrue}
use Rattle.bulk_base.specs.Names.{is_port_name}
use Rattle.port_name.specs.declared.place.Origin.{Origin}
use Rattle.tree_index.specs.declared.node.NodeInfo.{NodeInfo}
use Rattle.tree_index.specs.Facts.{IsNodeInfo, ArePortNodes}
use Rattle.tree_index.specs.Gathered.{IsNameList, AreWhole, AreOf}
use Rattle.tree_index.proofs.Lists.{all_append, all_weaker, all_both, all_drop, sorted_drop}
use Rattle.tree_index.proofs.Whole.{AreApart, AreAllApart, whole_append, whole_port, same_category, same_name}

abbrev order : List ℕ → List ℕ → Ordering
order = slice_cmp nat_cmp

-- each node's name by one of its parts stands before all these names
abbrev pub AreBefore : (NodeInfo → List ℕ) → List (List ℕ) → List NodeInfo → Type 0
AreBefore part names nodes = AllByRecursion (λ node. AllByRecursion (λ name. order (part node) name ≡ Less) names) nodes

abbrev pub category_of : NodeInfo → List ℕ
category_of node = node.origin.category

abbrev pub port_of : NodeInfo → List ℕ
port_of node = node.origin.port

not_itself : (a b : List ℕ) → order a b ≡ Less → a ≡ b → ⊥
not_itself a b h e = less_equal (sym h ∙ ap (λ x. order x b) e ∙ tied_itself nat_list_cmp_total b)
  where
    less_equal : Less ≡ Equal → ⊥
    less_equal e = absurd (cc)

next : (names : List (List ℕ)) (i : ℕ) (name : List ℕ) → i < length names → name ≡ get_or names i name → drop i names ≡ name ∷ drop (i + 1) names
next names i name l e = drop_more names i name l ∙ ap (λ n. n ∷ drop (i + 1) names) (sym e)

-- the name in hand is in form, and those behind it are above it
pub in_form : (names : List (List ℕ)) (i : ℕ) (name : List ℕ) → IsNameList names → i < length names → name ≡ get_or names i name → IsTrue (is_port_name name)
in_form names i name h l e = (subst (AllByRecursion (λ name. IsTrue (is_port_name name))) (next names i name l e) (all_drop (λ name. IsTrue (is_port_name name)) i names h.forms)).0

above : (names : List (List ℕ)) (i : ℕ) (name : List ℕ) → IsNameList names → i < length names → name ≡ get_or names i name → AllByRecursion (λ later. order name later ≡ Less) (drop (i + 1) names)
above names i name h l e = sorted_head order name (drop (i + 1) names) (subst (IsStrictlySortedBy order) (next names i name l e) (sorted_drop order i names h.order))

-- the nodes so far stand before the names that are left, and those of the name in hand too
pub still_before : (part : NodeInfo → List ℕ) (names : List (List ℕ)) (i : ℕ) (name : List ℕ) (nodes found now : List NodeInfo) → IsNameList names → i < length names → name ≡ get_or names i name
    → AllByRecursion (λ node. part node ≡ name) found → now ≡ nodes ++ found → AreBefore part (drop i names) nodes → AreBefore part (drop (i + 1) names) now
still_before part names i name nodes found now h l e f n b =
    let rest = drop (i + 1) names in
    let old : AreBefore part (name ∷ rest) nodes = subst (λ names. AreBefore part names nodes) (next names i name l e) b in
    subst (AreBefore part rest) (sym n)
    (all_append (λ node. AllByRecursion (λ later. order (part node) later ≡ Less) rest) nodes found
    (all_weaker (λ node. AllByRecursion (λ later. order (part node) later ≡ Less) (name ∷ rest)) (λ node. AllByRecursion (λ later. order (part node) later ≡ Less) rest) nodes (λ node rows. rows.1) old)
    (all_weaker (λ node. part node ≡ name) (λ node. AllByRecursion (λ later. order (part node) later ≡ Less) rest) found (λ node p. subst (λ k. AllByRecursion (λ later. order k later ≡ Less) rest) (sym p) (above names i name h l e)) f))

-- the nodes so far are of other ports than those of the name in hand
apart_by : (part : NodeInfo → List ℕ) → ((x y : NodeInfo) → IsNodeInfo x → IsNodeInfo y → (part x ≡ part y → ⊥) → AreApart x y) → (names : List (List ℕ)) (i : ℕ) (name : List ℕ) (nodes found : List NodeInfo)
    → i < length names → name ≡ get_or names i name → AllByRecursion IsNodeInfo nodes → AllByRecursion IsNodeInfo found → AllByRecursion (λ node. part node ≡ name) found → AreBefore part (drop i names) nodes → AreAllApart nodes found
apart_by part differ names i name nodes found l e h k f b =
    let old : AreBefore part (name ∷ drop (i + 1) names) nodes = subst (λ names. AreBefore part names nodes) (next names i name l e) b in
    all_both IsNodeInfo (λ x. AllByRecursion (λ later. order (part x) later ≡ Less) (name ∷ drop (i + 1) names)) (λ x. AllByRecursion (AreApart x) found) nodes
    (λ x g row. all_both IsNodeInfo (λ y. part y ≡ name) (AreApart x) found (λ y q p. differ x y g q (λ same. not_itself (part x) name row.0 (same ∙ p))) k f) h old

by_category : (x y : NodeInfo) → IsNodeInfo x → IsNodeInfo y → (category_of x ≡ category_of y → ⊥) → AreApart x y
by_category x y h k d e = d (same_category x.origin y.origin h.origin k.origin e)

by_port : (x y : NodeInfo) → IsNodeInfo x → IsNodeInfo y → (port_of x ≡ port_of y → ⊥) → AreApart x y
by_port x y h k d e = d (same_name x.origin y.origin h.origin k.origin e)

pub with_category : (names : List (List ℕ)) (i : ℕ) (name : List ℕ) (nodes found now : List NodeInfo) → i < length names → name ≡ get_or names i name
    → AreWhole found → AreOf name found → now ≡ nodes ++ found → AreWhole nodes → AreBefore category_of (drop i names) nodes → AreWhole now
with_category names i name nodes found now l e w f n h b =
    subst AreWhole (sym n) (whole_append nodes found h w (apart_by category_of by_category names i name nodes found l e h.forms w.forms f b))

-- the nodes of a port are of its category, and have its name
pub port_here : (origin : Origin) (nodes : List NodeInfo) (port : List ℕ) → origin.port ≡ port → ArePortNodes origin nodes → AllByRecursion (λ node. port_of node ≡ port) nodes
port_here origin nodes port e h = all_weaker (λ node. node.origin ≡ origin) (λ node. port_of node ≡ port) nodes (λ node p. ap (λ (o : Origin). o.port) p ∙ e) h.origins

pub category_here : (category : List ℕ) (origin : Origin) (nodes found now : List NodeInfo) → origin.category ≡ category → ArePortNodes origin found → now ≡ nodes ++ found → AreOf category nodes → AreOf category now
category_here category origin nodes found now e h n c =
    subst (AreOf category) (sym n) (all_append (λ node. node.origin.category ≡ category) nodes found c (all_weaker (λ node. node.origin ≡ origin) (λ node. node.origin.category ≡ category) found (λ node p. ap (λ (o : Origin). o.category) p ∙ e) h.origins))

pub with_port : (origin : Origin) (names : List (List ℕ)) (i : ℕ) (name : List ℕ) (nodes found now : List NodeInfo) → i < length names → name ≡ get_or names i name
    → origin.port ≡ name → ArePortNodes origin found → now ≡ nodes ++ found → AreWhole nodes → AreBefore port_of (drop i names) nodes → AreWhole now
with_port origin names i name nodes found now l e o w n h b =
    subst AreWhole (sym n) (whole_append nodes found h (whole_port origin found w) (apart_by port_of by_port names i name nodes found l e h.forms w.forms (port_here origin found name o w) b))
