-- Nodes of whole ports, behind those of other ports.
use Rattle.std.proofs.Common.{◌≡◌, ℕ, Bool, true, false, List, [], ◌++◌, refl, ap, sym, subst, ◌∙◌, length}
use Rattle.std.specs.Prelude.{Option, Some, None, map, filter, bytes_eq, ◌&&◌}
use Rattle.std.specs.List.{AllByRecursion, IsDistinct}
use Rattle.std.proofs.lemmas.List.{map-append, append-nil}
use Rattle.std.proofs.lemmas.Slice.Eq.{bytes_eq-Decides}
use Rattle.bulk_base.specs.Names.{node_of}
use Rattle.port_name.specs.declared.place.Origin.{Origin}
use Rattle.tree_index.specs.declared.node.NodeInfo.{NodeInfo}
use Rattle.tree_index.specs.Facts.{IsPlace, IsNodeInfo, ArePortNodes, is_default_of}
use Rattle.tree_index.specs.Gathered.{AreWhole}
use Rattle.tree_index.specs.Places.{origin_name}
use Rattle.tree_index.proofs.Lists.{all_append, all_weaker, all_both, all_mapped, transposed, distinct_append, none_pass, filter_append, filter_same}
use Rattle.tree_index.proofs.Splits.{lacks, front_of, back_of, front_whole, no_slash, no_at_origin}

-- a test of bytes tells two texts apart that differ, and only those
pub by_difference : (a b : List ℕ) → (a ≡ b → ⊥) → bytes_eq a b ≡ false
by_difference a b h = elim (bytes_eq a b) as (λ t. bytes_eq a b ≡ t → t ≡ false) [
  | true ↦ λ e. absurd (h ((bytes_eq-Decides a b).0 e))
  | false ↦ λ e. refl
] refl

and_false : (b : Bool) → (b && false) ≡ false
and_false true = refl
and_false false = refl

and_true : (b : Bool) → (b && true) ≡ b
and_true true = refl
and_true false = refl

-- a node's name tells its port
origin_of_node : (o p : List ℕ) (f g : Option (List ℕ)) → lacks 64 o ≡ true → lacks 64 p ≡ true → node_of o f ≡ node_of p g → o ≡ p
origin_of_node o p None None h k e = e
origin_of_node o p None (Some g) h k e = sym (front_whole 64 p g o k h (sym e))
origin_of_node o p (Some f) None h k e = front_whole 64 o f p h k e
origin_of_node o p (Some f) (Some g) h k e = front_of 64 o f p g h k e

-- nodes of different ports
abbrev pub AreApart : NodeInfo → NodeInfo → Type 0
AreApart x y = origin_name x.origin ≡ origin_name y.origin → ⊥

abbrev pub AreAllApart : List NodeInfo → List NodeInfo → Type 0
AreAllApart xs ys = AllByRecursion (λ x. AllByRecursion (AreApart x) ys) xs

no_at_in : (origin : Origin) → IsPlace origin → lacks 64 (origin_name origin) ≡ true
no_at_in origin h = no_at_origin origin.category origin.port h.category h.port

names_differ : (x y : NodeInfo) → IsNodeInfo x → IsNodeInfo y → AreApart x y → bytes_eq x.node y.node ≡ false
names_differ x y h k a = by_difference x.node y.node (λ e.
    a (origin_of_node (origin_name x.origin) (origin_name y.origin) x.flavor y.flavor (no_at_in x.origin h.origin) (no_at_in y.origin k.origin) (sym h.spelled ∙ e ∙ k.spelled)))

no_default : (x y : NodeInfo) → AreApart x y → is_default_of x.origin y ≡ false
no_default x y a = ap (λ b. y.is_default && b) (by_difference (origin_name x.origin) (origin_name y.origin) a) ∙ and_false y.is_default

turned : (x y : NodeInfo) → AreApart x y → AreApart y x
turned x y a e = a (sym e)

-- the names of the first differ from those of the second
names_apart : (xs ys : List NodeInfo) → AllByRecursion IsNodeInfo xs → AllByRecursion IsNodeInfo ys → AreAllApart xs ys
    → AllByRecursion (λ k. AllByRecursion (λ l. bytes_eq k l ≡ false) (map (λ node. node.node) ys)) (map (λ node. node.node) xs)
names_apart xs ys h k a =
    all_mapped (λ k. AllByRecursion (λ l. bytes_eq k l ≡ false) (map (λ node. node.node) ys)) (λ node. node.node) xs
    (all_both IsNodeInfo (λ x. AllByRecursion (AreApart x) ys) (λ x. AllByRecursion (λ l. bytes_eq x.node l ≡ false) (map (λ node. node.node) ys)) xs
    (λ x f row. all_mapped (λ l. bytes_eq x.node l ≡ false) (λ node. node.node) ys (all_both IsNodeInfo (AreApart x) (λ y. bytes_eq x.node y.node ≡ false) ys (λ y g b. names_differ x y f g b) k row)) h a)

abbrev HasOneDefault : List NodeInfo → NodeInfo → Type 0
HasOneDefault nodes node = length (filter (is_default_of node.origin) nodes) ≡ 1

one_in_front : (xs ys : List NodeInfo) (x : NodeInfo) → HasOneDefault xs x → AllByRecursion (AreApart x) ys → HasOneDefault (xs ++ ys) x
one_in_front xs ys x h row =
    let p = is_default_of x.origin in
    let none : filter p ys ≡ [] = none_pass p ys (all_weaker (AreApart x) (λ y. p y ≡ false) ys (λ y a. no_default x y a) row) in
    ap length (filter_append p xs ys ∙ ap (λ zs. filter p xs ++ zs) none ∙ append-nil (filter p xs)) ∙ h

one_behind : (xs ys : List NodeInfo) (y : NodeInfo) → HasOneDefault ys y → AllByRecursion (λ x. AreApart x y) xs → HasOneDefault (xs ++ ys) y
one_behind xs ys y h column =
    let p = is_default_of y.origin in
    let none : filter p xs ≡ [] = none_pass p xs (all_weaker (λ x. AreApart x y) (λ x. p x ≡ false) xs (λ x a. no_default y x (turned x y a)) column) in
    ap length (filter_append p xs ys ∙ ap (λ zs. zs ++ filter p ys) none) ∙ h

pub whole_append : (xs ys : List NodeInfo) → AreWhole xs → AreWhole ys → AreAllApart xs ys → AreWhole (xs ++ ys)
whole_append xs ys h k a = record {
  forms = all_append IsNodeInfo xs ys h.forms k.forms;
  once = subst (IsDistinct bytes_eq) (sym (map-append (λ node. node.node) xs ys))
      (distinct_append bytes_eq (map (λ node. node.node) xs) (map (λ node. node.node) ys) (names_apart xs ys h.forms k.forms a) h.once k.once);
  one_default = all_append (HasOneDefault (xs ++ ys)) xs ys
      (all_both (HasOneDefault xs) (λ x. AllByRecursion (AreApart x) ys) (HasOneDefault (xs ++ ys)) xs (λ x f row. one_in_front xs ys x f row) h.one_default a)
      (all_both (HasOneDefault ys) (λ y. AllByRecursion (λ x. AreApart x y) xs) (HasOneDefault (xs ++ ys)) ys (λ y f column. one_behind xs ys y f column) k.one_default (transposed AreApart xs ys a));
}

pub whole_none : AreWhole []
unfolding IsDistinct
whole_none = record { forms = tt; once = tt; one_default = tt }

-- the nodes of one port are whole
itself : (a : List ℕ) → bytes_eq a a ≡ true
itself a = (bytes_eq-Decides a a).1 refl

same_port : (origin : Origin) (x y : NodeInfo) → x.origin ≡ origin → y.origin ≡ origin → is_default_of x.origin y ≡ y.is_default
same_port origin x y p q =
    ap (λ b. y.is_default && b) ((λ i. bytes_eq (origin_name (p i)) (origin_name (q i))) ∙ itself (origin_name origin)) ∙ and_true y.is_default

pub whole_port : (origin : Origin) (nodes : List NodeInfo) → ArePortNodes origin nodes → AreWhole nodes
whole_port origin nodes h = record {
  forms = h.forms;
  once = h.once;
  one_default = all_weaker (λ node. node.origin ≡ origin) (HasOneDefault nodes) nodes
      (λ x p. ap length (filter_same (is_default_of x.origin) (λ node. node.is_default) nodes (all_weaker (λ node. node.origin ≡ origin) (λ y. is_default_of x.origin y ≡ y.is_default) nodes (λ y q. same_port origin x y p q) h.origins)) ∙ h.one_default)
      h.origins;
}

-- ports of one name have one category and one port
pub same_category : (a b : Origin) → IsPlace a → IsPlace b → origin_name a ≡ origin_name b → a.category ≡ b.category
same_category a b h k e = front_of 47 a.category a.port b.category b.port (no_slash a.category h.category) (no_slash b.category k.category) e

pub same_name : (a b : Origin) → IsPlace a → IsPlace b → origin_name a ≡ origin_name b → a.port ≡ b.port
same_name a b h k e = back_of 47 a.category a.port b.category b.port (no_slash a.category h.category) (no_slash b.category k.category) e
