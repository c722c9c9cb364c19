-- The numbers of nodes that pass a test: one more node, their range and their order.
use Rattle.std.proofs.Common.{◌≡◌, ℕ, ◌+◌, ◌<◌, ◌≤◌, Bool, true, false, List, [], ◌∷◌, ◌++◌, length, get_or, take, cond, arith, ◌∙◌, ap, sym, refl}
use Rattle.std.specs.List.{AllByRecursion}
use Rattle.std.specs.List.Sorted.{IsStrictlySortedBy}
use Rattle.std.specs.Ordering.{nat_cmp}
use Rattle.std.specs.declared.cmp.Ordering.TheVariants.{Less}
use Rattle.std.proofs.lemmas.List.{take_all, length-take, append-nil}
use Rattle.port_desc.proofs.Turns.{taken_more}
use Rattle.port_desc.proofs.Lists.{all_weaker}
use Rattle.tree_index.specs.declared.node.NodeInfo.{NodeInfo}
use Rattle.origin_flavor.specs.declared.answer.Answer.{Answer}
use Rattle.origin_flavor.specs.Nodes.{numbers_from, is_wanted, wanted_numbers}

push_case : (b last : Bool) (n at : ℕ) (rest : List ℕ) → cond b (n ∷ (rest ++ cond last (at ∷ []) [])) (rest ++ cond last (at ∷ []) []) ≡ cond b (n ∷ rest) rest ++ cond last (at ∷ []) []
push_case true last n at rest = refl
push_case false last n at rest = refl

pub numbers_from-push : (n : ℕ) (test : NodeInfo → Bool) (nodes : List NodeInfo) (node : NodeInfo)
    → numbers_from n test (nodes ++ node ∷ []) ≡ numbers_from n test nodes ++ cond (test node) ((n + length nodes) ∷ []) []
numbers_from-push n test [] node = ap (λ m. cond (test node) (m ∷ []) []) (let e : n ≡ n + 0 = omega arith in e)
numbers_from-push n test (first ∷ nodes) node =
    ap (λ rest. cond (test first) (n ∷ rest) rest) (numbers_from-push (n + 1) test nodes node)
    ∙ push_case (test first) (test node) n (n + 1 + length nodes) (numbers_from (n + 1) test nodes)
    ∙ ap (λ m. numbers_from n test (first ∷ nodes) ++ cond (test node) (m ∷ []) []) (let e : n + 1 + length nodes ≡ n + length (first ∷ nodes) = omega arith in e)

kept_case : (b : Bool) (found : List ℕ) (at : ℕ) → cond b (found ++ at ∷ []) found ≡ found ++ cond b (at ∷ []) []
kept_case true found at = refl
kept_case false found at = sym (append-nil found)

pub numbers_more : (test : NodeInfo → Bool) (b : Bool) (nodes : List NodeInfo) (at : ℕ) (node : NodeInfo) (found more : List ℕ) → at < length nodes → node ≡ get_or nodes at node → test node ≡ b
    → more ≡ cond b (found ++ at ∷ []) found → found ≡ numbers_from 0 test (take at nodes) → more ≡ numbers_from 0 test (take (at + 1) nodes)
numbers_more test b nodes at node found more l e t m so_far =
    let size : at ≡ 0 + length (take at nodes) = omega (arith, length-take at nodes) in
    m ∙ kept_case b found at ∙ ap (λ f. f ++ cond b (at ∷ []) []) so_far ∙ ap (λ c. numbers_from 0 test (take at nodes) ++ cond c (at ∷ []) []) (sym t)
    ∙ ap (λ k. numbers_from 0 test (take at nodes) ++ cond (test node) (k ∷ []) []) size
    ∙ sym (numbers_from-push 0 test (take at nodes) node) ∙ ap (numbers_from 0 test) (sym (taken_more nodes at node l e))

pub numbers_all : (all every : Bool) (answers : List Answer) (nodes : List NodeInfo) (at : ℕ) (found : List ℕ) → length nodes ≤ at → found ≡ numbers_from 0 (is_wanted all every answers) (take at nodes)
    → found ≡ wanted_numbers all every answers nodes
unfolding wanted_numbers
numbers_all all every answers nodes at found l so_far = so_far ∙ ap (numbers_from 0 (is_wanted all every answers)) (take_all at nodes l)

-- their range
within_case : (b : Bool) (n most : ℕ) (rest : List ℕ) → n < most → AllByRecursion (λ k. k < most) rest → AllByRecursion (λ k. k < most) (cond b (n ∷ rest) rest)
within_case true n most rest l a = (l, a)
within_case false n most rest l a = a

within : (n most : ℕ) (test : NodeInfo → Bool) (nodes : List NodeInfo) → n + length nodes ≤ most → AllByRecursion (λ k. k < most) (numbers_from n test nodes)
within n most test [] l = tt
within n most test (node ∷ nodes) l = within_case (test node) n most (numbers_from (n + 1) test nodes) (omega arith) (within (n + 1) most test nodes (omega arith))

pub numbers_within : (test : NodeInfo → Bool) (nodes : List NodeInfo) → AllByRecursion (λ k. k < length nodes) (numbers_from 0 test nodes)
numbers_within test nodes = within 0 (length nodes) test nodes (omega arith)

-- their order
above_case : (b : Bool) (least n : ℕ) (rest : List ℕ) → least ≤ n → AllByRecursion (λ k. least ≤ k) rest → AllByRecursion (λ k. least ≤ k) (cond b (n ∷ rest) rest)
above_case true least n rest l a = (l, a)
above_case false least n rest l a = a

above : (least n : ℕ) (test : NodeInfo → Bool) (nodes : List NodeInfo) → least ≤ n → AllByRecursion (λ k. least ≤ k) (numbers_from n test nodes)
above least n test [] l = tt
above least n test (node ∷ nodes) l = above_case (test node) least n (numbers_from (n + 1) test nodes) l (above least (n + 1) test nodes (omega arith))

is_less : (n k : ℕ) → n + 1 ≤ k → nat_cmp n k ≡ Less
is_less n k l = grind arith

order_case : (b : Bool) (n : ℕ) (rest : List ℕ) → AllByRecursion (λ k. n + 1 ≤ k) rest → IsStrictlySortedBy nat_cmp rest → IsStrictlySortedBy nat_cmp (cond b (n ∷ rest) rest)
unfolding IsStrictlySortedBy
order_case true n rest a o = (all_weaker (λ k. n + 1 ≤ k) (λ k. nat_cmp n k ≡ Less) (is_less n) rest a, o)
order_case false n rest a o = o

pub numbers_order : (n : ℕ) (test : NodeInfo → Bool) (nodes : List NodeInfo) → IsStrictlySortedBy nat_cmp (numbers_from n test nodes)
unfolding IsStrictlySortedBy
numbers_order n test [] = tt
numbers_order n test (node ∷ nodes) = order_case (test node) n (numbers_from (n + 1) test nodes) (above (n + 1) (n + 1) test nodes (omega arith)) (numbers_order (n + 1) test nodes)

-- the same of the wanted nodes
pub wanted_within : (all every : Bool) (answers : List Answer) (nodes : List NodeInfo) → AllByRecursion (λ k. k < length nodes) (wanted_numbers all every answers nodes)
unfolding wanted_numbers
wanted_within all every answers nodes = numbers_within (is_wanted all every answers) nodes

pub wanted_order : (all every : Bool) (answers : List Answer) (nodes : List NodeInfo) → IsStrictlySortedBy nat_cmp (wanted_numbers all every answers nodes)
unfolding wanted_numbers
wanted_order all every answers nodes = numbers_order 0 (is_wanted all every answers) nodes
