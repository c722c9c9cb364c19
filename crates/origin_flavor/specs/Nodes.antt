-- The nodes that words mean (Porter's Handbook, "FLAVORS"; docs/FORMATS.md, "Wanted ports").
use Rattle.std.specs.Prelude.{ℕ, ◌+◌, Bool, ◌&&◌, ◌||◌, List, [], ◌∷◌, bytes_eq, if◌then◌else◌}
use Rattle.std.specs.List.{list_any}
use Rattle.tree_index.specs.declared.node.NodeInfo.{NodeInfo}
use Rattle.tree_index.specs.Places.{origin_name}
use Rattle.tree_index.specs.Targets.{is_meant}
use Rattle.origin_flavor.specs.declared.answer.Answer.{Answer}
use Rattle.origin_flavor.specs.Words.{asks_all}

-- all flavors are asked for, by the command or by the word
abbrev pub asks_every : Bool → Answer → Bool
asks_every every_flavor answer = every_flavor || asks_all answer.word

-- a name means a node, with all flavors asked for or not: the name is the node's own, or that of its port, and then the node
-- is the default where not all flavors are asked for
abbrev pub means : Bool → List ℕ → NodeInfo → Bool
means every name node = is_meant name node || (every && bytes_eq name (origin_name node.origin))

-- a node is wanted: all are, or a word means it
abbrev pub is_wanted : Bool → Bool → List Answer → NodeInfo → Bool
is_wanted all every_flavor answers node = all || list_any (λ answer. means (asks_every every_flavor answer) answer.name node) answers

-- the numbers of the nodes that pass a test, where the first has the number n
abbrev pub numbers_from : ℕ → (NodeInfo → Bool) → List NodeInfo → List ℕ
numbers_from n test [] = []
numbers_from n test (node ∷ nodes) = if test node then n ∷ numbers_from (n + 1) test nodes else numbers_from (n + 1) test nodes

-- the numbers of the wanted nodes
unfoldable pub wanted_numbers : Bool → Bool → List Answer → List NodeInfo → List ℕ
wanted_numbers all every_flavor answers nodes = numbers_from 0 (is_wanted all every_flavor answers) nodes
