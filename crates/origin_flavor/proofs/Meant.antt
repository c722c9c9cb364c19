-- A node is meant by a word just where one of the names that words mean is its own or its port's.
use Rattle.std.proofs.Common.{◌≡◌, ℕ, ◌+◌, ◌<◌, Bool, true, false, List, [], ◌∷◌, ◌++◌, length, get_or, take, cond, arith, ◌∙◌, ap, sym, refl}
use Rattle.std.specs.Prelude.{◌&&◌, ◌||◌, map, filter, bytes_eq}
use Rattle.std.specs.List.{list_any}
use Rattle.std.specs.Cmp.Lexicographic.{nat_list_eq_equiv}
use Rattle.std.proofs.lemmas.List.{map-append, append-nil}
use Rattle.std.proofs.lemmas.List.Elements.{filter-append}
use Rattle.port_name.specs.Sets.{is_among}
use Rattle.port_desc.proofs.Turns.{taken_more}
use Rattle.tree_index.specs.declared.node.NodeInfo.{NodeInfo}
use Rattle.tree_index.specs.Places.{origin_name}
use Rattle.origin_flavor.specs.declared.answer.Answer.{Answer}
use Rattle.origin_flavor.specs.Nodes.{asks_every, means}

-- the names that words mean, and those of the words that ask for all flavors
abbrev pub ends : List Answer → List (List ℕ)
ends answers = map (λ answer. answer.name) answers

abbrev pub ends_with_flavors : Bool → List Answer → List (List ℕ)
ends_with_flavors every answers = ends (filter (asks_every every) answers)

-- what the look-ups say of a node
abbrev pub found_for : List (List ℕ) → List (List ℕ) → NodeInfo → Bool
found_for names flavors node = is_among names node.node || ((node.is_default && is_among names (origin_name node.origin)) || is_among flavors (origin_name node.origin))

spread : (own port default asks a b c : Bool) → ((own || a) || ((default && (port || b)) || ((asks && port) || c))) ≡ (((own || (default && port)) || (asks && port)) || (a || ((default && b) || c)))
spread own port default asks a b c = grind arith

among_if : (asks : Bool) (x : List ℕ) (xs : List (List ℕ)) (name : List ℕ) → is_among (cond asks (x ∷ xs) xs) name ≡ ((asks && bytes_eq name x) || is_among xs name)
among_if true x xs name = refl
among_if false x xs name = refl

ends_if : (asks : Bool) (answer : Answer) (answers : List Answer) → ends (cond asks (answer ∷ answers) answers) ≡ cond asks (answer.name ∷ ends answers) (ends answers)
ends_if true answer answers = refl
ends_if false answer answers = refl

abbrev means_it : Bool → NodeInfo → Answer → Bool
means_it every node answer = means (asks_every every answer) (answer.name) node

abbrev turned : List ℕ → List ℕ → Type 0
turned a b = bytes_eq a b ≡ bytes_eq b a

turn : (a b : List ℕ) → turned a b
turn a b = nat_list_eq_equiv.symm a b

pub found_just_where_meant : (every : Bool) (node : NodeInfo) (answers : List Answer) → found_for (ends answers) (ends_with_flavors every answers) node ≡ list_any (means_it every node) answers
found_just_where_meant every node [] = grind arith
found_just_where_meant every node (answer ∷ answers) =
    let origin = origin_name node.origin in
    let asks = asks_every every answer in
    let x = answer.name in
    let names = ends answers in
    let flavors = ends_with_flavors every answers in
    ap (λ f. (bytes_eq node.node x || is_among names node.node) || ((node.is_default && (bytes_eq origin x || is_among names origin)) || is_among f origin)) (ends_if asks answer (filter (asks_every every) answers))
    ∙ ap (λ f. (bytes_eq node.node x || is_among names node.node) || ((node.is_default && (bytes_eq origin x || is_among names origin)) || f)) (among_if asks x flavors origin)
    ∙ spread (bytes_eq node.node x) (bytes_eq origin x) node.is_default asks (is_among names node.node) (is_among names origin) (is_among flavors origin)
    ∙ ap (λ own. ((own || (node.is_default && bytes_eq origin x)) || (asks && bytes_eq origin x)) || found_for names flavors node) (turn node.node x)
    ∙ ap (λ port. ((bytes_eq x node.node || (node.is_default && port)) || (asks && port)) || found_for names flavors node) (turn origin x)
    ∙ ap (λ rest. means_it every node answer || rest) (found_just_where_meant every node answers)

-- sets that hold these names say the same
pub found_in_sets : (names flavors : List (List ℕ)) (every : Bool) (answers : List Answer) (node : NodeInfo) → ((name : List ℕ) → is_among names name ≡ is_among (ends answers) name)
    → ((name : List ℕ) → is_among flavors name ≡ is_among (ends_with_flavors every answers) name) → found_for names flavors node ≡ list_any (means_it every node) answers
found_in_sets names flavors every answers node n f =
    let origin = origin_name node.origin in
    ap (λ b. b || ((node.is_default && is_among names origin) || is_among flavors origin)) (n node.node)
    ∙ ap (λ b. is_among (ends answers) node.node || ((node.is_default && b) || is_among flavors origin)) (n origin)
    ∙ ap (λ b. is_among (ends answers) node.node || ((node.is_default && is_among (ends answers) origin) || b)) (f origin)
    ∙ found_just_where_meant every node answers

-- the loops that find the names
pub ends_more : (answers : List Answer) (at : ℕ) (answer : Answer) (found more : List (List ℕ)) → at < length answers → answer ≡ get_or answers at answer
    → more ≡ found ++ answer.name ∷ [] → found ≡ ends (take at answers) → more ≡ ends (take (at + 1) answers)
ends_more answers at answer found more l e m so_far =
    m ∙ ap (λ f. f ++ answer.name ∷ []) so_far ∙ sym (map-append (λ (a : Answer). a.name) (take at answers) (answer ∷ [])) ∙ ap ends (sym (taken_more answers at answer l e))

kept_case : (every asks : Bool) (before : List Answer) (answer : Answer) → asks_every every answer ≡ asks
    → ends_with_flavors every (before ++ answer ∷ []) ≡ cond asks (ends_with_flavors every before ++ answer.name ∷ []) (ends_with_flavors every before)
kept_case every true before answer a =
    ap ends (filter-append (asks_every every) before (answer ∷ []) ∙ ap (λ b. filter (asks_every every) before ++ cond b (answer ∷ []) []) a)
    ∙ map-append (λ (a : Answer). a.name) (filter (asks_every every) before) (answer ∷ [])
kept_case every false before answer a =
    ap ends (filter-append (asks_every every) before (answer ∷ []) ∙ ap (λ b. filter (asks_every every) before ++ cond b (answer ∷ []) []) a ∙ append-nil (filter (asks_every every) before))

pub flavors_more : (every asks : Bool) (answers : List Answer) (at : ℕ) (answer : Answer) (found more : List (List ℕ)) → at < length answers → answer ≡ get_or answers at answer → asks_every every answer ≡ asks
    → more ≡ cond asks (found ++ answer.name ∷ []) found → found ≡ ends_with_flavors every (take at answers) → more ≡ ends_with_flavors every (take (at + 1) answers)
flavors_more every asks answers at answer found more l e a m so_far =
    m ∙ ap (λ f. cond asks (f ++ answer.name ∷ []) f) so_far ∙ sym (kept_case every asks (take at answers) answer a)
    ∙ ap (ends_with_flavors every) (sym (taken_more answers at answer l e))
