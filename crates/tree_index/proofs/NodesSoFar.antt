-- The steps by which flavors give nodes.
use Rattle.std.proofs.Common.{◌≡◌, ℕ, ◌+◌, ◌<◌, ◌≤◌, Bool, true, List, [], ◌∷◌, ◌++◌, length, get_or, drop, ap, sym, ◌∙◌, refl, Ok, Err, Result, Option, Some}
use Rattle.std.specs.Prelude.{map, slice_get}
use Rattle.std.specs.FinMap as finite
use Rattle.std.proofs.lemmas.List.{drop_all, append_assoc, append-nil}
use Rattle.bulk_base.specs.declared.file.Switch.{Switch}
use Rattle.port_vars.specs.Variables.{Vars}
use Rattle.port_vars.specs.Assignment.{mapped, ◌>>=◌}
use Rattle.port_name.specs.declared.place.Origin.{Origin}
use Rattle.port_desc.specs.declared.fault.DescError.{DescError}
use Rattle.port_desc.specs.declared.description.Desc.{Desc}
use Rattle.port_desc.specs.Description.{described}
use Rattle.port_desc.proofs.Turns.{left_more}
use Rattle.port_desc.proofs.Refused.{ok_then, err_then, same_ok, no_err, mapped-mapped, mapped_alike, then_ok}
use Rattle.tree_index.specs.declared.node.NodeInfo.{NodeInfo}
use Rattle.tree_index.specs.PortNodes.{node_with, other_flavor, with_default, nodes_for}

-- the first flavor is the default, the others are not
pub all_flavors : (flavors others : List (List ℕ)) (first : Option (List ℕ)) → first ≡ slice_get flavors 0 → others ≡ drop 1 flavors → with_default flavors ≡ (first, true) ∷ map other_flavor others
all_flavors [] others first f o = cc
all_flavors (flavor ∷ more) others first f o = cc

mapped_parts : {A B E : Type 0} (f : A → B) (r : Result A E) (b : B) → mapped f r ≡ Ok b → (a : A) × (r ≡ Ok a) × (f a ≡ b)
mapped_parts f (Ok a) b h = (a, refl, same_ok (f a) b h)
mapped_parts f (Err e) b h = absurd (no_err e b h)

fault_of_mapped : {A B E : Type 0} (f : A → B) (r : Result A E) (e : E) → mapped f r ≡ Err e → r ≡ Err e
fault_of_mapped f (Ok a) e h = cc
fault_of_mapped f (Err d) e h = cc

module _ (try_broken : Bool) (origin : Origin) (vars : Vars) (options : List Switch) where
  abbrev nodes_from : List (Option (List ℕ) × Bool) → Result (List NodeInfo) DescError
  nodes_from flavors = nodes_for try_broken origin vars options flavors

  abbrev desc_of : Option (List ℕ) → Result Desc DescError
  desc_of flavor = described (finite.get vars) flavor options

  abbrev node_of : Option (List ℕ) → Bool → Desc → NodeInfo
  node_of flavor is_default desc = node_with try_broken origin flavor is_default options desc

  -- one node, and the others behind it
  pub node_next : (flavor : Option (List ℕ)) (is_default : Bool) (node : NodeInfo) (more : List (Option (List ℕ) × Bool)) → mapped (node_of flavor is_default) (desc_of flavor) ≡ Ok node
      → nodes_from ((flavor, is_default) ∷ more) ≡ mapped (λ nodes. node ∷ nodes) (nodes_from more)
  node_next flavor is_default node more h =
      let one = mapped_parts (node_of flavor is_default) (desc_of flavor) node h in
      ok_then (desc_of flavor) (λ desc. nodes_from more >>= λ nodes. Ok (node_of flavor is_default desc ∷ nodes)) one.0 one.1
      ∙ then_ok (nodes_from more) (λ nodes. node_of flavor is_default one.0 ∷ nodes)
      ∙ ap (λ n. mapped (λ nodes. n ∷ nodes) (nodes_from more)) one.2

  -- one node's refusal
  pub node_refused : (flavor : Option (List ℕ)) (is_default : Bool) (more : List (Option (List ℕ) × Bool)) (e : DescError) → desc_of flavor ≡ Err e → nodes_from ((flavor, is_default) ∷ more) ≡ Err e
  node_refused flavor is_default more e h = err_then (desc_of flavor) (λ desc. nodes_from more >>= λ nodes. Ok (node_of flavor is_default desc ∷ nodes)) e h

  -- nodes behind some that are known
  abbrev behind : List NodeInfo → Result (List NodeInfo) DescError → Result (List NodeInfo) DescError
  behind found r = mapped (λ more. found ++ more) r

  -- the nodes so far, with those of the flavors that are left, are the default and those of all flavors
  abbrev pub NodesSoFar : NodeInfo → List (List ℕ) → List NodeInfo → ℕ → Type 0
  NodesSoFar default others found at = behind found (nodes_from (map other_flavor (drop at others))) ≡ behind (default ∷ []) (nodes_from (map other_flavor others))

  pub nodes_begin : (default : NodeInfo) (others : List (List ℕ)) (found : List NodeInfo) → found ≡ default ∷ [] → NodesSoFar default others found 0
  nodes_begin default others found e = ap (λ f. behind f (nodes_from (map other_flavor others))) e

  pub nodes_more : (default : NodeInfo) (others : List (List ℕ)) (found longer : List NodeInfo) (at : ℕ) (flavor : List ℕ) (node : NodeInfo) → at < length others → flavor ≡ get_or others at flavor
      → mapped (node_of (Some flavor) (other_flavor flavor).1) (desc_of (Some flavor)) ≡ Ok node → longer ≡ found ++ node ∷ [] → NodesSoFar default others found at → NodesSoFar default others longer (at + 1)
  nodes_more default others found longer at flavor node l e h m so_far =
      let rest : Result (List NodeInfo) DescError = nodes_from (map other_flavor (drop (at + 1) others)) in
      ap (λ f. behind f rest) m
      ∙ mapped_alike (λ ns. (found ++ node ∷ []) ++ ns) (λ ns. found ++ node ∷ ns) rest (λ ns. append_assoc found (node ∷ []) ns)
      ∙ sym (mapped-mapped (λ ns. found ++ ns) (λ ns. node ∷ ns) rest)
      ∙ ap (behind found) (sym (node_next (Some flavor) (other_flavor flavor).1 node (map other_flavor (drop (at + 1) others)) h) ∙ ap (λ left. nodes_from (map other_flavor left)) (sym (left_more others at flavor l e)))
      ∙ so_far

  pub nodes_refused : (default : NodeInfo) (others : List (List ℕ)) (found : List NodeInfo) (at : ℕ) (flavor : List ℕ) (e : DescError) → at < length others → flavor ≡ get_or others at flavor
      → desc_of (Some flavor) ≡ Err e → NodesSoFar default others found at → nodes_from (map other_flavor others) ≡ Err e
  nodes_refused default others found at flavor e l is h so_far =
      fault_of_mapped (λ more. default ∷ more) (nodes_from (map other_flavor others)) e
      (sym so_far ∙ ap (behind found) (ap (λ left. nodes_from (map other_flavor left)) (left_more others at flavor l is) ∙ node_refused (Some flavor) (other_flavor flavor).1 (map other_flavor (drop (at + 1) others)) e h))

  pub nodes_end : (default : NodeInfo) (others : List (List ℕ)) (found : List NodeInfo) (at : ℕ) → length others ≤ at → NodesSoFar default others found at
      → mapped (λ more. default ∷ more) (nodes_from (map other_flavor others)) ≡ Ok found
  nodes_end default others found at l so_far =
      sym so_far ∙ ap (λ left. behind found (nodes_from (map other_flavor left))) (drop_all at others l) ∙ ap Ok (append-nil found)
