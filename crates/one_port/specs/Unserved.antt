-- What a tree may hold that is not served yet (docs/DEFINITIONS.md, "What is not served yet").
use Rattle.std.specs.Prelude.{ℕ, Bool, not, ◌||◌, ◌==◌, List, [], ◌∷◌, length, codes, is_some, Option, Some, None, if◌then◌else◌}
use Rattle.std.specs.Option.{option_or}
use Rattle.std.specs.FinMap.{contains_key}
use Rattle.outside.specs.Contents.{Contents, files_below}
use Rattle.port_desc.specs.declared.description.Desc.{Desc}
use Rattle.tree_index.specs.declared.node.NodeInfo.{NodeInfo}

abbrev pub first_of : List (List ℕ) → Option (List ℕ)
first_of [] = None
first_of (x ∷ xs) = Some x

abbrev pub file_there : Contents → List ℕ → Option (List ℕ)
file_there content path = if contains_key content path then Some path else None

-- the first file that is not served yet: the builder's settings, else the first of the base root
abbrev pub unserved_file : Contents → Option (List ℕ)
unserved_file content = option_or (file_there content (codes "etc/poudriere.conf")) (first_of (files_below (codes "base") content))

-- a node that is not served yet: it depends on ports, or its port says that it is not to be built
abbrev pub is_unserved_desc : Desc → Bool
is_unserved_desc desc = not (length desc.entries == 0) || is_some desc.ignore || is_some desc.forbidden || is_some desc.broken

abbrev pub is_unserved : NodeInfo → Bool
is_unserved node = is_unserved_desc node.desc
