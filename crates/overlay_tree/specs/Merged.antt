-- What a ports tree holds with overlays over it (docs/FORMATS.md).
use Rattle.std.specs.Prelude.{ℕ, Bool, List, [], ◌∷◌, ◌++◌, map, Option, Some, None, if◌then◌else◌}
use Rattle.std.specs.Option.{option_map}
use Rattle.std.specs.List.{list_any, filter_map, fold}
use Rattle.std.specs.FinMap as finite
use Rattle.std.specs.FinMap.{get, keys, from_entries}
use Rattle.bulk_base.specs.Order.{in_order}
use Rattle.bulk_base.specs.Path.{is_below}
use Rattle.outside.specs.Contents.{Contents}
use Rattle.overlay_tree.specs.Places.{port_of, is_in_base, is_joined, is_port_file}

-- one piece behind others, a line feed between
abbrev pub with_piece : Option (List ℕ) → List ℕ → Option (List ℕ)
with_piece None piece = Some piece
with_piece (Some pieces) piece = Some (pieces ++ 10 ∷ piece)

-- a file in all contents that have it, one behind the other
abbrev pub joined_file : List Contents → List ℕ → Option (List ℕ)
joined_file contents path = fold with_piece None (filter_map (λ content. get content path) contents)

-- the content has a file below a folder
abbrev pub has_below : List ℕ → Contents → Bool
has_below folder content = list_any (is_below folder) (keys content)

-- a file of the last content that has any file below the port's folder
abbrev pub last_file : List ℕ → List Contents → List ℕ → Option (List ℕ)
last_file port [] path = None
last_file port (content ∷ later) path = if list_any (has_below port) later then last_file port later path else get content path

-- a file of the tree, of which these are the contents, the base's first
abbrev pub merged_file : Contents → List Contents → List ℕ → Option (List ℕ)
merged_file base overlays path =
    if is_in_base path then get base path
    else if is_joined path then joined_file (base ∷ overlays) path
    else if is_port_file path then last_file (port_of path) (base ∷ overlays) path
    else None

abbrev pub every_path : List Contents → List (List ℕ)
every_path [] = []
every_path (content ∷ contents) = keys content ++ every_path contents

abbrev pub entry : (List ℕ → Option (List ℕ)) → List ℕ → Option (List ℕ × List ℕ)
entry file path = option_map (λ bytes. (path, bytes)) (file path)

-- the content with these files, of which only those are there that some path names
abbrev pub tabulated : (List ℕ → Option (List ℕ)) → List (List ℕ) → Contents
tabulated file paths = from_entries (filter_map (entry file) (in_order paths))

-- overlays over a base; without overlays it is as it was
unfoldable pub merged : List Contents → Contents
merged [] = finite.empty
merged (base ∷ []) = base
merged (base ∷ next ∷ more) = tabulated (merged_file base (next ∷ more)) (every_path (base ∷ next ∷ more))
