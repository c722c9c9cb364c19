-- The catalogue of packages (docs/FORMATS.md, "The catalogue"), as the compact JSON text of values.
use Rattle.std.specs.Prelude.{ℕ, List, [], ◌∷◌, length, map, codes, unwrap_or}
use Rattle.std.specs.List.{flat_map, fold}
use Rattle.std.specs.FinMap as finite
use Rattle.bulk_base.specs.Order.{in_order}
use Rattle.bulk_base.specs.declared.file.Switch.{Switch}
use Rattle.bulk_model.specs.Digests.{digest_of, hex}
use Rattle.bulk_model.specs.Lines.{line}
use Rattle.bulk_model.specs.Spelling.{spelling}
use Rattle.bulk_model.specs.Views.{PackageView}
use Rattle.outside.specs.Contents.{Contents}
use Rattle.serde_json.specs.Data.{Data, Items, Members, unsigned, boolean, number, string, array, object, no_members, put}
use Rattle.serde_json.specs.View.{items_of}
use Rattle.serde_json.specs.Written.{compact_text}

abbrev pub strings : List (List ℕ) → Items
strings texts = items_of (map string texts)

-- an object with the state of each option under its name
abbrev pub with_options : List Switch → Members → Members
with_options [] members = members
with_options (option ∷ options) members =
    with_options options (put option.name (boolean option.on) members)

-- the packages that a package records, each once in byte order
abbrev pub depend_names : PackageView → List (List ℕ)
depend_names p = in_order (map (λ depend. depend.name) p.depends)

-- an object has its keys in byte order
unfoldable pub entry_by : PackageView → Items → Members → List ℕ → ℕ → Data
entry_by p depends options sha256 size =
    object (put (codes "size") (number (unsigned size))
    (put (codes "sha256") (string sha256)
    (put (codes "origin") (string p.origin)
    (put (codes "options") (object options)
    (put (codes "name") (string p.name)
    (put (codes "flavor") (string (unwrap_or p.flavor []))
    (put (codes "files") (number (unsigned (length p.files)))
    (put (codes "depends") (array depends) no_members))))))))

-- what is told of a package, with the digest and the size of its whole record
unfoldable pub entry : PackageView → Data
entry p =
    entry_by p (strings (depend_names p)) (with_options p.options no_members)
    (hex (digest_of (spelling p))) (length (spelling p))

unfoldable pub entry_line : PackageView → List ℕ
entry_line p = line (compact_text (entry p))

-- the line of each package by its name; of equal names the last counts
abbrev pub lines_of : List PackageView → Contents
lines_of packages =
    fold (λ lines p. finite.insert lines p.name (entry_line p)) finite.empty packages

-- the lines in the byte order of the packages' names
abbrev pub cat : List PackageView → List ℕ
cat packages =
    flat_map (λ name. unwrap_or (finite.get (lines_of packages) name) [])
    (finite.keys (lines_of packages))
