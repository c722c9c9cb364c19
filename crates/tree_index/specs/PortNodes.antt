-- The nodes of one port (docs/FORMATS.md, "The tree folder", "A port's description", "Options").
use Rattle.std.specs.Prelude.{ℕ, Bool, true, false, List, [], ◌∷◌, map, if◌then◌else◌}
use Rattle.std.specs.declared.option.Option.{Option}
use Rattle.std.specs.declared.option.Option.TheVariants.{None, Some}
use Rattle.std.specs.Option.{option_or}
use Rattle.std.specs.declared.result.Result.{Result}
use Rattle.std.specs.declared.result.Result.TheVariants.{Ok, Err}
use Rattle.std.specs.FinMap.{get}
use Rattle.bulk_base.specs.Names.{node_of}
use Rattle.bulk_base.specs.declared.file.Switch.{Switch}
use Rattle.outside.specs.Contents.{Contents}
use Rattle.port_vars.specs.Variables.{Vars}
use Rattle.port_vars.specs.Assignment.{◌>>=◌}
use Rattle.port_name.specs.declared.place.Origin.{Origin}
use Rattle.option_set.specs.Chosen.{chosen}
use Rattle.conf_file.specs.Make.{layers_of}
use Rattle.conf_file.specs.declared.make.MakeConf.{MakeConf}
use Rattle.port_desc.specs.declared.description.Desc.{Desc}
use Rattle.port_desc.specs.declared.fault.DescError.{DescError}
use Rattle.port_desc.specs.declared.fault.DescError.TheVariants.{Missing}
use Rattle.port_desc.specs.Naming.{missing}
use Rattle.port_desc.specs.Flavors.{flavors_of}
use Rattle.port_desc.specs.Description.{described}
use Rattle.tree_index.specs.declared.fault.IndexError.{IndexError}
use Rattle.tree_index.specs.declared.node.NodeInfo.{NodeInfo}
use Rattle.tree_index.specs.Places.{origin_name, port_file, options_file}
use Rattle.tree_index.specs.Faults.{desc_fault, option_fault, refused_as}
use Rattle.tree_index.specs.VarFiles.{vars_at, vars_if_there}

-- why a node is not built: by IGNORE, else by FORBIDDEN, else by BROKEN where broken ports are not tried
abbrev pub ignored_by : Bool → Desc → Option (List ℕ)
ignored_by try_broken desc = option_or desc.ignore (option_or desc.forbidden (if try_broken then None else desc.broken))

-- a node of a port, before it is known where its dependencies lead
abbrev pub node_with : Bool → Origin → Option (List ℕ) → Bool → List Switch → Desc → NodeInfo
node_with try_broken origin flavor is_default options desc = record {
  node = node_of (origin_name origin) flavor;
  origin = origin;
  flavor = flavor;
  is_default = is_default;
  desc = desc;
  options = options;
  ignored = ignored_by try_broken desc;
  targets = [];
}

-- a flavor that is not the default
abbrev pub other_flavor : List ℕ → Option (List ℕ) × Bool
other_flavor flavor = (Some flavor, false)

-- a port's flavors, each with whether it is the default; a port without flavors has one node, which is its default
abbrev pub with_default : List (List ℕ) → List (Option (List ℕ) × Bool)
with_default [] = (None, true) ∷ []
with_default (first ∷ more) = (Some first, true) ∷ map other_flavor more

-- the nodes for some flavors, or the first refusal: all checks of one flavor come before those of the next
abbrev pub nodes_for : Bool → Origin → Vars → List Switch → List (Option (List ℕ) × Bool) → Result (List NodeInfo) DescError
nodes_for try_broken origin vars options [] = Ok []
nodes_for try_broken origin vars options (flavor ∷ more) = do
  desc ← described (get vars) flavor.0 options
  nodes ← nodes_for try_broken origin vars options more
  Ok (node_with try_broken origin flavor.0 flavor.1 options desc ∷ nodes)

-- the flavors of a port that has its required variables
abbrev pub checked_flavors : Vars → Result (List (List ℕ)) DescError
checked_flavors vars = elim (missing (get vars)) [
  | None ↦ flavors_of (get vars)
  | Some name ↦ Err (Missing name)
]

-- the nodes of a port by its options file's variables and its own
abbrev pub nodes_by : MakeConf → Bool → Origin → Vars → Vars → Result (List NodeInfo) IndexError
nodes_by make try_broken origin file vars = do
  flavors ← refused_as (desc_fault (port_file origin)) (checked_flavors vars)
  options ← refused_as (option_fault (port_file origin)) (chosen vars (layers_of make.vars origin file))
  refused_as (desc_fault (port_file origin)) (nodes_for try_broken origin vars options (with_default flavors))

-- the nodes of a port, the default first, or the port's first refusal
unfoldable pub port_nodes : MakeConf → Bool → Contents → Origin → Result (List NodeInfo) IndexError
port_nodes make try_broken content origin = do
  file ← vars_if_there content (options_file origin)
  vars ← vars_at content (port_file origin)
  nodes_by make try_broken origin file vars
