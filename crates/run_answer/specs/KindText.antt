-- What is printed of a fault in a file of the tree or in a distfile, and of a limit
-- (docs/FORMATS.md, "Refusals").
use Rattle.std.specs.Prelude.{ℕ, List, [], ◌∷◌, ◌++◌, codes}
use Rattle.std.specs.List.{flat_map}
use Rattle.port_vars.specs.declared.fault.LineKind.{LineKind}
use Rattle.port_vars.specs.declared.fault.LineKind.TheVariants.{NotText, TooLong, NoOperator, BadName, Reference}
use Rattle.conf_file.specs.declared.fault.ConfKind.{ConfKind}
use Rattle.conf_file.specs.declared.fault.ConfKind.TheVariants as conf
use Rattle.tree_index.specs.declared.fault.PortKind.{PortKind}
use Rattle.tree_index.specs.declared.fault.PortKind.TheVariants.{Line, Undefined, Group, Prevented, BadFlavor, Missing, BadValue, BadDepend, Target, Absent, Reserved, Distinfo, Plist, BadMoved}
use Rattle.dist_files.specs.declared.fault.DistWhy.{DistWhy}
use Rattle.dist_files.specs.declared.fault.DistWhy.TheVariants as dist
use Rattle.bulk_model.specs.declared.which.Which.{Which}
use Rattle.bulk_model.specs.declared.which.Which.TheVariants as limits

-- a line that is outside the grammar of variable files
abbrev pub line_text : LineKind → List ℕ
line_text NotText = codes "not text"
line_text TooLong = codes "too long"
line_text NoOperator = codes "no operator"
line_text BadName = codes "bad name"
line_text Reference = codes "bad reference"

-- a fault in settings
abbrev pub conf_text : ConfKind → List ℕ
conf_text (conf.Line kind) = line_text kind
conf_text conf.Quote = codes "bad quote"
conf_text (conf.Value name) = codes "unknown value of " ++ name

-- names, each behind a space
abbrev pub spaced : List (List ℕ) → List ℕ
spaced names = flat_map (λ name. 32 ∷ name) names

-- the same, or `none` where there is none
abbrev pub spaced_or_none : List (List ℕ) → List ℕ
spaced_or_none [] = codes " none"
spaced_or_none (name ∷ names) = spaced (name ∷ names)

-- a fault in a file of the ports
abbrev pub port_text : PortKind → List ℕ
port_text (Line kind) = line_text kind
port_text (Undefined name) = codes "undefined option " ++ name
port_text (Group group on) = codes "option group " ++ group ++ codes ":" ++ spaced_or_none on
port_text (Prevented a b) = codes "option " ++ a ++ codes " prevents " ++ b
port_text (BadFlavor flavor) = codes "bad flavor " ++ flavor
port_text (Missing name) = codes "missing " ++ name
port_text (BadValue name) = codes "bad value of " ++ name
port_text (BadDepend entry) = codes "bad dependency " ++ entry
port_text (Target entry) = codes "dependency with a target " ++ entry
port_text Absent = codes "absent"
port_text Reserved = codes "reserved path"
port_text Distinfo = codes "bad distinfo"
port_text Plist = codes "bad plist line"
port_text BadMoved = codes "bad line"

-- in what a distfile differs from what its port's list states
abbrev pub dist_text : DistWhy → List ℕ
dist_text dist.Absent = codes "absent"
dist_text (dist.Size stated found) = codes "size"
dist_text (dist.Digest stated found) = codes "digest"

-- a limit's name
abbrev pub limit_name : Which → List ℕ
limit_name limits.FileBytes = codes "FileBytes"
limit_name limits.Options = codes "Options"
limit_name limits.Depends = codes "Depends"
limit_name limits.VarsBytes = codes "VarsBytes"
limit_name limits.Nodes = codes "Nodes"
limit_name limits.PlanNodes = codes "PlanNodes"
limit_name limits.JobBytes = codes "JobBytes"
limit_name limits.DistBytes = codes "DistBytes"
limit_name limits.StoreNames = codes "StoreNames"
limit_name limits.StoreBytes = codes "StoreBytes"
limit_name limits.Generations = codes "Generations"
