-- Where the files of a ports tree stand (docs/FORMATS.md, "The tree folder").
use Rattle.std.specs.Prelude.{ℕ, List, ◌++◌, codes}
use Rattle.bulk_base.specs.Path.{joined}
use Rattle.bulk_base.specs.Names.{origin_of}
use Rattle.port_name.specs.declared.place.Origin.{Origin}

-- the file that lists the categories
abbrev pub categories_file : List ℕ
categories_file = codes "ports/subdir.vars"

-- the list of moved ports
abbrev pub moved_file : List ℕ
moved_file = codes "ports/MOVED"

abbrev pub category_folder : List ℕ → List ℕ
category_folder category = joined (codes "ports") category

-- the file that lists a category's ports
abbrev pub ports_file : List ℕ → List ℕ
ports_file category = joined (category_folder category) (codes "subdir.vars")

abbrev pub port_folder : Origin → List ℕ
port_folder origin = joined (category_folder origin.category) origin.port

-- a port's description
abbrev pub port_file : Origin → List ℕ
port_file origin = joined (port_folder origin) (codes "port.vars")

-- the list of a port's distfiles
abbrev pub distinfo_file : Origin → List ℕ
distinfo_file origin = joined (port_folder origin) (codes "distinfo")

-- the list of what a port's package holds
abbrev pub plist_file : Origin → List ℕ
plist_file origin = joined (port_folder origin) (codes "pkg-plist")

-- the folder of a port's files
abbrev pub files_folder : Origin → List ℕ
files_folder origin = joined (port_folder origin) (codes "files")

-- a port's options file
abbrev pub options_file : Origin → List ℕ
options_file origin = joined (joined (codes "etc/options") ((origin.category ++ codes "_") ++ origin.port)) (codes "options")

-- an origin as a name
abbrev pub origin_name : Origin → List ℕ
origin_name origin = origin_of origin.category origin.port
