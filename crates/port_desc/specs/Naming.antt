-- The name of a port's package, by the port's variables (Porter's Handbook, "Naming"; docs/FORMATS.md).
use Rattle.std.specs.Prelude.{ℕ, not, is_some, List, [], ◌∷◌, codes, find}
use Rattle.std.specs.declared.option.Option.{Option}
use Rattle.std.specs.declared.option.Option.TheVariants.{None, Some}
use Rattle.std.specs.Option.{unwrap_or}
use Rattle.std.specs.declared.result.Result.{Result}
use Rattle.std.specs.declared.result.Result.TheVariants.{Ok, Err}
use Rattle.port_vars.specs.Reference.{Values}
use Rattle.port_name.specs.declared.fault.NamePart.{NamePart}
use Rattle.port_name.specs.declared.fault.NamePart.TheVariants.{Origin, Flavor, Prefix, Portname, Suffix, Version, Revision, Epoch}
use Rattle.port_name.specs.declared.package.NameParts.{NameParts}
use Rattle.port_name.specs.Package.{name_of, first_fault}
use Rattle.port_desc.specs.declared.fault.DescError.{DescError}
use Rattle.port_desc.specs.declared.fault.DescError.TheVariants.{Missing, BadValue}
use Rattle.port_desc.specs.Values.{value_of, value_for}

-- the variables that every port has to set, in the order in which they are missed
abbrev pub required : List (List ℕ)
required = codes "PORTNAME" ∷ codes "PORTVERSION" ∷ []

-- the first of them that is not set
unfoldable pub missing : Values → Option (List ℕ)
missing values = find (λ name. not (is_some (value_of values name))) required

-- the parts of the package's name for a flavor
unfoldable pub parts_for : Values → Option (List ℕ) → NameParts
parts_for values flavor = record {
  prefix = unwrap_or (value_for values flavor (codes "PKGNAMEPREFIX")) [];
  portname = unwrap_or (value_of values (codes "PORTNAME")) [];
  suffix = unwrap_or (value_for values flavor (codes "PKGNAMESUFFIX")) [];
  version = unwrap_or (value_of values (codes "PORTVERSION")) [];
  revision = value_of values (codes "PORTREVISION");
  epoch = value_of values (codes "PORTEPOCH");
}

-- the variable that a part is the value of, also where a flavor's helper stands for it; a package's name has neither an
-- origin nor a flavor
abbrev pub variable_of : NamePart → List ℕ
variable_of Origin = codes "PORTNAME"
variable_of Flavor = codes "PORTNAME"
variable_of Prefix = codes "PKGNAMEPREFIX"
variable_of Portname = codes "PORTNAME"
variable_of Suffix = codes "PKGNAMESUFFIX"
variable_of Version = codes "PORTVERSION"
variable_of Revision = codes "PORTREVISION"
variable_of Epoch = codes "PORTEPOCH"

-- the name that parts make, or the variable of the first part that is at fault
abbrev pub named : NameParts → Result (List ℕ) DescError
named parts = elim (first_fault parts) [
  | None ↦ Ok (name_of parts)
  | Some part ↦ Err (BadValue (variable_of part))
]

-- the name of the package for a flavor, or the first refusal
unfoldable pub name_for : Values → Option (List ℕ) → Result (List ℕ) DescError
name_for values flavor = elim (missing values) [
  | None ↦ named (parts_for values flavor)
  | Some name ↦ Err (Missing name)
]
