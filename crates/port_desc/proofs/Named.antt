-- The name of a port's package, step by step.
use Rattle.std.proofs.Common.{◌≡◌, ℕ, List, [], ap, Ok, Err, Option, Some, None, Result}
use Rattle.port_vars.specs.Reference.{Values}
use Rattle.port_name.specs.declared.fault.NamePart.{NamePart}
use Rattle.port_name.specs.declared.package.NameParts.{NameParts}
use Rattle.port_name.specs.Package.{name_of, first_fault}
use Rattle.port_desc.specs.declared.fault.DescError.{DescError}
use Rattle.port_desc.specs.declared.fault.DescError.TheVariants.{Missing, BadValue}
use Rattle.std.specs.Prelude.{codes, unwrap_or}
use Rattle.port_desc.specs.Values.{value_of, value_for}
use Rattle.port_desc.specs.Naming.{missing, parts_for, variable_of, named, name_for}

abbrev by_fault : NameParts → Option NamePart → Result (List ℕ) DescError
by_fault parts fault = elim fault [
  | None ↦ Ok (name_of parts)
  | Some part ↦ Err (BadValue (variable_of part))
]

pub named_fault : (parts : NameParts) (part : NamePart) → first_fault parts ≡ Some part → named parts ≡ Err (BadValue (variable_of part))
named_fault parts part h = ap (by_fault parts) h

abbrev by_missing : Values → Option (List ℕ) → Option (List ℕ) → Result (List ℕ) DescError
by_missing values flavor name = elim name [
  | None ↦ named (parts_for values flavor)
  | Some name ↦ Err (Missing name)
]

pub name_missing : (values : Values) (flavor : Option (List ℕ)) (name : List ℕ) → missing values ≡ Some name → name_for values flavor ≡ Err (Missing name)
unfolding name_for
name_missing values flavor name h = ap (by_missing values flavor) h

pub name_known : (values : Values) (flavor : Option (List ℕ)) → missing values ≡ None → name_for values flavor ≡ named (parts_for values flavor)
unfolding name_for
name_known values flavor h = ap (by_missing values flavor) h

pub parts_are : (values : Values) (flavor : Option (List ℕ)) (prefix portname suffix version : List ℕ) (revision epoch : Option (List ℕ))
    → prefix ≡ unwrap_or (value_for values flavor (codes "PKGNAMEPREFIX")) [] → portname ≡ unwrap_or (value_of values (codes "PORTNAME")) []
    → suffix ≡ unwrap_or (value_for values flavor (codes "PKGNAMESUFFIX")) [] → version ≡ unwrap_or (value_of values (codes "PORTVERSION")) []
    → revision ≡ value_of values (codes "PORTREVISION") → epoch ≡ value_of values (codes "PORTEPOCH")
    → (let parts : NameParts = record { prefix = prefix; portname = portname; suffix = suffix; version = version; revision = revision; epoch = epoch } in parts) ≡ parts_for values flavor
unfolding parts_for
parts_are values flavor prefix portname suffix version revision epoch a b c d e f = cc
