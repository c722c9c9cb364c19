-- The name of a port's package (Porter's Handbook, "Naming"; docs/FORMATS.md).
use Rattle.std.specs.Prelude.{ℕ, Bool, true, not, nat_le, List, ◌++◌, length, if◌then◌else◌}
use Rattle.std.specs.declared.option.Option.{Option}
use Rattle.std.specs.declared.option.Option.TheVariants.{None, Some}
use Rattle.std.specs.Option.{option_and_then, option_map_or}
use Rattle.bulk_base.specs.Names.{is_port_name, is_version, package_name}
use Rattle.port_name.specs.declared.fault.NamePart.{NamePart}
use Rattle.port_name.specs.declared.fault.NamePart.TheVariants.{Prefix, Portname, Suffix, Version, Revision, Epoch}
use Rattle.port_name.specs.declared.package.NameParts.{NameParts}
use Rattle.port_name.specs.Forms.{is_affix, is_zero, is_counter}

-- a revision or an epoch as the name shows it: only where it is set and not 0
abbrev pub shown : Option (List ℕ) → Option (List ℕ)
shown number = option_and_then (λ text. if is_zero text then None else Some text) number

-- the package's name
abbrev pub name_of : NameParts → List ℕ
name_of parts = package_name (parts.prefix ++ parts.portname ++ parts.suffix) parts.version (shown parts.revision) (shown parts.epoch)

-- in form where it is set
abbrev pub is_optional_counter : Option (List ℕ) → Bool
is_optional_counter number = option_map_or is_counter number true

-- the first part that is outside its form
abbrev pub bad_part : NameParts → Option NamePart
bad_part parts =
    if not (is_affix parts.prefix) then Some Prefix
    else (if not (is_port_name parts.portname) then Some Portname
    else (if not (is_affix parts.suffix) then Some Suffix
    else (if not (is_version parts.version) then Some Version
    else (if not (is_optional_counter parts.revision) then Some Revision
    else (if not (is_optional_counter parts.epoch) then Some Epoch
    else None)))))

-- the part that the whole name blames: PORTNAME where it has more than 200 bytes
abbrev pub bad_whole : NameParts → Option NamePart
bad_whole parts = if nat_le (length (name_of parts)) 200 then None else Some Portname

-- the first of these
abbrev pub first_fault : NameParts → Option NamePart
first_fault parts = elim (bad_part parts) [
  | Some part ↦ Some part
  | None ↦ bad_whole parts
]
