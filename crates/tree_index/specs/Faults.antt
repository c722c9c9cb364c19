-- What is wrong with a file of the ports tree, by the fault that its reader gives (docs/FORMATS.md, "The tree folder").
use Rattle.std.specs.Prelude.{ℕ, List}
use Rattle.std.specs.declared.result.Result.{Result}
use Rattle.std.specs.declared.result.Result.TheVariants.{Ok, Err}
use Rattle.outside.specs.declared.outer.Outer.{Outer}
use Rattle.outside.specs.declared.outer.Outer.TheVariants as outer
use Rattle.bulk_model.specs.declared.which.Which.TheVariants as which
use Rattle.port_vars.specs.declared.fault.VarsError.{VarsError}
use Rattle.port_vars.specs.declared.fault.VarsError.TheVariants as vars
use Rattle.option_set.specs.declared.fault.OptionError.{OptionError}
use Rattle.option_set.specs.declared.fault.OptionError.TheVariants as option
use Rattle.port_desc.specs.declared.fault.DescError.{DescError}
use Rattle.port_desc.specs.declared.fault.DescError.TheVariants as desc
use Rattle.moved_list.specs.declared.fault.MovedError.{MovedError}
use Rattle.moved_list.specs.declared.fault.MovedError.TheVariants as moved
use Rattle.tree_index.specs.declared.fault.PortKind.TheVariants.{Line, Undefined, Group, Prevented, BadFlavor, Missing, BadValue, BadDepend, Target, BadMoved}
use Rattle.tree_index.specs.declared.fault.IndexError.{IndexError}
use Rattle.tree_index.specs.declared.fault.IndexError.TheVariants.{TreeFault, BadPort, Limit, NoMemory}

-- a failure of the tree
abbrev pub tree_fault : Outer → IndexError
tree_fault outer.Fault = TreeFault
tree_fault outer.NoMemory = NoMemory

-- a fault of a variable file
abbrev pub vars_fault : List ℕ → VarsError → IndexError
vars_fault path (vars.BadLine line kind) = BadPort path line (Line kind)
vars_fault path vars.NoMemory = NoMemory

-- a refusal of a port's options
abbrev pub option_fault : List ℕ → OptionError → IndexError
option_fault path (option.Undefined name) = BadPort path 0 (Undefined name)
option_fault path (option.Group group on) = BadPort path 0 (Group group on)
option_fault path (option.Prevented a b) = BadPort path 0 (Prevented a b)
option_fault path (option.Limit count) = Limit which.Options count
option_fault path option.NoMemory = NoMemory

-- a refusal of a port's description
abbrev pub desc_fault : List ℕ → DescError → IndexError
desc_fault path (desc.BadFlavor flavor) = BadPort path 0 (BadFlavor flavor)
desc_fault path (desc.Missing name) = BadPort path 0 (Missing name)
desc_fault path (desc.BadValue name) = BadPort path 0 (BadValue name)
desc_fault path (desc.BadDepend entry) = BadPort path 0 (BadDepend entry)
desc_fault path (desc.Target entry) = BadPort path 0 (Target entry)
desc_fault path (desc.Limit count) = Limit which.Depends count
desc_fault path desc.NoMemory = NoMemory

-- a fault of MOVED
abbrev pub moved_fault : List ℕ → MovedError → IndexError
moved_fault path (moved.BadLine line) = BadPort path line BadMoved
moved_fault path moved.NoMemory = NoMemory

-- a result whose refusal is told in another way
abbrev pub refused_as : {A E F : Type 0} → (E → F) → Result A E → Result A F
refused_as told (Ok a) = Ok a
refused_as told (Err e) = Err (told e)
