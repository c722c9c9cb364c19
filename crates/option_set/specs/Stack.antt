-- The layers as sets of names.
use Rattle.std.specs.Prelude.{ℕ, Bool, List, map}
use Rattle.bulk_base.specs.declared.file.Switch.{Switch}
use Rattle.port_name.specs.Sets.{is_among}
use Rattle.option_set.specs.declared.stack.Stack.{Stack}
use Rattle.option_set.specs.Layers.{layered}

-- a name after the layers
abbrev pub on_in : Stack → List ℕ → Bool
on_in s name = layered s.file.set s.file.unset (layered s.port.set s.port.unset (layered s.global.set s.global.unset (is_among s.default name) name) name) name

-- names with their states after the layers
abbrev pub layered_switches : Stack → List (List ℕ) → List Switch
layered_switches s names = map (λ name. record { name = name; on = on_in s name }) names
