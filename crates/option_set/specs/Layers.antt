-- The layers of options (bsd.options.mk; docs/FORMATS.md).
use Rattle.std.specs.Prelude.{ℕ, Bool, not, ◌&&◌, ◌||◌, List, map}
use Rattle.bulk_base.specs.declared.file.Switch.{Switch}
use Rattle.port_name.specs.Sets.{is_among}
use Rattle.option_set.specs.declared.layers.Layers.{Layers}

-- a name after a layer that turns some on and some off, over what is below: off wins inside the layer
abbrev pub layered : List (List ℕ) → List (List ℕ) → Bool → List ℕ → Bool
layered set unset below name = not (is_among unset name) && (is_among set name || below)

-- a name after the port's default, make.conf, make.conf's part on the port, and the options file
abbrev pub on_by_layers : List (List ℕ) → Layers → List ℕ → Bool
on_by_layers default layers name =
    let global = layered layers.global_set layers.global_unset (is_among default name) name in
    let port = layered layers.port_set layers.port_unset global name in
    layered layers.file_set layers.file_unset port name

-- options with their states after the layers
abbrev pub asked : List (List ℕ) → List (List ℕ) → Layers → List Switch
asked options default layers = map (λ name. record { name = name; on = on_by_layers default layers name }) options
