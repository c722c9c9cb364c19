use Rattle.std.proofs.Common.{◌∙◌, ap, sym}
use Rattle.conf_file.specs.Make.{layers_of}
use Rattle.tree_index.specs.PortNodes.{with_default, nodes_for}
use Rattle.tree_index.proofs.PortOptions.{chosen_sound}
use Rattle.tree_index.proofs.PortForm.{checked_sound, port_sound}
use Rattle.tree_index.proofs.port_reading.nodes_by.Goals as goal

pub returns-in-Ok-nodes_for-clause-form : goal.returns-in-Ok-nodes_for-clause-form
returns-in-Ok-nodes_for-clause-form c = λ place.
    let origin = c.args.origin.now in
    let vars = c.args.vars.now in
    let options = c.in-Ok-port_options.options in
    let flavors = c.in-Ok.flavors in
    port_sound c.args.try_broken origin vars options flavors c.in-Ok-nodes_for.nodes place
    (chosen_sound vars (layers_of c.args.make.now.vars origin c.args.file.now) options c.in-Ok-port_options.ensures.ok)
    (checked_sound vars flavors c.in-Ok.ensures.ok)
    (ap (λ fs. nodes_for c.args.try_broken origin vars options (with_default fs)) (sym c.as_slice.ensures) ∙ c.in-Ok-nodes_for.ensures.ok)
