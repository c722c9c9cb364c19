use Rattle.std.proofs.Common.{◌∙◌, ap}
use Rattle.port_name.specs.Sets.{is_among}
use Rattle.port_name.proofs.SetView.{among_keys}
use Rattle.port_name.proofs.names.Names.holds.Goals as goal

pub returns : goal.returns
returns c = c.contains.ensures ∙ among_keys c.args.name.now c.self.inside.names.keys ∙ ap (λ keys. is_among keys c.args.name.now) c.self.view_is
