use Rattle.std.proofs.Common.{◌∙◌, ap}
use Rattle.port_name.specs.Sets.{is_among}
use Rattle.port_name.proofs.SetView.{among_keys}
use Rattle.port_desc.proofs.seen.Seen.has.Goals as goal

pub returns : goal.returns
returns c = c.contains.ensures ∙ among_keys c.args.text.now c.self.inside.texts.keys ∙ ap (λ keys. is_among keys c.args.text.now) c.self.view_is
