use Rattle.std.proofs.Common.{ap}
use Rattle.port_name.specs.Sets.{is_among}
use Rattle.port_name.proofs.SetView.{among_push}
use Rattle.port_desc.proofs.seen.Seen.add.Goals as goal

pub returns : goal.returns
returns c = among_push c.self.inside.texts c.insert.new.self c.args.self.now c.args.text c.in_ok-insert.ensures.updates (λ name. ap (λ keys. is_among keys name) c.self.view_is)
