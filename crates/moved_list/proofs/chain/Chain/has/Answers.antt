use Rattle.std.proofs.Common.{◌∙◌, ap}
use Rattle.port_name.specs.Sets.{is_among}
use Rattle.port_name.proofs.SetView.{among_keys}
use Rattle.moved_list.proofs.chain.Chain.has.Goals as goal

pub returns : goal.returns
returns c =
    let name = c.args.name.now in
    c.contains.ensures ∙ among_keys name c.self.inside.set.keys ∙ c.self.invariant name ∙ ap (λ names. is_among names name) c.self.view_is
