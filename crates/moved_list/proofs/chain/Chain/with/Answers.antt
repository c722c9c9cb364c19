use Rattle.std.proofs.Common.{◌∷◌, [], ◌++◌, ◌∙◌, ap, sym}
use Rattle.port_name.specs.Sets.{is_among}
use Rattle.port_name.proofs.SetView.{among_push}
use Rattle.moved_list.proofs.chain.Chain.with.Goals as goal

pub invariant_of-result : goal.invariant_of-result
invariant_of-result c = λ name.
    among_push c.self.inside.set c.insert.new.self c.self.inside.names c.in_ok-copy.field-0 c.in_ok-insert.ensures.updates c.self.invariant name
    ∙ ap (λ key. is_among (c.self.inside.names ++ key ∷ []) name) c.in_ok-copy.ensures
    ∙ ap (λ names. is_among names name) (sym c.in_ok-push.ensures.ok)
