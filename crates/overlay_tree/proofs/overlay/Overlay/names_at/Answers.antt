use Rattle.std.proofs.Common.{◌≡◌, ◌∷◌, ◌∙◌, ◌-◌, ◌<◌, ◌+◌, Bool, ap, sym, length, get_or, arith, subst}
use Rattle.std.specs.Prelude.{map, slice_set}
use Rattle.std.proofs.Math.Seq.{map-set_same}
use Rattle.outside.specs.Faults.{IsCaused, err_is, is_fault}
use Rattle.overlay_tree.specs.Listed.{total}
use Rattle.overlay_tree.proofs.Faults.{later_caused}
use Rattle.overlay_tree.proofs.overlay.Overlay.names_at.Goals as goal

pub returns-else-at-eq0-clause-same : goal.returns-else-at-eq0-clause-same
returns-else-at-eq0-clause-same g c =
    let items = c.self.inside.overlays.items in
    let old = c.index_mut.result.now in
    ap (λ cs. g.T.Tree.content c.self.inside.base ∷ cs)
    (map-set_same g.T.Tree.content items (c.args.at - 1) c.names-else-at-eq0.new.self old (c.names-else-at-eq0.ensures.same ∙ ap g.T.Tree.content c.index_mut.ensures.value))
    ∙ ap (map g.T.Tree.content) c.self.view_is

pub returns-else-at-eq0-clause-cause : goal.returns-else-at-eq0-clause-cause
returns-else-at-eq0-clause-cause g c =
    let items = c.self.inside.overlays.items in
    let old = c.index_mut.result.now in
    let new = c.names-else-at-eq0.new.self in
    let blamed : Bool = err_is is_fault c.names-else-at-eq0.result in
    let low : c.args.at - 1 < length items = omega (arith, ap length c.self.view_is) in
    subst (λ n. IsCaused n (g.T.Tree.faults c.self.inside.base + total g.T.Tree.faults (slice_set items (c.args.at - 1) new)) blamed) (ap (total g.T.Tree.faults) c.self.view_is)
    (later_caused g.T.Tree.faults c.self.inside.base items (c.args.at - 1) new old blamed low
    (subst (λ x. IsCaused (g.T.Tree.faults x) (g.T.Tree.faults new) blamed) c.index_mut.ensures.value c.names-else-at-eq0.ensures.cause))
