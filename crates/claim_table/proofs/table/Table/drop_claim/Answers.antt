use Rattle.std.proofs.Common.{rules, refl, ap, sym, subst, ◌∙◌, ◌≡◌, ◌<◌, ℕ, length, Some, None}
use Rattle.claim_table.specs.declared.word.Word.TheVariants.{GivenUp}
use Rattle.claim_table.specs.declared.view.Task.{Task}
use Rattle.claim_table.specs.declared.view.View.{View}
use Rattle.claim_table.specs.Told.{lore, task_of}
use Rattle.claim_table.specs.Seats.{Sits, Stub}
use Rattle.claim_table.proofs.Stepping.{ends-allowed}
use Rattle.claim_table.proofs.Resting.{inside, slot-first, as-written, gave-back, rested-end, view-after}
use Rattle.claim_table.specs.Changes.{after_end}
use Rattle.claim_table.proofs.table.Table.drop_claim.Goals as goal

pub store-requires : goal.store-requires
store-requires g c =
    let shared = c.self.inside.table.shared in
    let n = c.ticket.inside.node in
    let old = c.seat.inside.inner.me in
    let view : old.0 ≡ c.args.seat.now.view = ap (λ (s : Sits). s.view) c.seat.view_is in
    let node : n ≡ c.args.ticket.node = ap (λ (s : Stub). s.node) c.ticket.view_is in
    let task : c.ticket.inside.plan.value ≡ c.args.self.now.task.plan = ap (λ (s : Stub). s.task.plan) c.ticket.view_is ∙ ap (λ (t : Task). t.plan) c.requires.ticket.about in
    let i = inside shared.table_id (task_of shared.key) c.self.inside.plan c.self.inside.kept _ n c.args.self.now c.self.invariant.0 c.self.view_is (subst (λ p. n < length p.jobs) task c.ticket.invariant) in
    let mine : old.0.holds ≡ Some n = ap (λ (v : View). v.holds) view ∙ c.requires.ticket.held ∙ ap Some (sym node) in (
      (search rules),
      i.word,
      ends-allowed (lore g.M.Ways.tells g.M.Ways.runs) (task_of shared.key) shared.table_id.slots c.seat.inside.inner.id n 8 old None i.node c.seat.invariant.shares mine
          (slot-first old old.0 n None _ (as-written n old c.seat.invariant mine)) refl refl,
    )

pub invariant_of-seat : goal.invariant_of-seat
invariant_of-seat g c =
    let n = c.ticket.inside.node in
    let old = c.seat.inside.inner.me in
    let view : old.0 ≡ c.args.seat.now.view = ap (λ (s : Sits). s.view) c.seat.view_is in
    let mine : old.0.holds ≡ Some n = ap (λ (v : View). v.holds) view ∙ c.requires.ticket.held ∙ ap Some (sym (ap (λ (s : Stub). s.node) c.ticket.view_is)) in
    rested-end n GivenUp old c.store.new.seat.me c.seat.invariant
    (gave-back n GivenUp old old c.store.new.seat.me None c.seat.invariant mine (as-written n old c.seat.invariant mine) (c.store.ensures.2 n refl))

pub returns-clause-exact : goal.returns-clause-exact
returns-clause-exact g c =
    let n = c.ticket.inside.node in
    let old = c.seat.inside.inner.me in
    let view : old.0 ≡ c.args.seat.now.view = ap (λ (s : Sits). s.view) c.seat.view_is in
    let node : n ≡ c.args.ticket.node = ap (λ (s : Stub). s.node) c.ticket.view_is in
    let mine : old.0.holds ≡ Some n = ap (λ (v : View). v.holds) view ∙ c.requires.ticket.held ∙ ap Some (sym node) in
    view-after (after_end n GivenUp) old c.store.new.seat.me c.args.seat.now.view view
    (gave-back n GivenUp old old c.store.new.seat.me None c.seat.invariant mine (as-written n old c.seat.invariant mine) (c.store.ensures.2 n refl)).0
    ∙ ap (λ (k : ℕ). after_end k GivenUp c.args.seat.now.view) node
