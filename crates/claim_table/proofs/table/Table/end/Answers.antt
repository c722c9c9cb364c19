use Rattle.std.proofs.Common.{rules, refl, ap, sym, subst, ◌∙◌, ◌≡◌, ◌<◌, ◌≤◌, ℕ, length, Some}
use Rattle.claim_table.specs.declared.word.Word.{Word}
use Rattle.claim_table.specs.declared.view.Task.{Task}
use Rattle.claim_table.specs.declared.view.View.{View}
use Rattle.claim_table.specs.Told.{lore, task_of, IsRight}
use Rattle.claim_table.specs.Seats.{Sits, Site, Stub}
use Rattle.claim_table.specs.Steps.{Mine}
use Rattle.claim_table.specs.Words.{word_of}
use Rattle.claim_table.proofs.Stepping.{ends-allowed, outcome-word, outcome-ends, outcome-rests}
use Rattle.claim_table.proofs.Resting.{inside, slot-first, gave-back, rested-end, view-after}
use Rattle.claim_table.specs.Changes.{after_end}
use Rattle.claim_table.proofs.table.Table.end.Goals as goal

pub store-requires : goal.store-requires
store-requires g c =
    let shared = c.self.inside.table.shared in
    let l = lore g.M.Ways.tells g.M.Ways.runs in
    let n = c.ticket.inside.node in
    let old = c.seat.inside.inner.me in
    let me = c.exchange.new.seat.me in
    let about : task_of shared.key ≡ c.args.self.now.task = ap (λ (s : Site). s.task) c.self.view_is in
    let view : old.0 ≡ c.args.seat.now.view = ap (λ (s : Sits). s.view) c.seat.view_is in
    let node : n ≡ c.args.ticket.node = ap (λ (s : Stub). s.node) c.ticket.view_is in
    let task : c.ticket.inside.plan.value ≡ c.args.self.now.task.plan = ap (λ (s : Stub). s.task.plan) c.ticket.view_is ∙ ap (λ (t : Task). t.plan) c.requires.ticket.about in
    let i = inside shared.table_id (task_of shared.key) c.self.inside.plan c.self.inside.kept _ n c.args.self.now c.self.invariant.0 c.self.view_is (subst (λ p. n < length p.jobs) task c.ticket.invariant) in
    let mine : old.0.holds ≡ Some n = ap (λ (v : View). v.holds) view ∙ c.requires.ticket.held ∙ ap Some (sym node) in
    let right : IsRight l (task_of shared.key) n c.args.outcome = subst (λ t. IsRight l t n c.args.outcome) (sym about) (subst (λ k. IsRight l c.args.self.now.task k c.args.outcome) (sym node) c.requires.right) in
    let same : me.0 ≡ old.0 = ap (λ (m : Mine). m.0) c.exchange.ensures.3 in (
      (search rules),
      i.word,
      ends-allowed l (task_of shared.key) shared.table_id.slots c.exchange.new.seat.id n c.code_of-code.result me (Some c.args.outcome) i.node
          (subst (λ (v : View). 1 ≤ v.shares) (sym same) c.seat.invariant.shares) (ap (λ (v : View). v.holds) same ∙ mine)
          (slot-first me old.0 n (Some c.args.outcome) _ c.exchange.ensures.3)
          (outcome-ends c.args.outcome c.code_of-code.result c.code_of-code.ensures)
          (outcome-rests l (task_of shared.key) n c.args.outcome c.code_of-code.result c.code_of-code.ensures right),
    )

pub invariant_of-seat : goal.invariant_of-seat
invariant_of-seat g c =
    let n = c.ticket.inside.node in
    let old = c.seat.inside.inner.me in
    let view : old.0 ≡ c.args.seat.now.view = ap (λ (s : Sits). s.view) c.seat.view_is in
    let mine : old.0.holds ≡ Some n = ap (λ (v : View). v.holds) view ∙ c.requires.ticket.held ∙ ap Some (sym (ap (λ (s : Stub). s.node) c.ticket.view_is)) in
    let word = word_of c.code_of-code.result in
    rested-end n word old c.store.new.seat.me c.seat.invariant
    (gave-back n word old c.exchange.new.seat.me c.store.new.seat.me (Some c.args.outcome) c.seat.invariant mine c.exchange.ensures.3 (c.store.ensures.2 n refl))

pub returns-clause-exact : goal.returns-clause-exact
returns-clause-exact g c =
    let n = c.ticket.inside.node in
    let old = c.seat.inside.inner.me in
    let view : old.0 ≡ c.args.seat.now.view = ap (λ (s : Sits). s.view) c.seat.view_is in
    let node : n ≡ c.args.ticket.node = ap (λ (s : Stub). s.node) c.ticket.view_is in
    let mine : old.0.holds ≡ Some n = ap (λ (v : View). v.holds) view ∙ c.requires.ticket.held ∙ ap Some (sym node) in
    let code = c.code_of-code.result in
    view-after (after_end n (word_of code)) old c.store.new.seat.me c.args.seat.now.view view
    (gave-back n (word_of code) old c.exchange.new.seat.me c.store.new.seat.me (Some c.args.outcome) c.seat.invariant mine c.exchange.ensures.3 (c.store.ensures.2 n refl)).0
    ∙ ap (λ (k : ℕ). after_end k (word_of code) c.args.seat.now.view) node
    ∙ ap (λ (w : Word). after_end c.args.ticket.node w c.args.seat.now.view) (outcome-word c.args.outcome code c.code_of-code.ensures)
