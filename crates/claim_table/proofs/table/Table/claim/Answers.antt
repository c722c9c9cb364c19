use Rattle.std.proofs.Common.{rules, refl, ap, sym, subst, ◌∙◌, ◌≡◌, true}
use Rattle.claim_table.specs.declared.view.Task.{Task}
use Rattle.claim_table.specs.declared.view.View.{View}
use Rattle.claim_table.specs.Told.{lore, task_of}
use Rattle.claim_table.specs.Seats.{Sits, Site, knows_all}
use Rattle.claim_table.specs.declared.word.Word.{Word}
use Rattle.claim_table.specs.Words.{word_of}
use Rattle.claim_table.specs.Views.{IsFound}
use Rattle.claim_table.proofs.Stepping.{claims-allowed}
use Rattle.claim_table.proofs.Resting.{inside, rested-claims, view-after, found-as}
use Rattle.claim_table.specs.Changes.{after_claim}
use Rattle.claim_table.proofs.table.Table.claim.Goals as goal

pub compare_exchange-found-requires : goal.compare_exchange-found-requires
compare_exchange-found-requires g c =
    let shared = c.self.inside.table.shared in
    let i = inside shared.table_id (task_of shared.key) c.self.inside.plan c.self.inside.kept _ c.args.n c.args.self.now c.self.invariant.0 c.self.view_is c.requires.node in
    let about : task_of shared.key ≡ c.args.self.now.task = ap (λ (s : Site). s.task) c.self.view_is in
    let view : c.seat.inside.inner.me.0 ≡ c.args.seat.now.view = ap (λ (s : Sits). s.view) c.seat.view_is in (
      (search rules),
      i.word,
      claims-allowed (lore g.M.Ways.tells g.M.Ways.runs) (task_of shared.key) i.fitting shared.table_id.slots c.seat.inside.inner.id c.args.n c.seat.inside.inner.me i.node c.seat.invariant.shares
          (ap (λ (v : View). v.holds) view ∙ c.requires.idle)
          (subst (λ (t : Task). knows_all t c.seat.inside.inner.me.0 c.args.n ≡ true) (sym about) (subst (λ (v : View). knows_all c.args.self.now.task v c.args.n ≡ true) (sym view) c.requires.ready)),
    )

pub invariant_of-seat : goal.invariant_of-seat
invariant_of-seat g c =
    let view : c.seat.inside.inner.me.0 ≡ c.args.seat.now.view = ap (λ (s : Sits). s.view) c.seat.view_is in
    rested-claims c.args.n c.compare_exchange-found.result c.seat.inside.inner.me c.compare_exchange-found.new.seat.me c.seat.invariant (ap (λ (v : View). v.holds) view ∙ c.requires.idle) c.compare_exchange-found.ensures.2

pub invariant_of-seat-2 : goal.invariant_of-seat-2
invariant_of-seat-2 g c =
    let view : c.seat.inside.inner.me.0 ≡ c.args.seat.now.view = ap (λ (s : Sits). s.view) c.seat.view_is in
    rested-claims c.args.n c.compare_exchange-found.result c.seat.inside.inner.me c.compare_exchange-found.new.seat.me c.seat.invariant (ap (λ (v : View). v.holds) view ∙ c.requires.idle) c.compare_exchange-found.ensures.2

pub returns-clause-ok : goal.returns-clause-ok
returns-clause-ok g c =
    view-after (after_claim c.args.n) c.seat.inside.inner.me c.compare_exchange-found.new.seat.me c.args.seat.now.view (ap (λ (s : Sits). s.view) c.seat.view_is)
    ((c.compare_exchange-found.ensures.2 c.args.n refl).1 c.if-found-ne0.false).view

pub returns-then-found-ne0-clause-found : goal.returns-then-found-ne0-clause-found
returns-then-found-ne0-clause-found g c =
    let found = c.compare_exchange-found.result in
    subst (λ (w : Word). IsFound c.args.self.now.task c.args.seat.now.view c.args.n w) (sym c.word_of.ensures)
    (found-as c.args.self.now.task c.args.n (word_of found) c.seat.inside.inner.me c.compare_exchange-found.new.seat.me c.args.seat.now.view (ap (λ (s : Sits). s.view) c.seat.view_is) c.requires.seat.task ((c.compare_exchange-found.ensures.2 c.args.n refl).0 c.if-found-ne0.true))
