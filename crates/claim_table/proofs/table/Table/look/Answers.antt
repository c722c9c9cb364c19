use Rattle.std.proofs.Common.{rules, refl, ap, sym, subst, ◌∙◌}
use Rattle.claim_table.specs.declared.word.Word.{Word}
use Rattle.claim_table.specs.Views.{IsFound}
use Rattle.claim_table.specs.Seats.{Sits}
use Rattle.claim_table.specs.Told.{lore, task_of}
use Rattle.claim_table.specs.Words.{word_of}
use Rattle.claim_table.proofs.Stepping.{looks-allowed}
use Rattle.claim_table.proofs.Resting.{inside, rested-look, view-after, found-as}
use Rattle.claim_table.specs.Changes.{after_look}
use Rattle.claim_table.proofs.table.Table.look.Goals as goal

pub load-requires : goal.load-requires
load-requires g c =
    let shared = c.self.inside.table.shared in
    let i = inside shared.table_id (task_of shared.key) c.self.inside.plan c.self.inside.kept _ c.args.n c.args.self.now c.self.invariant.0 c.self.view_is c.requires.node in (
      (search rules),
      i.word,
      looks-allowed (lore g.M.Ways.tells g.M.Ways.runs) (task_of shared.key) i.fitting shared.table_id.slots c.seat.inside.inner.id c.args.n c.seat.inside.inner.me i.node c.seat.invariant.shares,
    )

pub invariant_of-seat : goal.invariant_of-seat
invariant_of-seat g c = rested-look c.args.n (word_of c.load.result) c.seat.inside.inner.me c.load.new.seat.me c.seat.invariant (c.load.ensures.2 c.args.n refl)

pub returns-clause-exact : goal.returns-clause-exact
returns-clause-exact g c =
    view-after (after_look c.args.n (word_of c.load.result)) c.seat.inside.inner.me c.load.new.seat.me c.args.seat.now.view (ap (λ (s : Sits). s.view) c.seat.view_is) (c.load.ensures.2 c.args.n refl).view
    ∙ ap (λ (w : Word). after_look c.args.n w c.args.seat.now.view) (sym c.word_of.ensures)

pub returns-clause-found : goal.returns-clause-found
returns-clause-found g c =
    subst (λ (w : Word). IsFound c.args.self.now.task c.args.seat.now.view c.args.n w) (sym c.word_of.ensures)
    (found-as c.args.self.now.task c.args.n (word_of c.load.result) c.seat.inside.inner.me c.load.new.seat.me c.args.seat.now.view (ap (λ (s : Sits). s.view) c.seat.view_is) c.requires.seat.task (c.load.ensures.2 c.args.n refl))
