use Rattle.std.proofs.Common.{rules, refl, ap, sym, subst, ◌≡◌, true}
use Rattle.claim_table.specs.declared.view.Task.{Task}
use Rattle.claim_table.specs.declared.view.View.{View}
use Rattle.std.proofs.lemmas.Bool.{eqb-true, eqb-false}
use Rattle.claim_table.specs.declared.word.Word.TheVariants.{Skipped}
use Rattle.claim_table.specs.Told.{lore, task_of}
use Rattle.claim_table.specs.Seats.{Sits, Site, knows_bad}
use Rattle.claim_table.proofs.Stepping.{skips-allowed}
use Rattle.claim_table.proofs.Resting.{inside, rested-skips, view-after}
use Rattle.claim_table.specs.Changes.{after_look, after_skip}
use Rattle.claim_table.proofs.table.Table.skip.Goals as goal

pub compare_exchange-found-requires : goal.compare_exchange-found-requires
compare_exchange-found-requires g c =
    let shared = c.self.inside.table.shared in
    let i = inside shared.table_id (task_of shared.key) c.self.inside.plan c.self.inside.kept _ c.args.n c.args.self.now c.self.invariant.0 c.self.view_is c.requires.node in
    let about : task_of shared.key ≡ c.args.self.now.task = ap (λ (s : Site). s.task) c.self.view_is in
    let view : c.seat.inside.inner.me.0 ≡ c.args.seat.now.view = ap (λ (s : Sits). s.view) c.seat.view_is in (
      (search rules),
      i.word,
      skips-allowed (lore g.M.Ways.tells g.M.Ways.runs) (task_of shared.key) i.fitting shared.table_id.slots c.seat.inside.inner.id c.args.n c.seat.inside.inner.me i.node c.seat.invariant.shares
          (subst (λ (t : Task). knows_bad t c.seat.inside.inner.me.0 c.args.n ≡ true) (sym about) (subst (λ (v : View). knows_bad c.args.self.now.task v c.args.n ≡ true) (sym view) c.requires.reason)),
    )

pub invariant_of-seat : goal.invariant_of-seat
invariant_of-seat g c = rested-skips c.args.n c.compare_exchange-found.result c.seat.inside.inner.me c.compare_exchange-found.new.seat.me c.seat.invariant c.compare_exchange-found.ensures.2

pub returns-clause-first : goal.returns-clause-first
returns-clause-first g c hit =
    view-after (after_skip c.args.n) c.seat.inside.inner.me c.compare_exchange-found.new.seat.me c.args.seat.now.view (ap (λ (s : Sits). s.view) c.seat.view_is)
    ((c.compare_exchange-found.ensures.2 c.args.n refl).1 (eqb-true c.compare_exchange-found.result 0 hit)).view

pub returns-clause-again : goal.returns-clause-again
returns-clause-again g c miss =
    view-after (after_look c.args.n Skipped) c.seat.inside.inner.me c.compare_exchange-found.new.seat.me c.args.seat.now.view (ap (λ (s : Sits). s.view) c.seat.view_is)
    ((c.compare_exchange-found.ensures.2 c.args.n refl).0 (eqb-false c.compare_exchange-found.result 0 miss)).view
