use Rattle.std.proofs.Common.{sym, refl, ◌∙◌}
use Rattle.std.proofs.lemmas.Bool.{eqb-false}
use Rattle.one_port.proofs.Ending.{first_begun, first_begun_after, none_grew}
use Rattle.one_port.proofs.top.poudriere.Goals as goal
use Rattle.one_port.proofs.top.poudriere.Goals.{then-is_empty, else-is_empty}

-- without rooms nothing is done; else the run is that in the first room
pub returns-clause-whole : goal.returns-clause-whole
returns-clause-whole g c t s k d =
    elim c.if-is_empty.branch [
      | then-is_empty w ↦ absurd (w.without_rooms-closed.ensures.refused (rw w.closed-is at d))
      | else-is_empty w ↦
          rw (
            w.closed-is,
            w.store-is,
            w.rooms-is,
            w.out-is,
            first_begun _ g.R.Room.begun c.args.rooms.items w.index_mut.result.now (λ e. eqb-false _ _ (sym c.is_empty.ensures ∙ w.if-is_empty.false) (c.args.rooms.ok.0 ∙ e)) w.index_mut.ensures.value,
            first_begun_after _ g.R.Room.begun c.args.rooms.items w.bulk_alone-closed.new.room (λ e. eqb-false _ _ (sym c.is_empty.ensures ∙ w.if-is_empty.false) (c.args.rooms.ok.0 ∙ e)),
          )
          (w.bulk_alone-closed.ensures.whole t s k (rw w.closed-is at d))
    ]

-- without rooms no lists are printed
pub returns-clause-finished : goal.returns-clause-finished
returns-clause-finished g c t s d =
    elim c.if-is_empty.branch [
      | then-is_empty w ↦ absurd (w.without_rooms-closed.ensures.unprinted (rw w.closed-is at d))
      | else-is_empty w ↦ rw (w.store-is) (w.bulk_alone-closed.ensures.finished t s (rw w.closed-is at d))
    ]

-- without rooms no name is begun; else those that the run in the first room begins
pub returns-clause-begun : goal.returns-clause-begun
returns-clause-begun g c =
    elim c.if-is_empty.branch [
      | then-is_empty w ↦ rw w.rooms-is (none_grew _ _ refl)
      | else-is_empty w ↦
          rw (
            w.rooms-is,
            first_begun _ g.R.Room.begun c.args.rooms.items w.index_mut.result.now (λ e. eqb-false _ _ (sym c.is_empty.ensures ∙ w.if-is_empty.false) (c.args.rooms.ok.0 ∙ e)) w.index_mut.ensures.value,
            first_begun_after _ g.R.Room.begun c.args.rooms.items w.bulk_alone-closed.new.room (λ e. eqb-false _ _ (sym c.is_empty.ensures ∙ w.if-is_empty.false) (c.args.rooms.ok.0 ∙ e)),
          )
          w.bulk_alone-closed.ensures.begun
    ]
