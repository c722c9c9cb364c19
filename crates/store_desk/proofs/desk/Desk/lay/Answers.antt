use Rattle.std.proofs.Common.{rules, ap, sym, arith}
use Rattle.store_desk.specs.Told.{lore, origin_of}
use Rattle.store_desk.specs.Seats.{Site}
use Rattle.store_desk.proofs.Turns.{first-takes-owed}
use Rattle.store_desk.proofs.desk.Desk.lay.Goals as goal

pub compare_exchange-requires : goal.compare_exchange-requires
compare_exchange-requires g c =
    let l = lore g.S.Store.tells g.S.Store.content g.S.Store.journal g.S.Store.faults g.M.Ways.tells g.M.Ways.runs in
    let words = c.self.invariant.0 in (
      (search rules),
      (omega arith),
      first-takes-owed l (origin_of l c.self.inside.table.shared.key) c.self.inside.table.shared.table_id.slots c.args.seat.id c.args.self.now.origin c.args.seat.me (ap (λ (s : Site). s.origin) (sym c.self.view_is)) c.requires.first,
    )
