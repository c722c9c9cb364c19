use Rattle.std.proofs.Common.{rules, refl, sym, ap, subst, ◌∙◌, ◌≡◌}
use Rattle.claim_table.specs.declared.view.View.{View}
use Rattle.claim_table.specs.Told.{lore, task_of}
use Rattle.claim_table.specs.Seats.{Sits, refusal, AfterFetch}
use Rattle.claim_table.specs.Words.{word_of}
use Rattle.claim_table.proofs.Words.{not-built}
use Rattle.claim_table.proofs.Stepping.{begins-allowed}
use Rattle.claim_table.proofs.Resting.{inside, rested-look, view-after, open-after, read-after, rested-read, refused, found-as}
use Rattle.claim_table.proofs.table.Table.fetch.Goals.{in-Ok, in-Err}
use Rattle.claim_table.specs.Changes.{after_look, after_begin, after_close}
use Rattle.claim_table.proofs.table.Table.fetch.Goals as goal

pub compare_exchange-found-requires : goal.compare_exchange-found-requires
compare_exchange-found-requires g c =
    let shared = c.self.inside.table.shared in
    let i = inside shared.table_id (task_of shared.key) c.self.inside.plan c.self.inside.kept _ c.args.n c.args.self.now c.self.invariant.0 c.self.view_is c.requires.node in (
      (search rules),
      i.word,
      begins-allowed (lore g.M.Ways.tells g.M.Ways.runs) (task_of shared.key) i.fitting shared.table_id.slots c.seat.inside.inner.id c.args.n c.seat.inside.inner.me i.node c.seat.invariant.shares c.seat.invariant.reads,
    )

pub invariant_of-seat : goal.invariant_of-seat
invariant_of-seat g c =
    rested-look c.args.n (word_of c.compare_exchange-found.result) c.seat.inside.inner.me c.compare_exchange-found.new.seat.me c.seat.invariant ((c.compare_exchange-found.ensures.2 c.args.n refl).0 c.if-found-ne2.true)

pub returns-then-found-ne2-clause-exact : goal.returns-then-found-ne2-clause-exact
returns-then-found-ne2-clause-exact g c =
    let found = c.compare_exchange-found.result in
    let old = c.seat.inside.inner.me in
    refused (lore g.M.Ways.tells g.M.Ways.runs) c.args.self.now.task c.args.n (word_of found) c.refusal.result c.args.seat.now.view c.compare_exchange-found.new.seat.me.0
    (c.refusal.ensures ∙ ap refusal c.word_of.ensures) (not-built found c.if-found-ne2.true)
    (found-as c.args.self.now.task c.args.n (word_of found) old c.compare_exchange-found.new.seat.me c.args.seat.now.view (ap (λ (s : Sits). s.view) c.seat.view_is) c.requires.seat.task ((c.compare_exchange-found.ensures.2 c.args.n refl).0 c.if-found-ne2.true))
    (view-after (after_look c.args.n (word_of found)) old c.compare_exchange-found.new.seat.me c.args.seat.now.view (ap (λ (s : Sits). s.view) c.seat.view_is) ((c.compare_exchange-found.ensures.2 c.args.n refl).0 c.if-found-ne2.true).view)

pub read-requires-clause-open : goal.read-requires-clause-open
read-requires-clause-open g c =
    let view : c.seat.inside.inner.me.0 ≡ c.args.seat.now.view = ap (λ (s : Sits). s.view) c.seat.view_is in
    open-after (lore g.M.Ways.tells g.M.Ways.runs) c.args.self.now.task c.args.n c.seat.inside.inner.me c.compare_exchange-found.new.seat.me c.seat.invariant
    (ap (λ (v : View). v.task) view ∙ c.requires.seat.task) ((c.compare_exchange-found.ensures.2 c.args.n refl).1 c.if-found-ne2.false)

pub invariant_of-seat-2 : goal.invariant_of-seat-2
invariant_of-seat-2 g c =
    let old = c.seat.inside.inner.me in
    let mid = c.compare_exchange-found.new.seat.me in
    rested-read c.args.n old c.read.new.inner.me c.seat.invariant
    (read-after (lore g.M.Ways.tells g.M.Ways.runs) c.args.n old mid c.read.new.inner.me ((c.compare_exchange-found.ensures.2 c.args.n refl).1 c.if-found-ne2.false) c.read.ensures.closed)

pub returns-clause-exact : goal.returns-clause-exact
returns-clause-exact g c =
    let l = lore g.M.Ways.tells g.M.Ways.runs in
    let n = c.args.n in
    let old = c.seat.inside.inner.me in
    let mid = c.compare_exchange-found.new.seat.me in
    let now : View = c.args.seat.now.view in
    let after = read-after l n old mid c.read.new.inner.me ((c.compare_exchange-found.ensures.2 n refl).1 c.if-found-ne2.false) c.read.ensures.closed in
    let view : c.read.new.inner.me.0 ≡ after_close n (after_begin n now) = view-after (λ (v : View). after_close n (after_begin n v)) old c.read.new.inner.me now (ap (λ (s : Sits). s.view) c.seat.view_is) after.0 in
    elim c.match-read.branch [
      | in-Ok w ↦ subst (λ r. AfterFetch l c.args.self.now.task n now c.read.new.inner.me.0 r) (sym w.result-is) (w.in-Ok.ensures.right, view)
      | in-Err w ↦ subst (λ r. AfterFetch l c.args.self.now.task n now c.read.new.inner.me.0 r) (sym w.result-is) view
    ]
