use Rattle.loop_report.proofs.GoingOn.{no_loop_where_order, order_where_no_loop}
use Rattle.loop_report.proofs.law.an_order_or_a_loop.Goals as goal

pub returns : goal.returns
returns c = λ graph g. (no_loop_where_order graph g.within, order_where_no_loop graph g.within)
