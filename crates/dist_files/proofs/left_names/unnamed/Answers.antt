use Rattle.std.proofs.Common.{◌≡◌, ◌∙◌, ap, sym, take, length, arith}
use Rattle.std.specs.Prelude.{filter, not}
use Rattle.std.proofs.lemmas.List.{take_all}
use Rattle.bulk_base.specs.Order.{in_order}
use Rattle.dist_files.specs.Checked.{is_in_set}
use Rattle.dist_files.proofs.Sets.{unnamed_is}
use Rattle.dist_files.proofs.left_names.unnamed.Goals as goal

pub returns : goal.returns
returns c =
    let all = take_all c.loop-name.name-index c.args.names.now (omega (arith, ap length c.as_slice-name-items.ensures)) in
    let left = c.loop-name.invariant ∙ ap (filter (λ name. not (is_in_set c.in_ok-files.files name))) all in
    let same = ap in_order c.as_slice.ensures ∙ unnamed_is c.args.names.now c.loop-name.left c.args.named.now c.in_ok-files.files c.in_ok-files.ensures left in
    rw (← same) c.in_order.ensures
