use Rattle.std.proofs.Common.{◌≡◌, ◌≤◌, ℕ, List, Bool, length, take, ap, ◌∙◌, arith}
use Rattle.std.specs.Prelude.{map}
use Rattle.std.proofs.lemmas.List.{length-map, take_all}
use Rattle.bulk_model.specs.declared.results.Status.{Status}
use Rattle.bulk_model.specs.Results.{is_good}
use Rattle.bucket_queue.proofs.Telling.{results_size, statuses_tell}
use Rattle.bucket_queue.proofs.orders.order.Goals as goal

all_told : (well : List Bool) (items statuses : List Status) (i : ℕ) → well ≡ map is_good (take i items) → length items ≤ i → items ≡ statuses
    → well ≡ map is_good statuses
all_told well items statuses i e l same = e ∙ ap (map is_good) (take_all i items l ∙ same)

pub taken-requires : goal.taken-requires
taken-requires c =
    let told : c.as_slice.result.now ≡ map is_good c.args.results.now.statuses =
    c.as_slice.ensures.value
    ∙ all_told c.loop-status.well.items c.as_slice-status-items.result.now c.args.results.now.statuses c.loop-status.status-index c.loop-status.invariant (omega arith) c.as_slice-status-items.ensures in
    ap length told ∙ length-map c.args.results.now.statuses is_good
    ∙ results_size c.args.plan.now c.args.kept.now c.args.results.now.statuses c.requires

pub returns : goal.returns
returns c =
    let told : c.as_slice.result.now ≡ map is_good c.args.results.now.statuses =
    c.as_slice.ensures.value
    ∙ all_told c.loop-status.well.items c.as_slice-status-items.result.now c.args.results.now.statuses c.loop-status.status-index c.loop-status.invariant (omega arith) c.as_slice-status-items.ensures in
    c.taken.ensures c.args.results.now.statuses c.requires
    (statuses_tell c.args.plan.now c.args.kept.now c.args.results.now.statuses c.requires c.as_slice.result.now told)
