use Rattle.std.proofs.Common.{◌∙◌, ap, ap₂, subst, ◌<◌, ℕ, List, length}
use Rattle.std.specs.Prelude.{filter}
use Rattle.std.specs.List.{All, range_with_len}
use Rattle.std.proofs.lemmas.Result.{IfOk-weaker}
use Rattle.dep_graph.specs.Graphs.{has}
use Rattle.tree_index.specs.Index.{IndexView}
use Rattle.stale_check.proofs.Flagging.{flagged_are, flagged_within}
use Rattle.stale_check.proofs.checking.held.Goals as goal

pub returns-clause-held : goal.returns-clause-held
returns-clause-held c =
    IfOk-weaker c.flagged.result _ _
    (λ numbers h. flagged_are c.len-count.result c.as_slice.result.now c.in_ok-flags.flags numbers c.in_ok-flags.ensures h
    ∙ ap₂ (λ (found : List ℕ) (count : ℕ). filter (has found) (range_with_len 0 count)) (c.as_slice.ensures.value ∙ c.in_ok-found.ensures) (c.len-count.ensures ∙ ap (λ (i : IndexView). length i.nodes) c.index.view_is)) c.flagged.ensures

pub returns-clause-within : goal.returns-clause-within
returns-clause-within c =
    IfOk-weaker c.flagged.result _ _
    (λ numbers h. subst (λ count. All (λ n. n < count) numbers) (c.len-count.ensures ∙ ap (λ (i : IndexView). length i.nodes) c.index.view_is) (flagged_within c.len-count.result c.in_ok-flags.flags numbers h)) c.flagged.ensures
