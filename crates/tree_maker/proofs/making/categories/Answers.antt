use Rattle.std.proofs.Common.{ap, sym, ◌∙◌, ◌++◌, ◌∷◌, []}
use Rattle.tree_maker.proofs.Ranges.{range_more}
use Rattle.tree_maker.proofs.making.categories.Goals as goal

pub loop-c-preserved : goal.loop-c-preserved
loop-c-preserved c =
    c.in_ok-push.ensures.items ∙ ap (λ xs. xs ++ c.loop-c.c ∷ []) c.loop-c.invariant
    ∙ sym (range_more c.loop-c.c)
