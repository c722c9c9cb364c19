use Rattle.std.proofs.Common.{◌≡◌, ◌++◌, drop}
use Rattle.bulk_base.specs.Text.{IsText}
use Rattle.port_vars.specs.Comment.{kept}
use Rattle.port_vars.proofs.comment.kept.Given as goal

abbrev pub invariant-loop-at : goal.invariant-loop-at
invariant-loop-at l = record { text : l.kept.items ++ kept (drop l.at l.pieces) ≡ kept l.pieces; form : IsText l.kept.items }
