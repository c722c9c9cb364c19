use Rattle.std.proofs.Common.{◌≡◌, ◌≤◌, ◌<◌, [], true, length, drop}
use Rattle.std.specs.FinMap as map
use Rattle.bulk_base.specs.Text.{IsText}
use Rattle.port_vars.specs.Answers.{first_bytes}
use Rattle.port_vars.proofs.reference.expanded.Given as goal

abbrev pub invariant-loop-piece : goal.invariant-loop-piece
invariant-loop-piece l = record {
  size : length l.out.items ≤ l.most;
  form : length l.out.items < l.most → IsText l.out.items;
  text : first_bytes l.most (map.get l.vars) l.out.items l.plain (drop l.piece-index l.piece-items) ≡ first_bytes l.most (map.get l.vars) [] true l.piece-items;
}
