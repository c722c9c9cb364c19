use Rattle.std.proofs.Common.{rules}
use Rattle.conf_file.proofs.Starred.{begins_short}
use Rattle.conf_file.proofs.pattern.strip_front.Goals as goal

pub slice_bounds-result-count : goal.slice_bounds-result-count
slice_bounds-result-count c = begins_short c.args.piece.now c.args.name.now (search rules)

pub slice_bounds-result-start : goal.slice_bounds-result-start
slice_bounds-result-start c = begins_short c.args.piece.now c.args.name.now (search rules)
