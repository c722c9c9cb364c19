use Rattle.std.proofs.Common.{rules}
use Rattle.port_vars.specs.Comment.{uncommented}
use Rattle.port_vars.proofs.comment.uncommented.Goals as goal

pub returns : goal.returns
unfolding uncommented
returns c = search rules
