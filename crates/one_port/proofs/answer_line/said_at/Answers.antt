use Rattle.std.proofs.Common.{◌∙◌, append_assoc}
use Rattle.one_port.proofs.answer_line.said_at.Goals as goal

pub returns : goal.returns
returns c = c.in_ok-format.ensures.ok ∙ simp append_assoc
