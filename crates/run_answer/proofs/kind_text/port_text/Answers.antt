use Rattle.std.proofs.Common.{◌∙◌, append_assoc}
use Rattle.run_answer.proofs.kind_text.port_text.Goals as goal

pub returns-in_ok-format-in-Prevented : goal.returns-in_ok-format-in-Prevented
returns-in_ok-format-in-Prevented c = rw c.in-Prevented.is (c.in_ok-format-in-Prevented.ensures.ok ∙ simp append_assoc)
