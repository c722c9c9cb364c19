use Rattle.std.proofs.Common.{◌∙◌, append_assoc}
use Rattle.run_answer.proofs.answer_line.text.Goals as goal

pub returns-in_ok-format-in-RoomFault : goal.returns-in_ok-format-in-RoomFault
returns-in_ok-format-in-RoomFault c = rw c.in-RoomFault.is (c.in_ok-format-in-RoomFault.ensures.ok ∙ simp append_assoc)
