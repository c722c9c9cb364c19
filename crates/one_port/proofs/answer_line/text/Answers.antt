use Rattle.std.proofs.Common.{◌∙◌, append_assoc}
use Rattle.one_port.proofs.answer_line.text.Goals as goal

pub returns-in_ok-format-in-Builders : goal.returns-in_ok-format-in-Builders
returns-in_ok-format-in-Builders c = rw c.in-Builders.is (c.in_ok-format-in-Builders.ensures.ok ∙ simp append_assoc)

pub returns-in_ok-format-in-NotYet : goal.returns-in_ok-format-in-NotYet
returns-in_ok-format-in-NotYet c = rw c.in-NotYet.is (c.in_ok-format-in-NotYet.ensures.ok ∙ simp append_assoc)

pub returns-in_ok-format-in-RoomFault : goal.returns-in_ok-format-in-RoomFault
returns-in_ok-format-in-RoomFault c = rw c.in-RoomFault.is (c.in_ok-format-in-RoomFault.ensures.ok ∙ simp append_assoc)

pub returns-in_ok-format-in-DupName : goal.returns-in_ok-format-in-DupName
returns-in_ok-format-in-DupName c = rw c.in-DupName.is (c.in_ok-format-in-DupName.ensures.ok ∙ simp append_assoc)

pub returns-in_ok-format-in-Gone : goal.returns-in_ok-format-in-Gone
returns-in_ok-format-in-Gone c = rw c.in-Gone.is (c.in_ok-format-in-Gone.ensures.ok ∙ simp append_assoc)
