use Rattle.std.proofs.Common.{arith}
use Rattle.bulk_base.proofs.TextTests.{is_text-from_IsText}
use Rattle.overlay_tree.proofs.Fronts.{front_text, front_path}
use Rattle.overlay_tree.proofs.placing.port_of.Goals as goal

pub returns-then-left-eq0-clause-text : goal.returns-then-left-eq0-clause-text
returns-then-left-eq0-clause-text c = λ h. front_text c.args.path.now c.loop-at.at (omega arith) c.if-path-at-eq47.true h

pub returns-then-left-eq0-clause-form : goal.returns-then-left-eq0-clause-form
returns-then-left-eq0-clause-form c = λ h. front_path c.args.path.now c.loop-at.at (omega arith) c.if-path-at-eq47.true h

pub returns-clause-text : goal.returns-clause-text
returns-clause-text c = λ h. is_text-from_IsText c.args.path.now h
