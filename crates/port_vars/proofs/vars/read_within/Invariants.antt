use Rattle.port_vars.proofs.ReadSoFar.{ReadSoFar}
use Rattle.port_vars.proofs.vars.read_within.Given as goal

abbrev pub invariant-loop-line : goal.invariant-loop-line
invariant-loop-line l = ReadSoFar l.limits l.line-items l.line-index l.values
