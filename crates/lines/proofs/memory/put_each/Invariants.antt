use Rattle.lines.proofs.Each.{Left}
use Rattle.lines.proofs.memory.put_each.Given as goal

abbrev pub invariant-loop-i : goal.invariant-loop-i
invariant-loop-i g l = Left g.T.Target.after l.line l.initial.bytes l.from l.i-end l.i l.bytes
