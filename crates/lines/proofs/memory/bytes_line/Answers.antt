use Rattle.std.proofs.Common.{rules}
use Rattle.lines.proofs.Bytes.{onward, ended}
use Rattle.lines.proofs.memory.bytes_line.Goals as goal

pub loop-at-preserved : goal.loop-at-preserved
loop-at-preserved c = onward _ _ _ _ _ c.loop-at.invariant (rw (← c.min-stop.ensures) c.loop-at-test.true) (search rules)

pub returns : goal.returns
returns c = ended _ _ _ _ _ c.loop-at.invariant (rw (← c.min-stop.ensures) c.loop-at-test.false)
