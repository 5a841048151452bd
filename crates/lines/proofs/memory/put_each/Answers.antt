use Rattle.std.proofs.Common.{rules}
use Rattle.lines.proofs.Each.{onward, ended}
use Rattle.lines.proofs.memory.put_each.Goals as goal

pub loop-i-preserved : goal.loop-i-preserved
loop-i-preserved g c =
    onward _ _ _ _ _ _ _ c.loop-i.invariant c.loop-i-test.true c.byte_of.ensures c.put.ensures (search rules)

pub returns : goal.returns
returns g c = ended _ _ _ _ _ _ _ c.loop-i.invariant c.loop-i-test.false
