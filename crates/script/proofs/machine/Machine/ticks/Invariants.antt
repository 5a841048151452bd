use Rattle.std.proofs.Common.{◌≡◌, ◌+◌, ◌-◌}
use Rattle.script.specs.Lent.{KeepsBuffers, lent}
use Rattle.script.specs.Operations.{cycles_row, play_cycles}
use Rattle.script.proofs.machine.Machine.ticks.Given as goal

-- what is played so far, and what is to come, are the whole
abbrev pub invariant-loop-cycle : goal.invariant-loop-cycle
invariant-loop-cycle l = record {
  played :
      cycles_row l.inputs l.answer l.count l.first (lent l.fn.self)
      ≡ play_cycles l.inputs l.answer (l.first + l.count - l.cycle) l.cycle (l.agree, lent l.self);
  buffers : KeepsBuffers l.fn.self l.self;
}
