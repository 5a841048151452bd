use Rattle.std.proofs.Common.{◌≡◌, ◌≤◌, drop}
use Rattle.script.specs.Lent.{KeepsBuffers, lent}
use Rattle.script.specs.Lines.{count_lines, play_table}
use Rattle.script.proofs.machine.Machine.play_table.Given as goal

-- what is counted so far, and the lines to come, are the whole
abbrev pub invariant-loop-line : goal.invariant-loop-line
invariant-loop-line l = record {
  counted :
      play_table l.script l.table (lent l.fn.self)
      ≡ count_lines l.script (drop l.line-index l.table) (l.agreeing, lent l.self);
  bound : l.agreeing ≤ l.line-index;
  buffers : KeepsBuffers l.fn.self l.self;
}
