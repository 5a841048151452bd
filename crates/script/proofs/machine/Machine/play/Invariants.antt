use Rattle.std.proofs.Common.{◌≡◌, ◌||◌, ◌&&◌, drop}
use Rattle.script.specs.Lent.{KeepsBuffers, lent}
use Rattle.script.specs.Lines.{chosen, is_some, play_line, play_rows}
use Rattle.script.proofs.machine.Machine.play.Given as goal

-- what is played so far, and the rows to come, are the whole
abbrev pub invariant-loop-row : goal.invariant-loop-row
invariant-loop-row l =
    let rest = chosen l.line l.on (drop l.row-index l.script) in
    let x = play_rows l.line rest (l.agree, lent l.self) in record {
      played : play_line l.script l.line (lent l.fn.self) ≡ ((l.found || is_some rest) && x.0, x.1);
      buffers : KeepsBuffers l.fn.self l.self;
    }
