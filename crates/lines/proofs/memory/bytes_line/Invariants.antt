use Rattle.std.proofs.Common.{◌≡◌, ◌+◌, ◌-◌}
use Rattle.text.specs.Shown.{text_of}
use Rattle.lines.specs.Memory.{bytes_line, bytes_text}
use Rattle.lines.proofs.memory.bytes_line.Given as goal

abbrev pub invariant-loop-at : goal.invariant-loop-at
invariant-loop-at l =
    bytes_line l.fn.kind l.memory l.from l.end ≡ bytes_text (l.from + 16 - l.at) l.memory l.at l.end (text_of l.line)
