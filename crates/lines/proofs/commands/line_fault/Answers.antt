use Rattle.std.proofs.Common.{lt-ltb, arith}
use Rattle.text.specs.Shown.{◌⊕◌}
use Rattle.lines.specs.Commands.{line_fault}
use Rattle.lines.proofs.commands.line_fault.Goals as goal

pub returns-then-line-ge-WIDTH : goal.returns-then-line-ge-WIDTH
unfolding line_fault ◌⊕◌
returns-then-line-ge-WIDTH c =
    rw (lt-ltb 159 _ c.if-line-ge-WIDTH.true) (c.from.ensures, omega arith)
