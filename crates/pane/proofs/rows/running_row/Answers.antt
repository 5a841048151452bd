use Rattle.std.proofs.Common.{rules, ne_eqb}
use Rattle.text.proofs.Cuts.{then}
use Rattle.pane.specs.Rows.{running_row}
use Rattle.pane.proofs.rows.running_row.Goals as goal

pub returns-in-21 : goal.returns-in-21
unfolding running_row
returns-in-21 c =
    rw
    (← c.byte.ensures, ne_eqb _ _ c.if-byte-eq0.false, c.in-21.is, ← c.byte-in-21.ensures, ← c.byte-in-21-2.ensures, ← c.from-in-21.ensures)
    (search (rules, then))

pub returns-in-22 : goal.returns-in-22
unfolding running_row
returns-in-22 c =
    rw (← c.byte.ensures, ne_eqb _ _ c.if-byte-eq0.false, c.in-22.is, ← c.byte-in-22.ensures) (search (rules, then))
