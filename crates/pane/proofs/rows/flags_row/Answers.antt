use Rattle.text.proofs.Cuts.{then}
use Rattle.pane.specs.Rows.{flags_row}
use Rattle.pane.proofs.rows.flags_row.Goals as goal

pub returns-in-13 : goal.returns-in-13
unfolding flags_row
returns-in-13 c = rw (c.in-13.is, ← c.byte-flags.ensures) (then _ c.new-line.ensures c.bits-in-13.ensures)

pub returns-in-15 : goal.returns-in-15
unfolding flags_row
returns-in-15 c = rw (c.in-15.is, ← c.byte.ensures) (then _ c.new-line.ensures c.bits-in-15.ensures)
