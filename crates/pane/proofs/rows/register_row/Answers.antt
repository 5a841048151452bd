use Rattle.text.proofs.Cuts.{then}
use Rattle.pane.proofs.Pane.{agrees, differs}
use Rattle.pane.proofs.rows.register_row.Goals as goal

pub returns-then-read-value : goal.returns-then-read-value
returns-then-read-value c =
    agrees _ _ c.held-value.ensures c.read_gives-read.ensures c.name.ensures (rw c.from.ensures at c.hex.ensures)
    c.spelled-line.ensures c.if-read-value.true

pub returns : goal.returns
returns c =
    differs _ _ c.held-value.ensures c.read_gives-read.ensures c.name.ensures (rw c.from.ensures at c.hex.ensures)
    c.spelled-line.ensures c.if-read-value.false (then _ c.text.ensures (rw c.from-2.ensures at c.hex-2.ensures))
